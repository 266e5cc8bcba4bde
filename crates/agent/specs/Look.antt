-- What a look at the stacks and the number of queued events tells of a line (document 01, "The three calls").
-- Private vocabulary: no public contract rests on this file.
use Rattle.std.specs.Prelude.{ℕ, ◌<◌, ◌≤◌, ◌≡◌, Bool, true, false, ◌&&◌, ◌||◌, length, ltb, Option, None, Some}
use Rattle.std.specs.List.{list_any}
use Rattle.lists.specs.Search.{position}
use Rattle.model.specs.declared.Answer.{Answer}
use Rattle.model.specs.declared.Answer.TheVariants.{Idle, Refused}
use Rattle.model.specs.State.{most_stacks, Call, report, cycle, outcome}
use Rattle.model.specs.Live.{live}
use Rattle.model.specs.Turn.{is_running}
use Rattle.model.specs.Outcome.{is_awaiting}
use Rattle.state.specs.declared.State.{State}
use Rattle.state.specs.View.{view_stacks}
use Rattle.state.specs.Search.{is_asleep}
use Rattle.agent.specs.declared.look.Look.{Look}
use Rattle.agent.specs.declared.look.Look.TheVariants as look
use Rattle.agent.specs.Feed.{refusal_for}

-- there are more events than live instances, and there is room for a stack or a suspended top
unfoldable pub may_take_up : State → Bool
may_take_up s = ltb (length (live (view_stacks s))) s.queued && (ltb s.stacked most_stacks || list_any is_asleep (view_stacks s))

module _ (formed : Bool) (s : State) where
  -- what is answered while the state stays as it is
  pub data Answers : Option Call → Answer → Type 0 where
    unformed : (call : Option Call) → formed ≡ false → Answers call (Refused (refusal_for call))
    unread : Answers None (Refused 0)
    idle : formed ≡ true → may_take_up s ≡ false → s.stacked ≤ position is_running (view_stacks s) → Answers (Some cycle) Idle
    unawaited : formed ≡ true → (id : ℕ) (worked : Bool) → s.stacked ≤ position (is_awaiting id) (view_stacks s)
        → Answers (Some (outcome id worked)) (Refused 8)

  -- the answer, or what is to be done on a well-formed state
  abbrev pub Looks : Option Call → Look → Type 0
  Looks call (look.Answered answer) = Answers call answer
  Looks call (look.Reports kind l) = (formed ≡ true) × (call ≡ Some (report kind l))
  Looks call look.Searches = (formed ≡ true) × (call ≡ Some cycle)
  Looks call (look.Turns place) =
      (formed ≡ true) × (call ≡ Some cycle) × (may_take_up s ≡ false)
      × (place ≡ position is_running (view_stacks s)) × (place < s.stacked)
  Looks call (look.Tells place worked) =
      (formed ≡ true)
      × ((id : ℕ) × (call ≡ Some (outcome id worked)) × (place ≡ position (is_awaiting id) (view_stacks s)) × (place < s.stacked))
