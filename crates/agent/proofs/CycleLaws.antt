-- What the code of a cycle answers, in the model's terms.
use Prim.Native.Nat.{ℕ, ◌<◌, ◌≤◌}
use native.Mathlib.Omega.{arith}
use mathlib.Core.Path.{◌≡◌, refl, ap, sym, ◌∙◌}
use mathlib.Core.Bool.{true, false}
use Rattle.std.specs.Prelude.{Option, None, Some}
use mathlib.Core.List.{List}
use lib.ListN.{length, length-map}
use lib.Seq.{get_or-take}
use Rattle.std.specs.List as std
use Rattle.lists.specs.Search.{position}
use Rattle.lists.proofs.PositionLaws.{position_some, position_none}
use Rattle.lists.specs.Places.{Placed}
use Rattle.lists.proofs.PlaceLaws.{first_at, first-none}
use Rattle.library.specs.declared.Branch.{Branch}
use Rattle.library.specs.Plan.{Library}
use Rattle.library.specs.Layout.{library_of}
use Rattle.model.specs.declared.Event.{Event}
use Rattle.model.specs.declared.Answer.TheVariants.{Idle}
use Rattle.model.specs.State.{Intention, AgentState, no_event}
use Rattle.model.specs.Live.{live, is_ready}
use Rattle.model.specs.Try.{Try, missed, stepped, done, posted, attempt, tried}
use Rattle.model.specs.End.{end_top, succeed, fail}
use Rattle.model.specs.Turn.{Move, fails, succeeds, tries, next_move, turn_by, turn, is_running, height_of}
use Rattle.model.specs.Event.{take_up}
use Rattle.model.specs.Cycle.{next_event, next_stack, choice_for, cycle_by, cycled}
use Rattle.model.specs.Calls.{is_refusal}
use Rattle.state.specs.declared.State.{State}
use Rattle.state.specs.View.{no_stack, view_stack, queued_of, stacked_of, view_queue, view_stacks, view_state, counts_fit}
use Rattle.state.proofs.ViewLaws.{length_queue, length-stacks, stack_at_lem}
use Rattle.steps.specs.declared.Acted.{Acted}
use Rattle.steps.specs.View.{plainly, event_at, stack_at}
use Rattle.steps.specs.Gives.{Replies, Gives}
use Rattle.agent.specs.TakeUp.{standing}
use Rattle.agent.specs.Turnable.{placed}
use Rattle.steps.proofs.GivesLaws.{gives_as, gives_same, gives_answer}

-- ---- A turn is never refused

tried-answers : (s : AgentState) (k : Placed Intention) (b : Branch) (t : Try) → is_refusal (tried s k b t).result.answer ≡ false
unfolding tried
tried-answers s k b missed = refl
tried-answers s k b (stepped env changes) = refl
tried-answers s k b (done literal) = refl
tried-answers s k b (posted goal) = refl

turn_by-answers : (library : Library) (s : AgentState) (k : Placed Intention) (m : Move) → is_refusal (turn_by library s k m).result.answer ≡ false
unfolding turn_by succeed fail end_top
turn_by-answers library s k fails = refl
turn_by-answers library s k succeeds = refl
turn_by-answers library s k (tries b) = tried-answers s k b (attempt s.beliefs (height_of k.it) k.it.top.env b)

turn-answers : (library : Library) (s : AgentState) (k : Placed Intention) → is_refusal (turn library s k).result.answer ≡ false
unfolding turn
turn-answers library s k = turn_by-answers library s k (next_move library s.beliefs k.it.top)

-- ---- The event that the search found, or that there is none

module _ (s : State) (queue_size : length s.queue ≡ 88) (found : Option ℕ)
    (f : found ≡ std.position (is_ready (live (view_stacks s)) (length (standing s))) (view_queue s)) where
  seen : found ≡ std.position (is_ready (live (view_stacks s)) (length (view_stacks s))) (view_queue s)
  seen = f ∙ ap (λ (n : ℕ). std.position (is_ready (live (view_stacks s)) n) (view_queue s)) (sym (length-map (standing s) view_stack))

  pub event_found : (place : ℕ) → found ≡ Some place
      → (place ≡ position (is_ready (live (view_stacks s)) (length (view_stacks s))) (view_queue s)) × (place < queued_of s)
  event_found place h =
      let at = position_some (is_ready (live (view_stacks s)) (length (view_stacks s))) (view_queue s) place (sym h ∙ seen) in
      (at.0, omega (arith, at.1, length_queue s queue_size))

  pub event_missing : found ≡ None → queued_of s ≤ position (is_ready (live (view_stacks s)) (length (view_stacks s))) (view_queue s)
  event_missing h =
      omega (arith, position_none (is_ready (live (view_stacks s)) (length (view_stacks s))) (view_queue s) (sym h ∙ seen), length_queue s queue_size)

-- ---- The three ways

abbrev placed_event : State → ℕ → Placed Event
placed_event s place = record { place = place; it = event_at s place }

module _ (bytes : List ℕ) (s : State) (queue_size : length s.queue ≡ 88) (stacks-size : length s.stacks ≡ 8)
    (waiting : ℕ) (e : waiting ≡ position (is_ready (live (view_stacks s)) (length (view_stacks s))) (view_queue s)) where
  pub cycled_event : waiting < queued_of s → (r : Acted) → Gives s (take_up (view_state s) (placed_event s waiting) (choice_for (library_of bytes) (view_state s) (event_at s waiting))) r
      → Gives s (cycled (library_of bytes) (view_state s)) r
  unfolding cycled next_event cycle_by
  cycled_event low r t =
      let it = get_or-take (queued_of s) s.queue waiting no_event low in
      let found : next_event (view_state s) ≡ Some (placed_event s waiting)
      = first_at (is_ready (live (view_stacks s)) (length (view_stacks s))) (view_queue s) waiting no_event e (omega (arith, length_queue s queue_size))
      ∙ ap (λ (x : Event). Some (record { place = waiting; it = x })) it in
      gives_as (sym (ap (λ (o : Option (Placed Event)). cycle_by (library_of bytes) (view_state s) o (next_stack (view_state s))) found)) t

  module _ (past : queued_of s ≤ waiting) where
    no_event_lem : next_event (view_state s) ≡ None
    unfolding next_event
    no_event_lem = first-none (is_ready (live (view_stacks s)) (length (view_stacks s))) (view_queue s) waiting e (omega (arith, length_queue s queue_size))

    module _ (running : ℕ) (f : running ≡ position is_running (view_stacks s)) where
      pub cycled-turn : running < stacked_of s → (r : Acted) → Replies (turn (library_of bytes) (view_state s) (placed running (stack_at s running))) r
          → Gives s (cycled (library_of bytes) (view_state s)) r
      unfolding cycled next_stack cycle_by
      cycled-turn low r t =
          let found : next_stack (view_state s) ≡ Some (placed running (stack_at s running))
          = first_at is_running (view_stacks s) running (view_stack no_stack) f (omega (arith, length-stacks s stacks-size))
          ∙ ap (λ (k : Intention). Some (record { place = running; it = k })) (stack_at_lem s running no_stack low) in
          let way : cycled (library_of bytes) (view_state s) ≡ turn (library_of bytes) (view_state s) (placed running (stack_at s running))
          = ap (λ (o : Option (Placed Event)). cycle_by (library_of bytes) (view_state s) o (next_stack (view_state s))) no_event_lem
          ∙ ap (cycle_by (library_of bytes) (view_state s) None) found in
          gives_as (sym way) (gives_answer s _ r (turn-answers (library_of bytes) (view_state s) (placed running (stack_at s running))) t)

      pub cycled_idle : stacked_of s ≤ running → counts_fit s ≡ true → (r : Acted) → r ≡ plainly s Idle → Gives s (cycled (library_of bytes) (view_state s)) r
      unfolding cycled next_stack cycle_by
      cycled_idle high fits r z =
          let nobody : next_stack (view_state s) ≡ None = first-none is_running (view_stacks s) running f (omega (arith, length-stacks s stacks-size)) in
          let way = ap (λ (o : Option (Placed Event)). cycle_by (library_of bytes) (view_state s) o (next_stack (view_state s))) no_event_lem
          ∙ ap (cycle_by (library_of bytes) (view_state s) None) nobody in
          gives_as (sym way) (gives_same s Idle r z fits)
