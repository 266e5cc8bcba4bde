-- Report (document 01, "The three calls", Report; dMARS 8.1, NewExternalEvent; 8.4.2, performintaction).
use Rattle.std.specs.Prelude.{ℕ, ◌+◌, Bool, cond, not, ◌&&◌, List, [], ◌∷◌, ◌++◌, ltb, leb, eqb}
use Rattle.lists.specs.Counts.{count}
use Rattle.literal.specs.declared.Literal.{Literal}
use Rattle.literal.specs.Literal.{is_ground}
use Rattle.belief.specs.declared.Change.{Change}
use Rattle.belief.specs.Beliefs.{fits, replay}
use Rattle.model.specs.declared.Event.{Event}
use Rattle.model.specs.declared.Origin.TheVariants.{External}
use Rattle.model.specs.declared.Answer.TheVariants.{Taken}
use Rattle.model.specs.State.{most_number, most_external, AgentState, Reply, reply, refuse}
use Rattle.model.specs.Live.{is_external}
use Rattle.model.specs.Changes.{change_of, effective}

-- the kind of an event that was told: it changes no belief
abbrev pub told_kind : ℕ
told_kind = 2

-- ---- Refusals

-- kind 0..2 and a ground literal
unfoldable pub is_reportable : ℕ → Literal → Bool
is_reportable kind literal = leb kind told_kind && is_ground literal

-- kind 0, literal and opposite absent, 64 beliefs
unfoldable pub is_overfull : List Literal → ℕ → Literal → Bool
is_overfull beliefs kind literal = eqb kind 0 && not (fits beliefs literal)

-- the refusal's number, 0 where there is none: 5, 9, 7, 6 in this order
unfoldable pub report_refusal : AgentState → ℕ → Literal → ℕ
report_refusal s kind literal =
    cond (not (is_reportable kind literal)) 5
    (cond (leb most_number s.taken) 9
    (cond (leb most_external (count is_external s.queue)) 7
    (cond (is_overfull s.beliefs kind literal) 6 0)))

-- ---- The event

-- kind 0 adds to the beliefs, 1 removes, 2 neither
unfoldable pub report_changes : List Literal → ℕ → Literal → List Change
report_changes beliefs kind literal = cond (ltb kind told_kind) (effective beliefs (change_of kind literal)) []

-- an external event, for which no plan has failed
abbrev pub new_event : ℕ → ℕ → Literal → Event
new_event number kind literal = record { origin = External number; kind = kind; literal = literal; failed = 0 }

-- an external event joins the queue's end, numbered from 1
unfoldable pub take_in : AgentState → ℕ → Literal → List Change → Reply
take_in s kind literal changes =
    reply (Taken (s.taken + 1)) changes
    (record {
      beliefs = replay s.beliefs changes;
      queue = s.queue ++ (new_event (s.taken + 1) kind literal ∷ []);
      stacks = s.stacks;
      taken = s.taken + 1;
      made = s.made;
    })

-- by the refusal's number, 0 where the event is taken
unfoldable pub report_by : AgentState → ℕ → Literal → ℕ → Reply
report_by s kind literal refusal =
    cond (eqb refusal 0) (take_in s kind literal (report_changes s.beliefs kind literal)) (refuse refusal s)

-- report
unfoldable pub reported : AgentState → ℕ → Literal → Reply
reported s kind literal = report_by s kind literal (report_refusal s kind literal)
