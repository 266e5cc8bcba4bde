-- Outcome (document 01, "The three calls", Outcome; dMARS 8.4.1, BranchExtActionSucceed and BranchExtActionFail).
-- Departs from dMARS: the outcome comes by a call of its own, and is no second try; it binds nothing, where 8.4.1 composes the action's
-- bindings into the environment.
use Rattle.std.specs.Prelude.{ℕ, Bool, true, false, ◌&&◌, [], eqb, set, Option, None, Some}
use Rattle.lists.specs.Places.{Placed, first}
use Rattle.library.specs.Plan.{Library}
use Rattle.model.specs.declared.Instance.{Instance}
use Rattle.model.specs.declared.Answer.TheVariants.{Stepped, Missed}
use Rattle.model.specs.State.{Intention, AgentState, Reply, reply, refuse, after}
use Rattle.model.specs.Instance.{is_waiting, last_tried, awake, past_branch}
use Rattle.model.specs.Try.{with_top}

-- the top has this id and waits: who waits is the top of its stack
abbrev pub is_awaiting : ℕ → Intention → Bool
is_awaiting id stack = eqb id stack.top.id && is_waiting stack.top.status

-- the stack's top is another; turn order stays
abbrev pub in_turn : AgentState → Placed Intention → Instance → AgentState
in_turn s stack x = after s [] s.queue (set s.stacks stack.place (with_top stack.it x))

-- 8 for an id not waiting; the waiting instance steps or is missed
unfoldable pub outcome_by : Library → AgentState → Bool → Option (Placed Intention) → Reply
outcome_by library s worked None = refuse 8 s
outcome_by library s true (Some stack) =
    let x = stack.it.top in
    reply (Stepped x.id x.state (last_tried x) (past_branch library x).state) [] (in_turn s stack (past_branch library x))
outcome_by library s false (Some stack) =
    let x = stack.it.top in
    reply (Missed x.id x.state (last_tried x)) [] (in_turn s stack (awake x))

-- outcome: for the waiting instance with this id
unfoldable pub told : Library → AgentState → ℕ → Bool → Reply
told library s id worked = outcome_by library s worked (first (is_awaiting id) s.stacks)
