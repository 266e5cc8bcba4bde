-- The agent's state as lists (document 01, "State"; dMARS 7.1, Intention; 8.1, dMARSAgentState), its calls and what they give.
-- Departs from dMARS: the queue has a limit, the stacks an order and a limit. A served event stays in the queue, as in 8.3 (NewPlanInst
-- puts it back in its place), until it is closed.
use Rattle.std.specs.Prelude.{ℕ, min, Bool, List, [], take}
use Rattle.literal.specs.declared.Literal.{Literal}
use Rattle.belief.specs.declared.Change.{Change}
use Rattle.belief.specs.Beliefs.{replay}
use Rattle.library.specs.Plan.{no_literal}
use Rattle.model.specs.declared.Event.{Event}
use Rattle.model.specs.declared.Instance.{Instance}
use Rattle.model.specs.declared.Origin.TheVariants.{External}
use Rattle.model.specs.declared.Answer.{Answer}
use Rattle.model.specs.declared.Answer.TheVariants.{Refused}
use Rattle.model.specs.declared.Answered.{Answered}

-- ---- Limits

-- the largest number of an external event or of an instance
abbrev pub most_number : ℕ
most_number = 4294967295

-- the most stacks
abbrev pub most_stacks : ℕ
most_stacks = 8

-- the most instances of a stack
abbrev pub most_height : ℕ
most_height = 8

-- the most external events in the queue
abbrev pub most_external : ℕ
most_external = 32

-- the most events in the queue: the external ones, and a goal for each of seven suspended instances of each stack
abbrev pub most_queued : ℕ
most_queued = 88

-- the most actions of a success or failure list
abbrev pub most_actions : ℕ
most_actions = 4

-- the most belief changes of one call: an add of a list takes out an opposite
abbrev pub most_changes : ℕ
most_changes = 8

-- ---- The state

-- a stack, never empty: the number of the external event that its bottom serves, the top, and those below it from the top down
pub record Intention : Type 0 where
  pub external : ℕ
  pub top : Instance
  pub below : List Instance

-- beliefs oldest first, the queue, the stacks in turn order, how many external events were taken and instances made
pub record AgentState : Type 0 where
  pub beliefs : List Literal
  pub queue : List Event
  pub stacks : List Intention
  pub taken : ℕ
  pub made : ℕ

-- ---- Calls and what they give

-- the three calls: kind and literal; nothing; id and whether it worked
pub data Call : Type 0 where
  report : ℕ → Literal → Call
  cycle : Call
  outcome : ℕ → Bool → Call

-- the answer, and the belief changes that took effect, in order
pub record Result : Type 0 where
  pub answer : Answer
  pub changes : List Change

-- a call's result and the state after it
pub record Reply : Type 0 where
  pub result : Result
  pub state : AgentState

-- a result as the code hands it back: the changes are the first `count` of the array
abbrev pub view_result : Answered → Result
view_result answered = record { answer = answered.answer; changes = take (min answered.count most_changes) answered.changes }

-- an answer with its changes, and the state after it
abbrev pub reply : Answer → List Change → AgentState → Reply
reply answer changes s = record { result = record { answer = answer; changes = changes }; state = s }

-- a refusal leaves the state as it was
abbrev pub refuse : ℕ → AgentState → Reply
refuse number s = reply (Refused number) [] s

-- the state with another queue
abbrev pub requeued : AgentState → List Event → AgentState
requeued s queue = record { beliefs = s.beliefs; queue = queue; stacks = s.stacks; taken = s.taken; made = s.made }

-- the state with other stacks
abbrev pub restacked : AgentState → List Intention → AgentState
restacked s stacks = record { beliefs = s.beliefs; queue = s.queue; stacks = stacks; taken = s.taken; made = s.made }

-- the state after belief changes, with another queue and other stacks
abbrev pub after : AgentState → List Change → List Event → List Intention → AgentState
after s changes queue stacks =
    record { beliefs = replay s.beliefs changes; queue = queue; stacks = stacks; taken = s.taken; made = s.made }

-- what stands where no event is
abbrev pub no_event : Event
no_event = record { origin = External 0; kind = 0; literal = no_literal; failed = 0 }
