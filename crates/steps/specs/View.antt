-- What a result and a state mean together: the model's reply. What stands where in a state.
use Rattle.std.specs.Prelude.{ℕ, ◌≡◌, length, get_or, replicate}
use Rattle.model.specs.declared.Answer.{Answer}
use Rattle.model.specs.declared.Answered.{Answered}
use Rattle.model.specs.declared.Event.{Event}
use Rattle.model.specs.State.{most_stacks, most_queued, most_changes, Reply, view_result, no_event}
use Rattle.trials.specs.Altered.{no_change}
use Rattle.state.specs.declared.Stack.{Stack}
use Rattle.state.specs.declared.State.{State}
use Rattle.state.specs.View.{no_stack, view_state}
use Rattle.steps.specs.declared.Acted.{Acted}

-- ---- A result with the state after it

abbrev pub view_acted : Acted → Reply
view_acted a = record { result = view_result a.result; state = view_state a.state }

-- an answer with no changes
abbrev pub plain : Answer → Answered
plain answer = record { answer = answer; changes = replicate most_changes no_change; count = 0 }

-- such an answer, and the state after it
abbrev pub plainly : State → Answer → Acted
plainly s answer = record { state = s; result = plain answer }

-- ---- A state

abbrev pub event_at : State → ℕ → Event
event_at s place = get_or s.queue place no_event

abbrev pub stack_at : State → ℕ → Stack
stack_at s place = get_or s.stacks place no_stack

-- the arrays have their lengths, as in every state of the code
pub record Sized (s : State) : Type 0 where
  pub queue : length s.queue ≡ most_queued
  pub stacks : length s.stacks ≡ most_stacks
