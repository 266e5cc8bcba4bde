-- What a step makes of a state, and its result.
use Rattle.std.specs.Prelude.{ℕ, [], ◌∷◌}
use Rattle.literal.specs.Environment.{empty_env}
use Rattle.belief.specs.declared.Beliefs.{Beliefs}
use Rattle.model.specs.declared.Answer.{Answer}
use Rattle.model.specs.declared.Answered.{Answered}
use Rattle.model.specs.declared.Instance.{Instance}
use Rattle.model.specs.declared.Status.TheVariants.{Active}
use Rattle.state.specs.declared.Stack.{Stack}
use Rattle.state.specs.declared.State.{State}
use Rattle.moves.specs.declared.QueueMove.{QueueMove}
use Rattle.moves.specs.declared.QueueMove.TheVariants as queue
use Rattle.moves.specs.declared.StackMove.{StackMove}
use Rattle.moves.specs.declared.StackMove.TheVariants as stacks
use Rattle.moves.specs.declared.Numbering.{Numbering}
use Rattle.moves.specs.declared.Numbering.TheVariants as numbering
use Rattle.moves.specs.Moves.{requeue, restack, taken_by, made_by}
use Rattle.steps.specs.declared.Acted.{Acted}
use Rattle.steps.specs.declared.step.Step.{Step}
use Rattle.trials.specs.Altered.{untouched}

-- ---- The stack of a step

-- a stack of one instance, for an external event
abbrev pub opened_stack : ℕ → Instance → Stack
opened_stack external x = record { top = x; below = x ∷ x ∷ x ∷ x ∷ x ∷ x ∷ x ∷ []; depth = 0; external = external }

-- what stands in a step that puts no stack
abbrev pub blank_stack : Stack
blank_stack = opened_stack 0 (record { id = 0; plan = 0; env = empty_env; state = 0; tried = 0; status = Active })

-- ---- What a step makes of a state

abbrev pub result_of : Step → Answered
result_of t = record { answer = t.answer; changes = t.altered.changes; count = t.altered.count }

-- the state with the queue and the stacks moved, the altered table and the numbers
abbrev pub state_after : State → Step → State
state_after s t =
    let u = restack t.stacks t.stack (requeue t.queue s) in
    record {
      beliefs = t.altered.table;
      queue = u.queue;
      queued = u.queued;
      stacks = u.stacks;
      stacked = u.stacked;
      taken = taken_by t.numbering u.taken;
      made = made_by t.numbering u.made;
    }

abbrev pub applied : State → Step → Acted
applied s t = record { state = state_after s t; result = result_of t }

-- ---- Steps that change no belief

abbrev pub plain_step : Beliefs → Answer → QueueMove → StackMove → Stack → Numbering → Step
plain_step beliefs answer queue stacks stack numbering =
    record { answer = answer; altered = untouched beliefs; queue = queue; stacks = stacks; stack = stack; numbering = numbering }

-- nothing moves
abbrev pub rest_step : Beliefs → Answer → Step
rest_step beliefs answer = plain_step beliefs answer queue.Keep stacks.Keep blank_stack numbering.Keep
