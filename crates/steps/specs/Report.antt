-- What the step of a report is (document 01, "The three calls", Report), and the states that it is for.
use Rattle.std.specs.Prelude.{ℕ, ◌+◌, ◌<◌, ◌≡◌, true, List, []}
use Rattle.literal.specs.declared.Literal.{Literal}
use Rattle.belief.specs.declared.Beliefs.{Beliefs}
use Rattle.belief.specs.Beliefs.{view}
use Rattle.model.specs.declared.Answer.TheVariants.{Taken, Refused}
use Rattle.model.specs.declared.Event.{Event}
use Rattle.model.specs.State.{most_number, most_queued, AgentState}
use Rattle.model.specs.Report.{report_refusal, report_changes, new_event}
use Rattle.trials.specs.declared.changes.Altered.{Altered}
use Rattle.trials.specs.Altered.{Alters}
use Rattle.state.specs.declared.State.{State}
use Rattle.state.specs.View.{view_state, counts_fit}
use Rattle.moves.specs.declared.QueueMove.TheVariants as queue
use Rattle.moves.specs.declared.StackMove.TheVariants as stacks
use Rattle.moves.specs.declared.Numbering.TheVariants as numbering
use Rattle.steps.specs.declared.step.Step.{Step}
use Rattle.steps.specs.View.{Sized}
use Rattle.steps.specs.Step.{blank_stack, rest_step}

-- ---- The step

-- what a report asks of the model's state
abbrev pub heard : Beliefs → List Event → ℕ → AgentState
heard beliefs queue taken = record { beliefs = view beliefs; queue = queue; stacks = []; taken = taken; made = 0 }

-- a new event at the queue's end, numbered after the last one taken, and the table
abbrev pub taken_step : ℕ → ℕ → Literal → Altered → Step
taken_step taken kind l altered =
    record {
      answer = Taken (taken + 1);
      altered = altered;
      queue = queue.Enqueue (new_event (taken + 1) kind l);
      stacks = stacks.Keep;
      stack = blank_stack;
      numbering = numbering.Taken (taken + 1);
    }

-- the report is taken in, with its change of the beliefs
pub record TakesIn (beliefs : Beliefs) (taken kind : ℕ) (l : Literal) (t : Step) : Type 0 where
  pub altered : Alters beliefs (report_changes (view beliefs) kind l) t.altered
  pub step : t ≡ taken_step taken kind l t.altered

-- refused by its number, taken in where that is 0
pub record Reports (beliefs : Beliefs) (queue : List Event) (taken kind : ℕ) (l : Literal) (t : Step) : Type 0 where
  pub refused : (report_refusal (heard beliefs queue taken) kind l ≡ 0 → ⊥)
      → t ≡ rest_step beliefs (Refused (report_refusal (heard beliefs queue taken) kind l))
  pub taken_in : report_refusal (heard beliefs queue taken) kind l ≡ 0 → TakesIn beliefs taken kind l t

-- ---- The states that it is for

-- the counts fit, a number is left and the queue has room
pub record HasNumber (s : State) : Type 0 where
  pub sized : Sized s
  pub fit : counts_fit s ≡ true
  pub number : s.taken < most_number
  pub room : s.queued < most_queued

-- the counts fit, and the queue has room for a report that is not refused
pub record Hears (s : State) (kind : ℕ) (l : Literal) : Type 0 where
  pub sized : Sized s
  pub fit : counts_fit s ≡ true
  pub room : report_refusal (view_state s) kind l ≡ 0 → s.queued < most_queued
