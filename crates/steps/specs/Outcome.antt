-- What the step of an outcome is (document 01, "The three calls", Outcome), and the states that it is for.
use Rattle.std.specs.Prelude.{ℕ, ◌<◌, ◌≡◌, Bool, true, false}
use Rattle.lists.specs.Search.{position}
use Rattle.belief.specs.declared.Beliefs.{Beliefs}
use Rattle.library.specs.Plan.{Library}
use Rattle.model.specs.declared.Answer.{Answer}
use Rattle.model.specs.declared.Answer.TheVariants.{Stepped, Missed}
use Rattle.model.specs.declared.Instance.{Instance}
use Rattle.model.specs.Instance.{last_tried, awake, past_branch}
use Rattle.model.specs.Outcome.{is_awaiting}
use Rattle.state.specs.declared.Stack.{Stack}
use Rattle.state.specs.declared.State.{State}
use Rattle.state.specs.View.{stacked_of, view_stacks, counts_fit}
use Rattle.state.specs.Stacks.{replace_top}
use Rattle.moves.specs.declared.QueueMove.TheVariants as queue
use Rattle.moves.specs.declared.StackMove.TheVariants as stacks
use Rattle.moves.specs.declared.Numbering.TheVariants as numbering
use Rattle.steps.specs.declared.step.Step.{Step}
use Rattle.steps.specs.View.{Sized, stack_at}
use Rattle.steps.specs.Step.{plain_step}

-- ---- The step

-- another instance on top of the stack at a place; turn order stays
abbrev pub topped_step : Beliefs → ℕ → Stack → Instance → Answer → Step
topped_step beliefs place stack x answer =
    plain_step beliefs answer queue.Keep (stacks.Replace place) (replace_top stack x) numbering.Keep

-- the action worked: the instance on top of the stack steps
abbrev pub stepped_on : Library → Beliefs → ℕ → Stack → Step
stepped_on library beliefs place stack =
    let x = stack.top in
    topped_step beliefs place stack (past_branch library x) (Stepped x.id x.state (last_tried x) (past_branch library x).state)

-- the action did not work: the branch is missed
abbrev pub missed_on : Beliefs → ℕ → Stack → Step
missed_on beliefs place stack =
    let x = stack.top in
    topped_step beliefs place stack (awake x) (Missed x.id x.state (last_tried x))

-- by whether it worked
abbrev pub told_step : Library → Beliefs → ℕ → Stack → Bool → Step
told_step library beliefs place stack true = stepped_on library beliefs place stack
told_step library beliefs place stack false = missed_on beliefs place stack

-- ---- The states that it is for

-- this stack, at this place, is the one whose top has the id and waits
pub record Awaits (s : State) (beliefs : Beliefs) (id place : ℕ) (stack : Stack) : Type 0 where
  pub sized : Sized s
  pub fit : counts_fit s ≡ true
  pub beliefs_are : s.beliefs ≡ beliefs
  pub found : place ≡ position (is_awaiting id) (view_stacks s)
  pub there : place < stacked_of s
  pub stack_is : stack_at s place ≡ stack
