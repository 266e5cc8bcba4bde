-- What a worker gives for a reply of the model.
-- Private vocabulary: no public contract rests on this file.
use Rattle.std.specs.Prelude.{◌≤◌, ◌≡◌, true}
use Rattle.model.specs.State.{most_changes, Reply}
use Rattle.model.specs.Calls.{is_refusal}
use Rattle.state.specs.declared.State.{State}
use Rattle.state.specs.View.{counts_fit}
use Rattle.steps.specs.declared.Acted.{Acted}
use Rattle.steps.specs.View.{view_acted}

-- the reply, and every count is within its array
pub record Replies (expected : Reply) (r : Acted) : Type 0 where
  pub means : view_acted r ≡ expected
  pub fit : counts_fit r.state ≡ true
  pub count : r.result.count ≤ most_changes

-- the same, and a refusal leaves every place of the state as it was
pub record Gives (s : State) (expected : Reply) (r : Acted) : Type 0 where
  pub means : view_acted r ≡ expected
  pub fit : counts_fit r.state ≡ true
  pub count : r.result.count ≤ most_changes
  pub refused : is_refusal r.result.answer ≡ true → r.state ≡ s
