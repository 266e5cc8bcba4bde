-- What reading the parts of an image gives: private vocabulary of the functions that read (docs/IMAGE-FORMAT.md; document 02, request 3).
use Rattle.std.specs.Prelude.{ℕ, ◌≤◌, ◌≡◌, true, List, map, leb, take}
use Rattle.std.specs.List.{list_all}
use Rattle.model.specs.State.{most_stacks}
use Rattle.state.specs.declared.Stack.{Stack}
use Rattle.state.specs.declared.State.{State}
use Rattle.state.specs.View.{most_below, view_stack, view_state, counts_fit}
use Rattle.load.specs.Load.{Holds}
use Rattle.image.specs.declared.form.Form.{Form}
use Rattle.image.specs.declared.stacks.StackRow.{StackRow}
use Rattle.image.specs.StackImage.{depth_at, stack_at, stacks_at}
use Rattle.image.specs.Image.{state_as}

pub record ReadsStack (form : Form) (image : List ℕ) (at : ℕ) (r : Stack) : Type 0 where
  pub depth : r.depth ≡ depth_at image at
  pub low : r.depth ≤ most_below
  pub means : view_stack r ≡ stack_at form image at

pub record ReadsStacks (form : Form) (image : List ℕ) (at : ℕ) (r : StackRow) : Type 0 where
  pub few : r.count ≤ most_stacks
  pub means : map view_stack (take r.count r.items) ≡ stacks_at form image at
  pub depths : list_all (λ stack. leb stack.depth most_below) (take r.count r.items) ≡ true

pub record ReadsState (form : Form) (image : List ℕ) (s : State) : Type 0 where
  pub means : view_state s ≡ state_as form image
  pub fit : counts_fit s ≡ true
  pub table : Holds (state_as form image).beliefs s.beliefs
