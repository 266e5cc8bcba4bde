-- What writing a whole image gives: private vocabulary of the function that writes it (docs/IMAGE-FORMAT.md; document 02, request 3).
use Rattle.std.specs.Prelude.{ℕ, ◌≤◌, ◌≡◌, List, length, take}
use Rattle.state.specs.declared.State.{State}
use Rattle.state.specs.View.{view_state}
use Rattle.image.specs.declared.form.Form.{Form}
use Rattle.image.specs.Image.{image_as, most_image}

-- the image in the first bytes of the buffer, in a form
pub record WritesImage (form : Form) (library : List ℕ) (s : State) (after : List ℕ) (size : ℕ) : Type 0 where
  pub image : take size after ≡ image_as form library (view_state s)
  pub room : size ≤ length after
  pub few : size ≤ most_image
