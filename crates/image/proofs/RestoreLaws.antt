-- Laws of restoring: the answer by the two tests of the code.
use Prim.Native.Nat.{ℕ, ◌≤◌}
use native.Mathlib.Omega.{arith}
use mathlib.Core.Path.{◌≡◌, refl, ap, sym, subst, ◌∙◌}
use mathlib.Core.Bool.{true, false, ◌&&◌}
use mathlib.Core.List.{List, ◌++◌}
use lib.Dec.{eqb}
use lib.ListN.{length, length-append, length-drop, drop}
use lib.Seq.{take_at}
use Rattle.library.specs.Layout.{library_of}
use Rattle.accepted.specs.Refusal.{most_bytes, refusal_of}
use Rattle.model.specs.WellFormed.{is_well_formed}
use Rattle.state.specs.declared.State.{State}
use Rattle.state.specs.View.{view_state}
use Rattle.formed.specs.Formed.{is_state_formed, is_formed}
use Rattle.load.specs.Load.{Holds}
use Rattle.image.specs.declared.form.Form.{Form}
use Rattle.std.specs.Str.{bytes_eq}
use Rattle.image.specs.Image.{image_as, form_in, library_as, state_as, is_image, is_formed_in, image_refusal}
use Rattle.image.specs.Reads.{ReadsState}
use Rattle.image.specs.Restores.{Restored}

module _ (image : List ℕ) (form : Form) (same : form ≡ form_in image) (s : State) (r : ReadsState form image s) where
  -- the test of 12
  image_test : bytes_eq image (image_as form (library_as form image) (view_state s)) ≡ is_image image
  unfolding is_image
  image_test = rw r.means (ap (λ (f : Form). bytes_eq image (image_as f (library_as f image) (state_as f image))) same)

  -- the test of 10
  formed_test : is_formed (library_as form image) s ≡ is_formed_in image
  unfolding is_formed is_state_formed is_formed_in
  formed_test =
      rw (r.means, r.fit)
      (ap (λ (f : Form). eqb (refusal_of (library_as f image)) 0 && is_well_formed (library_of (library_as f image)) (state_as f image)) same)

  pub refused-image : bytes_eq image (image_as form (library_as form image) (view_state s)) ≡ false → 12 ≡ image_refusal image
  unfolding image_refusal
  refused-image f = rw (sym image_test ∙ f) refl

  pub refused_formed : {library : List ℕ} → library ≡ library_as form image → bytes_eq image (image_as form (library_as form image) (view_state s)) ≡ true
      → is_formed library s ≡ false → 10 ≡ image_refusal image
  unfolding image_refusal
  refused_formed l t f = rw (sym image_test ∙ t, sym formed_test ∙ (rw l at f)) refl

  -- accepted: the library is copied to the front of an array
  pub restored : {library : List ℕ} → library ≡ library_as form image → bytes_eq image (image_as form (library_as form image) (view_state s)) ≡ true
      → is_formed library s ≡ true → (part zeros : List ℕ) → part ≡ library → length zeros ≡ most_bytes → length library ≤ most_bytes
      → Restored image (record { library = part ++ drop (length library) zeros; length = length library; state = s })
  unfolding image_refusal
  restored {library} l t f part zeros copied long few = record {
    accepted = rw (sym image_test ∙ t, sym formed_test ∙ (rw l at f)) refl;
    copy = take_at part (drop (length library) zeros) (length library) (ap length copied) ∙ copied ∙ l ∙ ap (λ (k : Form). library_as k image) same;
    state = r.means ∙ ap (λ (k : Form). state_as k image) same;
    table = subst (λ (k : Form). Holds (state_as k image).beliefs s.beliefs) same r.table;
    fit = r.fit;
    within = few;
    places = omega (arith, length-append part (drop (length library) zeros), length-drop (length library) zeros, ap length copied);
  }
