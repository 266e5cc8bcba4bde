-- Whatever the bytes, what is read of them is within the limits. So bytes are an image exactly where they are the image of something
-- that an image can hold: 12 is for all others, and for no more.
use Prim.Native.Nat.{ℕ, zero, suc, ◌+◌, ◌*◌, ◌%◌, ◌≤◌, min}
use native.Mathlib.Omega.{arith}
use mathlib.Core.Path.{◌≡◌, refl, ap, sym, subst⁻¹, ◌∙◌}
use mathlib.Core.Bool.{Bool, true, ◌||◌}
use mathlib.Core.List.{List, [], ◌∷◌, reverse, reverse-reverse}
use lib.Dec.{eqb, leb}
use lib.ListN.{length, drop, length-take, length-reverse}
use borrow.Author.Tests.{lt-ltb, le-leb, eq-eqb}
use Rattle.std.specs.List.{list_all}
use Rattle.lists.proofs.BoolLaws.{by_cases, and_both}
use Rattle.lists.proofs.TestLaws.{all-joined}
use Rattle.literal.specs.Literal.{first_variable, is_constant}
use Rattle.literal.specs.Environment.{are_entries, is_env}
use Rattle.belief.specs.Beliefs.{most_beliefs}
use Rattle.library.specs.Bytes.{u16_at, literal_at, items}
use Rattle.library.proofs.RowLaws.{length-items}
use Rattle.accepted.specs.Refusal.{most_bytes}
use Rattle.model.specs.declared.Instance.{Instance}
use Rattle.model.specs.State.{most_queued, most_stacks, AgentState}
use Rattle.state.specs.View.{most_below}
use Rattle.image.specs.declared.form.Form.{Form}
use Rattle.image.specs.declared.form.Form.TheVariants.{Narrow, Wide}
use Rattle.image.specs.Form.{number_size}
use Rattle.image.specs.Words.{word_size, number_at, holds_number}
use Rattle.image.specs.Rows.{row}
use Rattle.image.specs.BeliefImage.{literal_size, beliefs_at}
use Rattle.image.specs.EventImage.{origin_number, origin_of, last_kind, kind_of, is_kind, is_event_storable, event_fields, event_size, event_at, events_at}
use Rattle.image.specs.StackImage.{entry_of, entries_at, env_at, instance_fields, instance_size, instance_at, is_storable, is_stack_storable, upward}
use Rattle.image.specs.StackImage.{stack_fields, depth_at, stack_at, stack_size_at, stacks_at}
use Rattle.image.specs.Image.{length_in, offset_in, contents_size, image_as, can_hold, form_in, library_as, state_as, library_in, state_in, is_image}
use Rattle.image.proofs.RowLaws.{length-entries}
use Rattle.image.proofs.ImageLaws.{Storable, storable_holds, holds_storable, image_again, saved_image}
use Rattle.std.proofs.lemmas.Bool.{or_right}

-- ---- Codes

kind_low : (code : ℕ) → leb (kind_of code) last_kind ≡ true
kind_low code = by_cases (leb code last_kind) (λ h. rw h h) (λ h. rw h refl)

entry_good : (variable term : ℕ) → (is_constant (entry_of variable term) || eqb (entry_of variable term) variable) ≡ true
entry_good variable term =
    by_cases (is_constant term) (λ h. rw h (ap (λ (b : Bool). b || eqb term variable) h))
    (λ h. rw h (or_right (is_constant variable) (eqb variable variable) (eq-eqb variable variable refl)))

-- a number is the one that an event is read with, whatever its origin
number_of : (code state branch number : ℕ) → origin_number (origin_of code state branch number) ≡ number
number_of code state branch number = by_cases (eqb code 1) (λ h. rw h refl) (λ h. rw h refl)

-- items that are good wherever they are read
items-good : {A : Type 0} (good : A → Bool) (read : ℕ → A) (width : ℕ) → ((at : ℕ) → good (read at) ≡ true) → (n at : ℕ)
    → list_all good (items read width n at) ≡ true
unfolding items
items-good good read width each zero at = refl
items-good good read width each (suc n) at = and_both (good (read at)) _ (each at) (items-good good read width each n (at + width))

module _ (form : Form) (image : List ℕ) where
  -- ---- Numbers

  number_read : (at : ℕ) → holds_number form (number_at form image at) ≡ true
  unfolding number_at
  number_read at = by form where
    by : (f : Form) → holds_number f (number_at f image at) ≡ true
    by Narrow = lt-ltb (u16_at image at % 65536) 65536 (omega arith)
    by Wide = refl

  -- ---- Events

  event_read : (at : ℕ) → is_event_storable form (event_at form image at) ≡ true
  unfolding event_at
  event_read at =
      let number = number_of (u16_at image at) (u16_at image (at + 2)) (u16_at image (at + 4)) (number_at form image (at + event_fields)) in
      and_both (is_kind (event_at form image at)) _ (kind_low (u16_at image (at + 6))) (rw number (number_read (at + event_fields)))

  -- ---- Environments and instances

  entries-read : (variable n at : ℕ) → are_entries variable (entries_at image variable n at) ≡ true
  unfolding entries_at are_entries
  entries-read variable zero at = refl
  entries-read variable (suc n) at =
      and_both (is_constant (entry_of variable (u16_at image at)) || eqb (entry_of variable (u16_at image at)) variable) _
      (entry_good variable (u16_at image at)) (entries-read (suc variable) n (at + word_size))

  env_read : (at : ℕ) → is_env (env_at image at) ≡ true
  unfolding is_env env_at
  env_read at =
      and_both (eqb (length (entries_at image first_variable 8 at)) 8) _ (eq-eqb _ 8 (length-entries image first_variable 8 at))
      (entries-read first_variable 8 at)

  instance-read : (at : ℕ) → is_storable form (instance_at form image at) ≡ true
  unfolding instance_at
  instance-read at = and_both (is_env (env_at image (at + 8))) _ (env_read (at + 8)) (number_read (at + instance_fields))

  -- ---- Stacks

  stack-read : (at : ℕ) → is_stack_storable form (stack_at form image at) ≡ true
  unfolding stack_at upward depth_at
  stack-read at =
      let below = items (instance_at form image) (instance_size form) (depth_at image at) (at + stack_fields form) in
      let many : length (reverse below) ≡ depth_at image at =
      length-reverse below ∙ length-items (instance_at form image) (instance_size form) (depth_at image at) (at + stack_fields form) in
      let low : length (reverse below) ≤ most_below = omega (arith, many) in
      let lower : list_all (is_storable form) (reverse (reverse below)) ≡ true =
      subst⁻¹ (λ (xs : List Instance). list_all (is_storable form) xs ≡ true) (reverse-reverse below)
      (items-good (is_storable form) (instance_at form image) (instance_size form) instance-read (depth_at image at) (at + stack_fields form)) in
      and_both (leb (length (reverse below)) most_below) _ (le-leb _ most_below low)
      (and_both (list_all (is_storable form) (upward (stack_at form image at))) _
      (all-joined (is_storable form) (reverse (reverse below)) ((stack_at form image at).top ∷ []) lower
      (and_both (is_storable form (stack_at form image at).top) true
      (instance-read (at + stack_fields form + instance_size form * depth_at image at)) refl))
      (number_read (at + word_size)))

  stacks-read : (n at : ℕ) → list_all (is_stack_storable form) (row (stack_at form image) (stack_size_at form image) n at) ≡ true
  unfolding row
  stacks-read zero at = refl
  stacks-read (suc n) at =
      and_both (is_stack_storable form (stack_at form image at)) _ (stack-read at) (stacks-read n (at + stack_size_at form image at))

  stacks-length : (n at : ℕ) → length (row (stack_at form image) (stack_size_at form image) n at) ≡ n
  unfolding row
  stacks-length zero at = refl
  stacks-length (suc n) at = ap suc (stacks-length n (at + stack_size_at form image at))

  -- ---- The whole

  read_storable : Storable form (library_as form image) (state_as form image)
  unfolding library_as state_as beliefs_at events_at stacks_at
  read_storable = record {
    size = omega (arith, length-take (min (length_in image 0) most_bytes) (drop (contents_size form) image));
    beliefs =
        omega (
          arith,
          length-items (literal_at image) literal_size (min (u16_at image (offset_in image 1)) most_beliefs)
              (offset_in image 1 + word_size),
        );
    queued =
        omega (
          arith,
          length-items (event_at form image) (event_size form) (min (u16_at image (offset_in image 2)) most_queued)
              (offset_in image 2 + word_size),
        );
    events =
        items-good (is_event_storable form) (event_at form image) (event_size form) event_read (min (u16_at image (offset_in image 2)) most_queued)
        (offset_in image 2 + word_size);
    stacked = omega (arith, stacks-length (min (u16_at image (offset_in image 3)) most_stacks) (offset_in image 3 + word_size));
    storable = stacks-read (min (u16_at image (offset_in image 3)) most_stacks) (offset_in image 3 + word_size);
    taken = number_read (offset_in image 4);
    made = number_read (offset_in image 4 + number_size form);
  }

-- bytes that pass the test of 12 are the image, in their form, of something that an image of that form can hold
pub image_holds : (image : List ℕ) → is_image image ≡ true
    → (can_hold (form_in image) (library_in image) (state_in image) ≡ true) × (image ≡ image_as (form_in image) (library_in image) (state_in image))
image_holds image h =
    (storable_holds (form_in image) (library_in image) (state_in image) (read_storable (form_in image) image), sym (image_again image h))

-- and every such image passes it
pub held_image : (form : Form) (library : List ℕ) (s : AgentState) → can_hold form library s ≡ true → is_image (image_as form library s) ≡ true
held_image form library s h = saved_image form library s (holds_storable form library s h)
