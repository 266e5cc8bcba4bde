-- Requests 3 and 5 over save and restore: every well-formed agent can be saved, what is saved is restored, an image of the older form loads
-- to the agent that it holds, and an accepted image of the newest form is saved again as it was.
use Prim.Native.Nat.{ℕ, ◌≤◌}
use native.Mathlib.Omega.{arith}
use mathlib.Core.Path.{◌≡◌, refl, ap, ap₂, sym, subst, subst⁻¹, ◌∙◌}
use mathlib.Core.Bool.{Bool, true, false}
use mathlib.Core.List.{List, ◌++◌}
use lib.Dec.{leb, eqb}
use lib.ListN.{length, take, drop}
use lib.Seq.{take_at}
use borrow.Author.Tests.{le-leb, eq-eqb, eqb-true}
use Rattle.std.specs.Prelude.{Result, Ok, Err}
use Rattle.lists.proofs.BoolLaws.{and_parts}
use Rattle.refusals.specs.declared.Refusal.{Refusal}
use Rattle.refusals.specs.Numbers.{number_in}
use Rattle.refusals.proofs.NumberLaws.{never_zero}
use Rattle.library.specs.Layout.{library_of}
use Rattle.accepted.specs.Refusal.{refusal_of, stage}
use Rattle.model.specs.State.{AgentState}
use Rattle.model.specs.WellFormed.{is_well_formed}
use Rattle.state.specs.View.{view_state}
use Rattle.formed.specs.Formed.{WellFormedState}
use Rattle.formed.proofs.WellFormedLaws.{test_parts, test_passes}
use Rattle.load.specs.declared.Agent.{Agent}
use Rattle.load.specs.Load.{bytes_of, is_well_formed_agent}
use Rattle.image.specs.declared.form.Form.{Form}
use Rattle.image.specs.declared.form.Form.TheVariants.{Narrow}
use Rattle.image.specs.Form.{newest}
use Rattle.image.specs.Image.{image_as, image_of, can_hold, most_image, form_in, library_in, state_in, is_image, is_formed_in, image_refusal}
use Rattle.image.specs.Saves.{image_of_agent, save_refusal, Saves}
use Rattle.image.specs.Restores.{Restores}
use Rattle.image.proofs.ImageLaws.{Storable, holds_storable, image_library, image-state, image-few, image_again, saved_image}
use Rattle.image.proofs.Storing.{formed_storable}

-- ---- Refusals in two stages

stages_passed : (first second : ℕ) (a b : Bool) → (first ≡ 0 → ⊥) → (second ≡ 0 → ⊥) → stage first a (stage second b 0) ≡ 0
    → (a ≡ true) × (b ≡ true)
stages_passed first second true true p q h = (refl, refl)
stages_passed first second true false p q h = absurd (q h)
stages_passed first second false b p q h = absurd (p h)

-- ---- What was saved

module _ (a : Agent) (before after : List ℕ) (size : ℕ) (saves : Saves a before after (Ok size)) where
  pub saved_formed : is_well_formed_agent a ≡ true
  saved_formed =
      (stages_passed 10 13 (is_well_formed_agent a) (leb (length (image_of_agent a)) (length before)) (λ e. absurd (omega arith))
      (λ e. absurd (omega arith))
      saves.accepted).0

  -- the first bytes of the buffer are the image
  pub saved_bytes : take size after ≡ image_of_agent a
  saved_bytes =
      ap (take size) saves.image ∙ take_at (image_of_agent a) (drop (length (image_of_agent a)) before) size (sym saves.size)

-- ---- A well-formed agent, saved and restored

module _ (a : Agent) (formed : is_well_formed_agent a ≡ true) where
  parts : WellFormedState (bytes_of a) a.state
  parts = test_parts a.library a.length a.state formed

  storable : Storable newest (bytes_of a) (view_state a.state)
  storable = formed_storable (bytes_of a) (view_state a.state) parts.accepted parts.formed

  -- a buffer of most_image bytes is long enough
  pub saved_always : (before after : List ℕ) (r : Result ℕ Refusal) → Saves a before after r → most_image ≤ length before
      → r ≡ Ok (length (image_of_agent a))
  saved_always before after (Ok n) saves room = ap Ok saves.size
  saved_always before after (Err e) saves room =
      let fits : leb (length (image_of_agent a)) (length before) ≡ true =
      le-leb (length (image_of_agent a)) (length before) (omega (arith, image-few (bytes_of a) (view_state a.state) storable)) in
      absurd (never_zero e (saves.number ∙ rw (formed, fits) refl))

  -- an image of a form that can hold the agent is accepted, and gives the agent
  module _ (form : Form) (h : Storable form (bytes_of a) (view_state a.state)) where
    abbrev own_image : List ℕ
    own_image = image_as form (bytes_of a) (view_state a.state)

    accepted_as : image_refusal own_image ≡ 0
    unfolding image_refusal is_formed_in
    accepted_as =
        rw (
          saved_image form (bytes_of a) (view_state a.state) h,
          image_library form (bytes_of a) (view_state a.state) h,
          image-state form (bytes_of a) (view_state a.state) h,
          eq-eqb (refusal_of (bytes_of a)) 0 parts.accepted,
          parts.formed,
        ) refl

    refusal_as : (r : Result Agent Refusal) → Restores own_image r → number_in r ≡ 0
    refusal_as (Ok l) restores = refl
    refusal_as (Err e) number = number ∙ accepted_as

    module _ (l : Agent) (restores : Restores own_image (Ok l)) where
      library_as_lem : bytes_of l ≡ bytes_of a
      library_as_lem = restores.copy ∙ image_library form (bytes_of a) (view_state a.state) h

      -- the same beliefs, queue, stacks and counts
      state_as_lem : view_state l.state ≡ view_state a.state
      state_as_lem = restores.state ∙ image-state form (bytes_of a) (view_state a.state) h

  -- what is saved is accepted: neither 12 nor 10 comes of it
  pub image-accepted : image_refusal (image_of_agent a) ≡ 0
  image-accepted = accepted_as newest storable

  pub library_in-image : library_in (image_of_agent a) ≡ bytes_of a
  library_in-image = image_library newest (bytes_of a) (view_state a.state) storable

  pub state_in-image : state_in (image_of_agent a) ≡ view_state a.state
  state_in-image = image-state newest (bytes_of a) (view_state a.state) storable

  -- and restored: there is an agent, and it has the library and the state
  pub restored_refusal : (r : Result Agent Refusal) → Restores (image_of_agent a) r → number_in r ≡ 0
  restored_refusal = refusal_as newest storable

  module _ (l : Agent) (restores : Restores (image_of_agent a) (Ok l)) where
    pub restored_library : bytes_of l ≡ bytes_of a
    restored_library = library_as_lem newest storable l restores

    pub restored_state : view_state l.state ≡ view_state a.state
    restored_state = state_as_lem newest storable l restores

  -- so is an agent whose numbers take 16 bits from its image of the older form
  module _ (held : can_hold Narrow (bytes_of a) (view_state a.state) ≡ true) where
    abbrev older_image : List ℕ
    older_image = image_as Narrow (bytes_of a) (view_state a.state)

    older_storable : Storable Narrow (bytes_of a) (view_state a.state)
    older_storable = holds_storable Narrow (bytes_of a) (view_state a.state) held

    pub older-refusal : (r : Result Agent Refusal) → Restores older_image r → number_in r ≡ 0
    older-refusal = refusal_as Narrow older_storable

    module _ (l : Agent) (restores : Restores older_image (Ok l)) where
      pub older_library : bytes_of l ≡ bytes_of a
      older_library = library_as_lem Narrow older_storable l restores

      pub older-state : view_state l.state ≡ view_state a.state
      older-state = state_as_lem Narrow older_storable l restores

-- two well-formed agents with one image have the same library and the same state
pub image_injective : (a b : Agent) → is_well_formed_agent a ≡ true → is_well_formed_agent b ≡ true → image_of_agent a ≡ image_of_agent b
    → (bytes_of a ≡ bytes_of b) × (view_state a.state ≡ view_state b.state)
image_injective a b p q same =
    (sym (library_in-image a p) ∙ ap library_in same ∙ library_in-image b q, sym (state_in-image a p) ∙ ap state_in same ∙ state_in-image b q)

-- ---- An accepted image, restored and saved again

module _ (image : List ℕ) (l : Agent) (restores : Restores image (Ok l)) where
  tests : (is_image image ≡ true) × (is_formed_in image ≡ true)
  unfolding image_refusal
  tests = stages_passed 12 10 (is_image image) (is_formed_in image) (λ e. absurd (omega arith)) (λ e. absurd (omega arith)) restores.accepted

  -- the restored agent is well formed
  pub restored_formed : is_well_formed_agent l ≡ true
  unfolding is_formed_in
  restored_formed =
      let own = and_parts (eqb (refusal_of (library_in image)) 0) _ tests.1 in
      let formed =
      subst⁻¹ (λ (s : AgentState). is_well_formed (library_of (library_in image)) s ≡ true) restores.state own.1 in
      test_passes l.library l.length l.state (omega (arith, restores.within, restores.places)) (record {
        accepted = ap refusal_of restores.copy ∙ eqb-true _ 0 own.0;
        fit = restores.fit;
        formed =
            subst⁻¹ (λ (bytes : List ℕ). is_well_formed (library_of bytes) (view_state l.state) ≡ true)
            restores.copy formed;
      })

  -- its image in the form of the one that it was restored from is that one
  pub image-kept_as : image_as (form_in image) (bytes_of l) (view_state l.state) ≡ image
  image-kept_as =
      ap₂ (image_as (form_in image)) restores.copy restores.state ∙ image_again image tests.0

  -- where that is the newest form, its image is the one that it was restored from
  pub image-kept : form_in image ≡ newest → image_of_agent l ≡ image
  image-kept same = ap (λ (f : Form). image_as f (bytes_of l) (view_state l.state)) (sym same) ∙ image-kept_as

  -- an image of either form loads to the agent that its image of the newest form loads to
  moved : image_of (library_in image) (state_in image) ≡ image_of_agent l
  moved = ap₂ image_of (sym restores.copy) (sym restores.state)

  pub same_agent : (r : Result Agent Refusal) → Restores (image_of (library_in image) (state_in image)) r
      → (m : Agent) × (r ≡ Ok m) × (bytes_of m ≡ bytes_of l) × (view_state m.state ≡ view_state l.state)
  same_agent (Ok m) again =
      let own = subst (λ (bytes : List ℕ). Restores bytes (Ok m)) moved again in
      (m, refl, restored_library l restored_formed m own, restored_state l restored_formed m own)
  same_agent (Err e) again =
      let own = subst (λ (bytes : List ℕ). Restores bytes (Err e)) moved again in
      absurd (never_zero e (restored_refusal l restored_formed (Err e) own))

  -- so saving it again, where there is room, gives the same bytes
  module _ (same : form_in image ≡ newest) (before after : List ℕ) (room : length image ≤ length before) where
    again_accepted : save_refusal l (length before) ≡ 0
    again_accepted = rw (restored_formed, image-kept same, le-leb (length image) (length before) room) refl

    pub refusal_again : (r : Result ℕ Refusal) → Saves l before after r → number_in r ≡ 0
    refusal_again (Ok n) saves = refl
    refusal_again (Err e) saves = saves.number ∙ again_accepted

    module _ (size : ℕ) (saves : Saves l before after (Ok size)) where
      pub saved_again : after ≡ image ++ drop (length image) before
      saved_again = saves.image ∙ ap (λ (t : List ℕ). t ++ drop (length t) before) (image-kept same)

      pub size_again : size ≡ length image
      size_again = saves.size ∙ ap length (image-kept same)
