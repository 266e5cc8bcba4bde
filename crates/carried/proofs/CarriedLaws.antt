-- A save and a restore: the restored agent is alike the saved one, and agents that are alike have one image.
-- All else that this crate says of images follows from these two.
use Prim.Native.Nat.{ℕ}
use mathlib.Core.Path.{◌≡◌, refl, ap₂, sym, subst, ◌∙◌}
use mathlib.Core.Bool.{true}
use mathlib.Core.List.{List}
use lib.ListN.{take}
use Rattle.std.specs.Prelude.{Result, Ok, Err}
use Rattle.refusals.specs.declared.Refusal.{Refusal}
use Rattle.refusals.proofs.NumberLaws.{never_zero}
use Rattle.load.specs.declared.Agent.{Agent}
use Rattle.load.specs.Load.{is_well_formed_agent}
use Rattle.image.specs.Image.{image_of}
use Rattle.image.specs.Saves.{image_of_agent, Saves}
use Rattle.image.specs.Restores.{Restores}
use Rattle.image.proofs.AgentLaws.{saved_formed, saved_bytes, restored_refusal, restored_library, restored_state, restored_formed}
use Rattle.carried.specs.Alike.{Alike}
use Rattle.carried.specs.Shifts.{CarriedOver}

-- agents that are alike have one image
pub alike-image : {a b : Agent} → Alike a b → image_of_agent a ≡ image_of_agent b
alike-image same = ap₂ image_of same.library same.state

-- the bytes that a save wrote are the image of a well-formed agent, so they are restored: none of them is refused
pub carried-accepted : {a : Agent} {before after : List ℕ} {size : ℕ} → Saves a before after (Ok size)
    → (r : Result Agent Refusal) → Restores (take size after) r → (restored : Agent) × (r ≡ Ok restored) × CarriedOver a restored
carried-accepted {a} {before} {after} {size} saves r restores = go r restores
  where
    go : (r : Result Agent Refusal) → Restores (take size after) r → (restored : Agent) × (r ≡ Ok restored) × CarriedOver a restored
    go (Ok restored) restores =
        (restored, refl, record { before = before; after = after; size = size; saves = saves; restores = restores })
    go (Err e) restores =
        let own = subst (λ (bytes : List ℕ). Restores bytes (Err e)) (saved_bytes a before after size saves) restores in
        absurd (never_zero e (restored_refusal a (saved_formed a before after size saves) (Err e) own))

module _ {a restored : Agent} (over : CarriedOver a restored) where
  formed : is_well_formed_agent a ≡ true
  formed = saved_formed a over.before over.after over.size over.saves

  own : Restores (image_of_agent a) (Ok restored)
  own =
      subst (λ (bytes : List ℕ). Restores bytes (Ok restored)) (saved_bytes a over.before over.after over.size over.saves) over.restores

  pub carried-alike : Alike a restored
  carried-alike = record {
    test = formed ∙ sym (restored_formed (image_of_agent a) restored own);
    library = sym (restored_library a formed restored own);
    state = sym (restored_state a formed restored own);
  }
