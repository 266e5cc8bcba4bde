-- Laws of the numbers: none is 0, and no two refusals have one number.
use Rattle.std.proofs.Common.{◌≡◌, ℕ, ◌-◌, List, [], ◌∷◌, get_or, refl, ap, sym, ◌∙◌, arith}
use Rattle.std.specs.Prelude.{Result, Ok, Err}
use Rattle.refusals.specs.declared.Refusal.{Refusal}
use Rattle.refusals.specs.declared.Refusal.TheVariants as refusal
use Rattle.refusals.specs.Numbers.{number_of, number_in}

-- the refusals in the order of their numbers
abbrev all_refusals : List Refusal
all_refusals =
    refusal.Contents
    ∷ refusal.Packing
    ∷ refusal.Beliefs
    ∷ refusal.Plans
    ∷ refusal.Malformed
    ∷ refusal.TableFull
    ∷ refusal.QueueFull
    ∷ refusal.NobodyWaits
    ∷ refusal.NumbersSpent
    ∷ refusal.NotFormed
    ∷ refusal.NoSuchPlan
    ∷ refusal.NoImage
    ∷ refusal.ImageRoom
    ∷ refusal.BoardRoom
    ∷ refusal.LongLists ∷ []

-- the refusal with a number
abbrev named : ℕ → Refusal
named number = get_or all_refusals (number - 1) refusal.Contents

named_number : (r : Refusal) → named (number_of r) ≡ r
named_number refusal.Contents = refl
named_number r = refl

-- no two refusals have one number
pub number-injective : (r s : Refusal) → number_of r ≡ number_of s → r ≡ s
number-injective r s e = sym (named_number r) ∙ ap named e ∙ named_number s

-- none is 0, which says that nothing is refused
pub never_zero : (r : Refusal) → number_of r ≡ 0 → ⊥
never_zero refusal.Contents e = absurd (omega arith)
never_zero r e = absurd (omega arith)

-- so an answer is a value exactly where its number is 0
pub accepted : {T : Type 0} (r : Result T Refusal) → number_in r ≡ 0 → (x : T) × (r ≡ Ok x)
accepted (Ok x) e = (x, refl)
accepted (Err e) zero = absurd (never_zero e zero)

pub ok_equal : {T : Type 0} {x y : T} → ◌≡◌ {A = Result T Refusal} (Ok x) (Ok y) → x ≡ y
ok_equal e = cc
