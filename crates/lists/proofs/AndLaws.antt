-- Laws of tests joined by "and": one that fails, two that agree, and a test of all elements in two parts.
use mathlib.Core.Path.{◌≡◌, refl, ap, sym, ◌∙◌}
use mathlib.Core.Bool.{Bool, true, false, ◌&&◌}
use mathlib.Core.List.{List, [], ◌∷◌}
use Rattle.std.specs.List.{list_all}

pub and_first : (a b : Bool) → a ≡ false → (a && b) ≡ false
and_first a b e = rw e

pub and_second : (a b : Bool) → b ≡ false → (a && b) ≡ false
and_second true b e = e
and_second false b e = refl

-- two tests that pass together are equal
pub equal_tests : (a b : Bool) → (a ≡ true → b ≡ true) → (b ≡ true → a ≡ true) → a ≡ b
equal_tests true b f g = sym (f refl)
equal_tests false true f g = g refl
equal_tests false false f g = refl

-- the parts of two, each with its own
pub and_swap : (a b c d : Bool) → ((a && b) && (c && d)) ≡ ((a && c) && (b && d))
and_swap true true c d = refl
and_swap true false true d = refl
and_swap true false false d = refl
and_swap false b c d = refl

pub all_both : {A : Type 0} (one two : A → Bool) (xs : List A) → list_all (λ x. one x && two x) xs ≡ (list_all one xs && list_all two xs)
all_both one two [] = refl
all_both one two (x ∷ xs) = ap (λ (b : Bool). (one x && two x) && b) (all_both one two xs) ∙ and_swap (one x) (two x) (list_all one xs) (list_all two xs)
