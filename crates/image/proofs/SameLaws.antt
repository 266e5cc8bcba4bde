-- Two lists of bytes held against each other: what the test says.
use Prim.Native.Nat.{ℕ}
use mathlib.Core.Path.{◌≡◌, refl, ap₂}
use mathlib.Core.Bool.{true}
use mathlib.Core.List.{List, [], ◌∷◌}
use lib.Dec.{eqb}
use borrow.Author.Tests.{eqb-true, eq-eqb}
use Rattle.lists.proofs.BoolLaws.{both_ways, and_parts, and_both}
use Rattle.std.specs.Str.{bytes_eq}

-- ---- What the test says

pub same_equal : (xs ys : List ℕ) → bytes_eq xs ys ≡ true → xs ≡ ys
same_equal [] [] h = refl
same_equal [] (y ∷ ys) h = both_ways h refl
same_equal (x ∷ xs) [] h = both_ways h refl
same_equal (x ∷ xs) (y ∷ ys) h =
    let parts = and_parts (eqb x y) (bytes_eq xs ys) h in
    ap₂ (λ (b : ℕ) (bs : List ℕ). b ∷ bs) (eqb-true x y parts.0) (same_equal xs ys parts.1)

pub equal_same : (xs : List ℕ) → bytes_eq xs xs ≡ true
equal_same [] = refl
equal_same (x ∷ xs) = and_both (eqb x x) (bytes_eq xs xs) (eq-eqb x x refl) (equal_same xs)
