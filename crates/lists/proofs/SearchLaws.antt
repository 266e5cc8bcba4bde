-- Laws of tests and places.
use Prim.Native.Nat.{ℕ, suc, ◌≤◌}
use native.Mathlib.Omega.{arith}
use mathlib.Core.Path.{◌≡◌, refl, sym, ◌∙◌}
use mathlib.Core.Bool.{Bool, true, false, cond, ◌||◌}
use mathlib.Core.List.{List, [], ◌∷◌}
use lib.ListN.{length}
use lib.Dec.{ltb}
use borrow.Author.Tests.{lt-ltb}
use Rattle.std.specs.List.{list_any}
use Rattle.lists.specs.Search.{position}

module _ {A : Type 0} (test : A → Bool) where
  pub position_le : (xs : List A) → position test xs ≤ length xs
  unfolding position
  position_le [] = omega arith
  position_le (x ∷ xs) = go (test x) (position_le xs)
    where
      go : (b : Bool) → position test xs ≤ length xs → cond b 0 (suc (position test xs)) ≤ suc (length xs)
      go true h = omega arith
      go false h = omega arith

  -- some element passes just where there is such a place
  pub any-position : (xs : List A) → list_any test xs ≡ ltb (position test xs) (length xs)
  unfolding position
  any-position [] = refl
  any-position (x ∷ xs) = go (test x) (any-position xs)
    where
      suc-ltb : (m n : ℕ) → ltb (suc m) (suc n) ≡ ltb m n
      suc-ltb m n = lib.Dec.leb-suc-suc (suc m) n

      go : (b : Bool) → list_any test xs ≡ ltb (position test xs) (length xs) → (b || list_any test xs) ≡ ltb (cond b 0 (suc (position test xs))) (suc (length xs))
      go true e = sym (lt-ltb 0 (suc (length xs)) (omega arith))
      go false e = e ∙ sym (suc-ltb (position test xs) (length xs))
