-- The place that a search answers as an Option, and the same place as a number that is the length where there is none.
use Prim.Native.Nat.{ℕ, suc, ◌+◌, ◌<◌, ◌≤◌}
use native.Mathlib.Omega.{arith}
use mathlib.Core.Path.{◌≡◌, refl, sym, ◌∙◌}
use mathlib.Core.Bool.{Bool, true, false, cond}
use mathlib.Core.List.{List, [], ◌∷◌, map}
use lib.ListN.{length, length-map}
use lib.Dec.{ltb}
use borrow.Author.Tests.{lt-ltb, ltb-true, ltb-false}
use Rattle.std.specs.Prelude.{Some, None}
use Rattle.std.specs.List as std
use Rattle.std.specs.List.{position_or_len}
use Rattle.lists.specs.Search.{position}

module _ {A : Type 0} (test : A → Bool) where
  -- the two recursions give one number
  pub position_or_len_is : (xs : List A) → position_or_len test xs ≡ position test xs
  unfolding position
  position_or_len_is [] = refl
  position_or_len_is (x ∷ xs) = go (test x) (position_or_len_is xs)
    where
      go : (b : Bool) → position_or_len test xs ≡ position test xs
          → cond (mathlib.Core.Bool.not b) (1 + position_or_len test xs) 0 ≡ cond b 0 (suc (position test xs))
      go true e = refl
      go false e = omega (arith, e)

  pub position_is : (xs : List A) → std.position test xs ≡ cond (ltb (position test xs) (length xs)) (Some (position test xs)) None
  position_is xs = rw (position_or_len_is xs)

  -- there is a place
  pub position_there : (xs : List A) → position test xs < length xs → std.position test xs ≡ Some (position test xs)
  position_there xs h = position_is xs ∙ rw (lt-ltb (position test xs) (length xs) h)

  -- a place that was found
  pub position_some : (xs : List A) (i : ℕ) → Some i ≡ std.position test xs → (i ≡ position test xs) × (i < length xs)
  position_some xs i h = go (ltb (position test xs) (length xs)) refl (h ∙ position_is xs)
    where
      go : (b : Bool) → ltb (position test xs) (length xs) ≡ b → Some i ≡ cond b (Some (position test xs)) None → (i ≡ position test xs) × (i < length xs)
      go true e p = let same : i ≡ position test xs = cc in (same, omega (arith, ltb-true _ _ e))
      go false e p = let none : ⊥ = cc in absurd none

  -- none was found
  pub position_none : (xs : List A) → None ≡ std.position test xs → length xs ≤ position test xs
  position_none xs h = go (ltb (position test xs) (length xs)) refl (h ∙ position_is xs)
    where
      go : (b : Bool) → ltb (position test xs) (length xs) ≡ b → None ≡ cond b (Some (position test xs)) None → length xs ≤ position test xs
      go true e p = let none : ⊥ = cc in absurd none
      go false e p = ltb-false _ _ e

module _ {A B : Type 0} (f : A → B) (test : B → Bool) where
  -- the place of the first element for which a function gives one that passes
  pub position-mapped : (xs : List A) → position test (map f xs) ≡ position (λ x. test (f x)) xs
  unfolding position
  position-mapped [] = refl
  position-mapped (x ∷ xs) = rw (position-mapped xs)

  pub found-mapped : (xs : List A) → std.position test (map f xs) ≡ std.position (λ x. test (f x)) xs
  found-mapped xs = position_is test (map f xs) ∙ rw (position-mapped xs, length-map xs f) (sym (position_is (λ x. test (f x)) xs))
