-- Laws of tests on lists that are joined, or lose an element.
use Prim.Native.Nat.{ℕ, zero, suc}
use mathlib.Core.Path.{◌≡◌, refl, sym, subst, ◌∙◌}
use mathlib.Core.Bool.{Bool, true, false, cond, not}
use mathlib.Core.List.{List, [], ◌∷◌, ◌++◌}
use borrow.Author.Tests.{not-true}
use Rattle.std.specs.List.{list_any, list_all}
use Rattle.lists.specs.Search.{distinct, position}
use Rattle.lists.specs.Gap.{remove_at}
use Rattle.lists.proofs.BoolLaws.{and_parts, and_both, or_parts}

module _ {A : Type 0} (test : A → Bool) where
  pub all-joined : (xs ys : List A) → list_all test xs ≡ true → list_all test ys ≡ true → list_all test (xs ++ ys) ≡ true
  all-joined [] ys p q = q
  all-joined (x ∷ xs) ys p q = let parts = and_parts (test x) (list_all test xs) p in and_both (test x) _ parts.0 (all-joined xs ys parts.1 q)

  pub all-removed : (i : ℕ) (xs : List A) → list_all test xs ≡ true → list_all test (remove_at i xs) ≡ true
  all-removed zero [] p = refl
  all-removed zero (x ∷ xs) p = (and_parts (test x) (list_all test xs) p).1
  all-removed (suc i) [] p = refl
  all-removed (suc i) (x ∷ xs) p = let parts = and_parts (test x) (list_all test xs) p in and_both (test x) _ parts.0 (all-removed i xs parts.1)

  pub none-joined : (xs : List A) (y : A) → list_any test xs ≡ false → test y ≡ false → list_any test (xs ++ (y ∷ [])) ≡ false
  none-joined [] y p q = rw q
  none-joined (x ∷ xs) y p q = let parts = or_parts (test x) (list_any test xs) p in rw parts.0 (none-joined xs y parts.1 q)

  pub none-removed : (i : ℕ) (xs : List A) → list_any test xs ≡ false → list_any test (remove_at i xs) ≡ false
  none-removed zero [] p = refl
  none-removed zero (x ∷ xs) p = (or_parts (test x) (list_any test xs) p).1
  none-removed (suc i) [] p = refl
  none-removed (suc i) (x ∷ xs) p = let parts = or_parts (test x) (list_any test xs) p in rw parts.0 (none-removed i xs parts.1)

not-any : {b : Bool} → b ≡ false → not b ≡ true
not-any e = rw e

module _ {A : Type 0} (equal : A → A → Bool) where
  -- one more element that equals none, by a test that does not depend on the order
  pub distinct-joined : ((x y : A) → equal x y ≡ equal y x) → (xs : List A) (y : A) → distinct equal xs ≡ true → list_any (equal y) xs ≡ false
      → distinct equal (xs ++ (y ∷ [])) ≡ true
  unfolding distinct
  distinct-joined swap [] y p q = refl
  distinct-joined swap (x ∷ xs) y p q =
      let parts = and_parts (not (list_any (equal x) xs)) (distinct equal xs) p in
      let others = or_parts (equal y x) (list_any (equal y) xs) q in
      let new = none-joined (equal x) xs y (not-true (list_any (equal x) xs) parts.0) (swap x y ∙ others.0) in
      and_both (not (list_any (equal x) (xs ++ (y ∷ [])))) _ (not-any new) (distinct-joined swap xs y parts.1 others.1)

  pub distinct-removed : (i : ℕ) (xs : List A) → distinct equal xs ≡ true → distinct equal (remove_at i xs) ≡ true
  unfolding distinct
  distinct-removed zero [] p = refl
  distinct-removed zero (x ∷ xs) p = (and_parts (not (list_any (equal x) xs)) (distinct equal xs) p).1
  distinct-removed (suc i) [] p = refl
  distinct-removed (suc i) (x ∷ xs) p =
      let parts = and_parts (not (list_any (equal x) xs)) (distinct equal xs) p in
      let others = none-removed (equal x) i xs (not-true (list_any (equal x) xs) parts.0) in
      and_both (not (list_any (equal x) (remove_at i xs))) _ (not-any others) (distinct-removed i xs parts.1)

  -- of a distinct list, what equals the element removed is gone
  pub removed-gone : ((x y : A) → equal x y ≡ true → x ≡ y) → (y : A) (xs : List A) → distinct equal xs ≡ true → list_any (equal y) (remove_at (position (equal y) xs) xs) ≡ false
  unfolding distinct position
  removed-gone to y [] p = refl
  removed-gone to y (x ∷ xs) p = go (equal y x) refl (removed-gone to y xs)
    where
      parts : (not (list_any (equal x) xs) ≡ true) × (distinct equal xs ≡ true)
      parts = and_parts (not (list_any (equal x) xs)) (distinct equal xs) p

      go : (b : Bool) → equal y x ≡ b → (distinct equal xs ≡ true → list_any (equal y) (remove_at (position (equal y) xs) xs) ≡ false)
          → list_any (equal y) (remove_at (cond b 0 (suc (position (equal y) xs))) (x ∷ xs)) ≡ false
      go true e rest = subst (λ z. list_any (equal z) xs ≡ false) (sym (to y x e)) (not-true (list_any (equal x) xs) parts.0)
      go false e rest = rw e (rest parts.1)
