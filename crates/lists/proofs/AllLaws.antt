-- What a test of a whole list says at a place of it, for a weaker test, and after one element is changed.
use Prim.Native.Nat.{ℕ, zero, suc, ◌<◌}
use mathlib.Core.Path.{◌≡◌, refl}
use mathlib.Core.Bool.{Bool, true, false, not}
use mathlib.Core.List.{List, [], ◌∷◌}
use native.Mathlib.Omega.{arith}
use lib.ListN.{length, get_or, set}
use borrow.Author.Tests.{not-true}
use Rattle.std.specs.List.{list_any, list_all}
use Rattle.lists.specs.Search.{distinct}
use Rattle.lists.proofs.BoolLaws.{and_parts, and_both, or_parts}

module _ {A : Type 0} where
  pub all_at : (test : A → Bool) (xs : List A) (i : ℕ) (d : A) → list_all test xs ≡ true → i < length xs → test (get_or xs i d) ≡ true
  all_at test [] i d e h = absurd (omega arith)
  all_at test (x ∷ xs) zero d e h = (and_parts (test x) (list_all test xs) e).0
  all_at test (x ∷ xs) (suc i) d e h = all_at test xs i d (and_parts (test x) (list_all test xs) e).1 (omega arith)

  -- what passes one test passes another
  pub all_weaker : (one two : A → Bool) → ((x : A) → one x ≡ true → two x ≡ true) → (xs : List A) → list_all one xs ≡ true → list_all two xs ≡ true
  all_weaker one two h [] e = refl
  all_weaker one two h (x ∷ xs) e =
      let parts = and_parts (one x) (list_all one xs) e in
      and_both (two x) (list_all two xs) (h x parts.0) (all_weaker one two h xs parts.1)

  pub all_set : (test : A → Bool) (xs : List A) (i : ℕ) (x : A) → list_all test xs ≡ true → test x ≡ true → list_all test (set xs i x) ≡ true
  all_set test [] i x e g = refl
  all_set test (y ∷ xs) zero x e g = and_both (test x) (list_all test xs) g (and_parts (test y) (list_all test xs) e).1
  all_set test (y ∷ xs) (suc i) x e g =
      let parts = and_parts (test y) (list_all test xs) e in
      and_both (test y) (list_all test (set xs i x)) parts.0 (all_set test xs i x parts.1 g)

  pub none_at : (test : A → Bool) (xs : List A) (i : ℕ) (d : A) → list_any test xs ≡ false → i < length xs → test (get_or xs i d) ≡ false
  none_at test [] i d e h = absurd (omega arith)
  none_at test (x ∷ xs) zero d e h = (or_parts (test x) (list_any test xs) e).0
  none_at test (x ∷ xs) (suc i) d e h = none_at test xs i d (or_parts (test x) (list_any test xs) e).1 (omega arith)

  -- an element of a distinct list equals no later one
  pub distinct_at : (equal : A → A → Bool) (xs : List A) (i j : ℕ) (d : A) → distinct equal xs ≡ true → i < j → j < length xs
      → equal (get_or xs i d) (get_or xs j d) ≡ false
  unfolding distinct
  distinct_at equal [] i j d e low high = absurd (omega arith)
  distinct_at equal (x ∷ xs) i zero d e low high = absurd (omega arith)
  distinct_at equal (x ∷ xs) zero (suc j) d e low high = none_at (equal x) xs j d (not-true _ (and_parts (not (list_any (equal x) xs)) (distinct equal xs) e).0) (omega arith)
  distinct_at equal (x ∷ xs) (suc i) (suc j) d e low high = distinct_at equal xs i j d (and_parts (not (list_any (equal x) xs)) (distinct equal xs) e).1 (omega arith) (omega arith)
