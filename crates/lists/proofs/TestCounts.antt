-- The tests any, all and distinct, and the counts that they tell of.
use Prim.Native.Nat.{◌+◌, ◌≤◌}
use mathlib.Core.Path.{◌≡◌, refl, sym, ap, subst}
use mathlib.Core.List.{List, [], ◌∷◌}
use mathlib.Core.Bool.{Bool, true, false, ◌||◌, not}
use native.Mathlib.Omega.{arith}
use borrow.Author.Tests.{not-true}
use Rattle.std.specs.List.{list_any, list_all}
use Rattle.lists.specs.Search.{distinct}
use Rattle.lists.proofs.BoolLaws.{by_cases, both_ways, and_parts, and_both}
use Rattle.lists.specs.Counts.{bit, count, Every}
use Rattle.lists.proofs.CountLaws.{bit_le_one, bit_every}

module _ {A : Type 0} (test : A → Bool) where
  -- ---- Every element passes

  pub all_every : (xs : List A) → list_all test xs ≡ true → Every test xs
  all_every [] e = refl
  all_every (x ∷ xs) e = let p = and_parts (test x) (list_all test xs) e in omega (arith, ap (λ b. bit (not b)) p.0, all_every xs p.1)

  pub every_all : (xs : List A) → Every test xs → list_all test xs ≡ true
  every_all [] h = refl
  every_all (x ∷ xs) h = and_both (test x) (list_all test xs) (bit_every (test x) (omega arith)) (every_all xs (omega arith))

  -- ---- Some element passes

  pub any_none : (xs : List A) → list_any test xs ≡ false → count test xs ≡ 0
  any_none [] e = refl
  any_none (x ∷ xs) e = go (test x) (any_none xs) e
    where
      go : (b : Bool) → (list_any test xs ≡ false → count test xs ≡ 0) → (b || list_any test xs) ≡ false → bit b + count test xs ≡ 0
      go true h q = both_ways {b = true} refl q
      go false h q = omega (arith, h q)

  pub any_some : (xs : List A) → list_any test xs ≡ true → 1 ≤ count test xs
  any_some [] e = both_ways e refl
  any_some (x ∷ xs) e = go (test x) (any_some xs) e
    where
      go : (b : Bool) → (list_any test xs ≡ true → 1 ≤ count test xs) → (b || list_any test xs) ≡ true → 1 ≤ bit b + count test xs
      go true h q = omega arith
      go false h q = omega (arith, h q)

  pub some-any : (xs : List A) → 1 ≤ count test xs → list_any test xs ≡ true
  some-any xs h = by_cases (list_any test xs) (λ e. e) (λ e. absurd (omega (arith, any_none xs e)))

  pub none_any : (xs : List A) → count test xs ≡ 0 → list_any test xs ≡ false
  none_any xs h = by_cases (list_any test xs) (λ e. absurd (omega (arith, any_some xs e))) (λ e. e)

-- ---- No two elements have the same key

module _ {A K : Type 0} (key : A → K) (equal : K → K → Bool) (to : (a b : K) → equal a b ≡ true → a ≡ b) where
  abbrev alike : A → A → Bool
  alike x y = equal (key x) (key y)

  pub distinct_once : (xs : List A) → distinct alike xs ≡ true → (k : K) → count (λ x. equal k (key x)) xs ≤ 1
  unfolding distinct
  distinct_once [] e k = omega arith
  distinct_once (x ∷ xs) e k =
      let p = and_parts (not (list_any (alike x) xs)) (distinct alike xs) e in
      let none = any_none (alike x) xs (not-true _ p.0) in
      by_cases (equal k (key x))
      (λ f. let z : count (λ y. equal k (key y)) xs ≡ 0 = subst (λ a. count (λ y. equal a (key y)) xs ≡ 0) (sym (to k (key x) f)) none in omega (arith, bit_le_one (equal k (key x))))
      (λ f. omega (arith, distinct_once xs p.1 k, ap bit f))

  pub once_distinct : ((a : K) → equal a a ≡ true) → (xs : List A) → ((k : K) → count (λ x. equal k (key x)) xs ≤ 1) → distinct alike xs ≡ true
  unfolding distinct
  once_distinct same [] h = refl
  once_distinct same (x ∷ xs) h =
      and_both (not (list_any (alike x) xs)) (distinct alike xs)
      (ap not (none_any (alike x) xs (omega (arith, h (key x), ap bit (same (key x))))))
      (once_distinct same xs (λ k. omega (arith, h k)))
