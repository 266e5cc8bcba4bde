-- Laws of lists that are tested from the front, and of the instances below a top.
use Prim.Native.Nat.{ℕ, zero, suc, ◌-◌, ◌≤◌}
use native.Mathlib.Omega.{arith}
use mathlib.Core.Path.{◌≡◌, refl, ap, sym, ◌∙◌}
use mathlib.Core.Bool.{Bool, true, false, not, ◌&&◌, ◌||◌, and_assoc, and_comm, and-false, and-true, or-true}
use mathlib.Core.List.{List, [], ◌∷◌, ◌++◌}
use lib.ListN.{length, take, drop, get_or}
use lib.Seq.{take-suc, take_all}
use Rattle.std.specs.List.{list_any, list_all}
use Rattle.lists.specs.Search.{distinct}
use Rattle.model.specs.declared.Instance.{Instance}
use Rattle.state.specs.View.{no_instance, down}

-- ---- The first element, and those after it as a slice pattern gives them

module _ {A : Type 0} (equal : A → A → Bool) where
  pub distinct_from_first : (xs : List A) (d : A) → 1 ≤ length xs
      → distinct equal xs
      ≡ (not (list_any (equal (get_or xs 0 d)) (take (length xs - 1) (drop 1 xs))) && distinct equal (take (length xs - 1) (drop 1 xs)))
  unfolding distinct
  distinct_from_first [] d h = absurd (omega arith)
  distinct_from_first (x ∷ xs) d h =
      let n : suc (length xs) - 1 ≡ length xs = omega arith in
      rw (n, take_all (length xs) xs (omega arith))

  pub distinct_none : (xs : List A) → length xs ≤ 0 → distinct equal xs ≡ true
  unfolding distinct
  distinct_none [] h = refl
  distinct_none (x ∷ xs) h = absurd (omega arith)

-- some one passes one of two tests
pub any_either : {A : Type 0} (f g : A → Bool) (xs : List A) → list_any (λ x. f x || g x) xs ≡ (list_any f xs || list_any g xs)
any_either f g [] = refl
any_either f g (x ∷ xs) = ap (λ (b : Bool). (f x || g x) || b) (any_either f g xs) ∙ swap (f x) (g x) (list_any f xs) (list_any g xs)
  where
    swap : (a b c d : Bool) → ((a || b) || (c || d)) ≡ ((a || c) || (b || d))
    swap true b c d = refl
    swap false true c d = sym (or-true c)
    swap false false c d = refl

-- two lists of which no element equals a later one: the first is not among the rest
pub neither : (a b c d : Bool) → (a || b) ≡ false → (c && d) ≡ ((not a && c) && (not b && d))
neither true b c d h = cc
neither false true c d h = cc
neither false false c d h = refl

pub some_repeated : (a b c d : Bool) → (a || b) ≡ true → false ≡ ((not a && c) && (not b && d))
some_repeated true b c d h = refl
some_repeated false true c d h = sym (and-false c)
some_repeated false false c d h = cc

-- ---- The instances below a top, the last of them first

module _ (test : Instance → Bool) where
  all_joined : (xs ys : List Instance) → list_all test (xs ++ ys) ≡ (list_all test xs && list_all test ys)
  all_joined [] ys = refl
  all_joined (x ∷ xs) ys = ap (λ (b : Bool). test x && b) (all_joined xs ys) ∙ sym (and_assoc (test x) (list_all test xs) (list_all test ys))

  pub all-down : (n : ℕ) (xs : List Instance) → n ≤ length xs → list_all test (down n xs) ≡ list_all test (take n xs)
  unfolding down
  all-down zero xs h = refl
  all-down (suc n) xs h =
      ap (λ (b : Bool). test (get_or xs n no_instance) && b) (all-down n xs (omega arith))
      ∙ and_comm (test (get_or xs n no_instance)) (list_all test (take n xs))
      ∙ sym (ap (list_all test) (take-suc xs n no_instance (omega arith)) ∙ all_joined (take n xs) (get_or xs n no_instance ∷ [])
      ∙ ap (λ (b : Bool). list_all test (take n xs) && b) (and-true (test (get_or xs n no_instance))))
