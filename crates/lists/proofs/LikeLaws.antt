-- Two lists with the same elements in whatever order: every sum over them is the same.
use Prim.Native.Nat.{ℕ, zero, suc, ◌+◌, ◌<◌}
use mathlib.Core.Path.{◌≡◌, refl, sym, ap, ◌∙◌}
use mathlib.Core.List.{List, [], ◌∷◌, ◌++◌}
use native.Mathlib.Omega.{arith}
use lib.ListN.{length, get_or}
use Rattle.lists.specs.Gap.{remove_at}
use Rattle.lists.specs.Counts.{total, each}
use Rattle.lists.proofs.CountLaws.{total-append, total-each}

pub record Like {A : Type 0} (xs ys : List A) : Type 0 where
  pub sums : (f : A → ℕ) → total f xs ≡ total f ys

module _ {A : Type 0} where
  pub like_refl : (xs : List A) → Like xs xs
  like_refl xs = record { sums = λ f. refl }

  pub like_flip : {xs ys : List A} → Like xs ys → Like ys xs
  like_flip a = record { sums = λ f. sym (a.sums f) }

  pub like_more : (x : A) {xs ys : List A} → Like xs ys → Like (x ∷ xs) (x ∷ ys)
  like_more x a = record { sums = λ f. ap (λ n. f x + n) (a.sums f) }

  pub like_swap : (x y : A) (xs : List A) → Like (x ∷ y ∷ xs) (y ∷ x ∷ xs)
  like_swap x y xs = record { sums = λ f. omega arith }

  pub like_then : {xs ys zs : List A} → Like xs ys → Like ys zs → Like xs zs
  like_then a b = record { sums = λ f. a.sums f ∙ b.sums f }

  -- an element, put first
  pub like_at : (xs : List A) (i : ℕ) (d : A) → i < length xs → Like xs (get_or xs i d ∷ remove_at i xs)
  like_at [] i d h = absurd (omega arith)
  like_at (x ∷ xs) zero d h = like_refl (x ∷ xs)
  like_at (x ∷ xs) (suc i) d h = like_then (like_more x (like_at xs i d (omega arith))) (like_swap x (get_or xs i d) (remove_at i xs))

  -- what stands first may stand last
  pub like_turn : (xs ys : List A) → Like (xs ++ ys) (ys ++ xs)
  like_turn xs ys = record { sums = λ f. omega (arith, total-append f xs ys, total-append f ys xs) }

pub like_each : {A B : Type 0} (g : A → List B) {xs ys : List A} → Like xs ys → Like (each g xs) (each g ys)
like_each g {xs} {ys} a = record { sums = λ f. total-each f g xs ∙ a.sums (λ x. total f (g x)) ∙ sym (total-each f g ys) }
