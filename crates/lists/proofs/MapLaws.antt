-- Replacing each element of an array by what a function gives for it, and tests on what a function gives for the elements.
use Prim.Native.Nat.{ℕ, zero, suc, ◌+◌, ◌≤◌}
use native.Mathlib.Numerals.{add-one}
use native.Mathlib.Omega.{arith}
use mathlib.Core.Path.{◌≡◌, refl, ap, sym, ◌∙◌}
use mathlib.Core.Bool.{Bool}
use mathlib.Core.List.{List, [], ◌∷◌, map}
use lib.ListN.{length, set, get_or}
use Rattle.std.specs.List.{list_any, list_all}
use Rattle.lists.specs.Search.{distinct}

-- ---- The steps of a loop that replaces each element

module _ {A : Type 0} (f : A → A) where
  -- the first n elements replaced
  abbrev pub mapped : ℕ → List A → List A
  mapped n [] = []
  mapped zero (x ∷ xs) = x ∷ xs
  mapped (suc n) (x ∷ xs) = f x ∷ mapped n xs

  pub mapped-start : (xs : List A) → xs ≡ mapped 0 xs
  mapped-start [] = refl
  mapped-start (x ∷ xs) = refl

  -- one more element, from what the array holds by then
  pub mapped-step : (n : ℕ) (xs ys : List A) (d y : A) → ys ≡ mapped n xs → y ≡ f (get_or ys n d) → set ys n y ≡ mapped (n + 1) xs
  mapped-step n xs ys d y p e = ap (λ (zs : List A). set zs n y) p ∙ go n xs y (e ∙ ap (λ (zs : List A). f (get_or zs n d)) p) ∙ ap (λ (k : ℕ). mapped k xs) (sym (add-one n))
    where
      go : (n : ℕ) (xs : List A) (y : A) → y ≡ f (get_or (mapped n xs) n d) → set (mapped n xs) n y ≡ mapped (suc n) xs
      go n [] y e = refl
      go zero (x ∷ xs) y e = rw e (ap (λ (zs : List A). f x ∷ zs) (mapped-start xs))
      go (suc n) (x ∷ xs) y e = ap (λ (zs : List A). f x ∷ zs) (go n xs y e)

  pub mapped_end : (n : ℕ) (xs : List A) → length xs ≤ n → mapped n xs ≡ map f xs
  mapped_end n [] h = refl
  mapped_end zero (x ∷ xs) h = absurd (omega arith)
  mapped_end (suc n) (x ∷ xs) h = ap (λ (zs : List A). f x ∷ zs) (mapped_end n xs (omega arith))

-- ---- Tests on what a function gives for the elements

module _ {A B : Type 0} (f : A → B) where
  pub all-mapped : (test : B → Bool) (xs : List A) → list_all test (map f xs) ≡ list_all (λ x. test (f x)) xs
  all-mapped test [] = refl
  all-mapped test (x ∷ xs) = rw (all-mapped test xs)

  pub any-mapped : (test : B → Bool) (xs : List A) → list_any test (map f xs) ≡ list_any (λ x. test (f x)) xs
  any-mapped test [] = refl
  any-mapped test (x ∷ xs) = rw (any-mapped test xs)

  pub distinct-mapped : (equal : B → B → Bool) (xs : List A) → distinct equal (map f xs) ≡ distinct (λ x y. equal (f x) (f y)) xs
  unfolding distinct
  distinct-mapped equal [] = refl
  distinct-mapped equal (x ∷ xs) = rw (any-mapped (equal (f x)) xs, distinct-mapped equal xs)
