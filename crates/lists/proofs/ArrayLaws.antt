-- Arrays of structs: what owning one tells of its length, and what a function gives for its elements.
use Prim.Native.Nat.{ℕ, zero, suc}
use mathlib.Core.Path.{◌≡◌, refl, ap, ap₂, sym, ◌∙◌}
use mathlib.Core.List.{List, [], ◌∷◌, ◌++◌, map, map-append}
use lib.ListN.{length, take, drop, set, length-map}
use Rattle.lists.specs.Gap.{remove_at}

-- an array's length is told of its elements as they are stored
pub length-mapped : (A B : Type 0) (f : A → B) (xs : List A) (n : ℕ) → length (map f xs) ≡ n → length xs ≡ n
length-mapped A B f xs n h = sym (length-map xs f) ∙ h

-- ---- What a function gives for the elements

module _ {A B : Type 0} (f : A → B) where
  pub map-set : (xs : List A) (i : ℕ) (x : A) → map f (set xs i x) ≡ set (map f xs) i (f x)
  map-set [] i x = refl
  map-set (y ∷ xs) zero x = refl
  map-set (y ∷ xs) (suc i) x = ap (λ (ys : List B). f y ∷ ys) (map-set xs i x)

  pub map_taken : (n : ℕ) (xs : List A) → map f (take n xs) ≡ take n (map f xs)
  map_taken zero xs = refl
  map_taken (suc n) [] = refl
  map_taken (suc n) (x ∷ xs) = ap (λ (ys : List B). f x ∷ ys) (map_taken n xs)

  pub map_dropped : (n : ℕ) (xs : List A) → map f (drop n xs) ≡ drop n (map f xs)
  map_dropped zero xs = refl
  map_dropped (suc n) [] = refl
  map_dropped (suc n) (x ∷ xs) = map_dropped n xs

  pub map-removed : (i : ℕ) (xs : List A) → map f (remove_at i xs) ≡ remove_at i (map f xs)
  map-removed i xs = map-append f (take i xs) (drop (suc i) xs) ∙ ap₂ (λ (ys zs : List B). ys ++ zs) (map_taken i xs) (map_dropped (suc i) xs)
