-- How many elements of a list pass a test, and lists joined.
use Rattle.std.specs.Prelude.{ℕ, ◌+◌, ◌≡◌, Bool, true, false, not, List, [], ◌∷◌, ◌++◌}

abbrev pub bit : Bool → ℕ
bit true = 1
bit false = 0

module _ {A : Type 0} where
  abbrev pub total : (A → ℕ) → List A → ℕ
  total f [] = 0
  total f (x ∷ xs) = f x + total f xs

  -- how many elements pass
  abbrev pub count : (A → Bool) → List A → ℕ
  count test xs = total (λ x. bit (test x)) xs

  -- every element passes: none fails
  abbrev pub Every : (A → Bool) → List A → Type 0
  Every test xs = count (λ x. not (test x)) xs ≡ 0

module _ {A B : Type 0} where
  -- the lists that a function gives for the elements, joined in order
  abbrev pub each : (A → List B) → List A → List B
  each f [] = []
  each f (x ∷ xs) = f x ++ each f xs
