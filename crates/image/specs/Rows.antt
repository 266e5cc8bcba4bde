-- Items of any size, read one after the other (docs/IMAGE-FORMAT.md, "A stack"; document 02, request 3).
use Rattle.std.specs.Prelude.{ℕ, zero, suc, ◌+◌, List, [], ◌∷◌}

-- n items
unfoldable pub row : {A : Type 0} → (ℕ → A) → (ℕ → ℕ) → ℕ → ℕ → List A
row read size zero at = []
row read size (suc n) at = read at ∷ row read size n (at + size at)

-- the offset past them
unfoldable pub row_end : (ℕ → ℕ) → ℕ → ℕ → ℕ
row_end size zero at = at
row_end size (suc n) at = row_end size n (at + size at)
