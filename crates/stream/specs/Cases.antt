-- Small cases of inputs (document 01, "Journal"), as one table: the input's bytes, and its lines. 67 is C, 10 a newline.
use Rattle.std.specs.Prelude.{ℕ, List, [], ◌∷◌}

pub record Row : Type 0 where
  pub input : List ℕ
  pub wanted : List (List ℕ)

abbrev row : List ℕ → List (List ℕ) → Row
row input wanted = record { input = input; wanted = wanted }

abbrev pub table : List Row
table =
    -- no input, no line
    row [] []
    -- a newline alone ends an empty line
    ∷ row (10 ∷ []) ([] ∷ [])
    ∷ row (10 ∷ 10 ∷ []) ([] ∷ [] ∷ [])
    -- with its newline or without
    ∷ row (67 ∷ 10 ∷ []) ((67 ∷ []) ∷ [])
    ∷ row (67 ∷ []) ((67 ∷ []) ∷ [])
    ∷ row (67 ∷ 10 ∷ 67 ∷ 67 ∷ []) ((67 ∷ []) ∷ (67 ∷ 67 ∷ []) ∷ [])
    -- a carriage return is a byte of its line
    ∷ row (67 ∷ 13 ∷ 10 ∷ 67 ∷ 10 ∷ []) ((67 ∷ 13 ∷ []) ∷ (67 ∷ []) ∷ [])
    ∷ []
