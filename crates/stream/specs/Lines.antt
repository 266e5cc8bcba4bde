-- The lines of an input (document 01, "Journal"): each ends at a newline or at the end; nothing after the last newline is no line.
use Rattle.std.specs.Prelude.{ℕ, Bool, cond, List, [], ◌∷◌, eqb}
use Rattle.reading.specs.Call.{on_first}

abbrev pub is_newline : ℕ → Bool
is_newline b = eqb b 10

-- each line without its newline
abbrev pub lines : List ℕ → List (List ℕ)
lines [] = []
lines (b ∷ bytes) = cond (is_newline b) ([] ∷ lines bytes) (on_first b (lines bytes))
