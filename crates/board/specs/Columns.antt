-- A number in columns as the code writes it: a digit in each column while something is left of the number.
-- Private vocabulary: no public contract rests on this file.
use Rattle.std.specs.Prelude.{ℕ, zero, suc, ◌/◌, cond, List, [], ◌∷◌, ◌++◌, eqb}
use Rattle.printing.specs.Decimal.{last_digit}
use Rattle.printing.specs.LineText.{space}

-- a column left of the last: the last digit of what is left, a space where nothing is
abbrev pub cell : ℕ → ℕ
cell left = cond (eqb left 0) space (last_digit left)

-- so many columns of what is left
unfoldable pub cells : ℕ → ℕ → List ℕ
cells zero left = []
cells (suc width) left = cells width (left / 10) ++ (cell left ∷ [])
