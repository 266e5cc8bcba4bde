-- Every row of the table of small inputs has the lines that are wanted: by computing.
use mathlib.Core.Path.{◌≡◌, refl}
use mathlib.Core.List.{map}
use Rattle.stream.specs.Lines.{lines}
use Rattle.stream.specs.Cases.{table}

pub small_cases : map (λ row. lines row.input) table ≡ map (λ row. row.wanted) table
small_cases = refl
