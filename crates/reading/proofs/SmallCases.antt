-- Every row of the table of small cases says what is wanted: by computing.
use mathlib.Core.Path.{◌≡◌, refl}
use mathlib.Core.List.{map}
use Rattle.reading.specs.Call.{numeral, head_of, letter, call_of}
use Rattle.reading.specs.Cases.{table}

pub small_cases : map (λ row. call_of row.line) table ≡ map (λ row. row.wanted) table
unfolding numeral head_of letter call_of
small_cases = refl
