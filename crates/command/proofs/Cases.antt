-- Every row of the table of cases is as it is wanted: by computing.
use mathlib.Core.Path.{◌≡◌, refl}
use mathlib.Core.List.{map}
use Rattle.reading.specs.Call.{numeral}
use Rattle.command.specs.Mode.{endings_mode, one_word, three_words, mode_of}
use Rattle.command.specs.Cases.{table}

pub cases : map (λ r. mode_of r.words) table ≡ map (λ r. r.wanted) table
unfolding numeral endings_mode one_word three_words mode_of table
cases = refl
