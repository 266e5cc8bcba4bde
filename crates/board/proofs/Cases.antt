-- Every board of the table of cases has the text that stands beside it: by computing.
use mathlib.Core.Path.{◌≡◌, refl}
use mathlib.Core.List.{map}
use Rattle.printing.specs.Decimal.{decimal}
use Rattle.printing.specs.Cases.{bytes}
use Rattle.board.specs.Page.{aligned, fields_of, line_text, rows_on, rows_from, page_of}
use Rattle.board.specs.Cases.{table}

pub cases : map (λ case. page_of case.stacks) table ≡ map (λ case. bytes case.text) table
unfolding decimal aligned fields_of line_text rows_on rows_from page_of bytes
cases = refl
