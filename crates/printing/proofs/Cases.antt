-- Every row of the table of cases has the text that stands beside it, and the longest line is as long as the limit: by computing.
use mathlib.Core.Path.{◌≡◌, refl}
use mathlib.Core.List.{map}
use lib.ListN.{length}
use Rattle.model.specs.Lines.{letter_of, fields_of}
use Rattle.printing.specs.Decimal.{decimal}
use Rattle.printing.specs.LineText.{literal_text, field_text, change_text, line_text, result_text, most_line}
use Rattle.printing.specs.Cases.{bytes, table, longest_row}

pub cases : map (λ row. result_text row.result) table ≡ map (λ row. bytes row.text) table
unfolding letter_of fields_of decimal literal_text field_text change_text line_text bytes
cases = refl

-- the limit is reached
pub longest-line : length (result_text longest_row.result) ≡ most_line
unfolding letter_of fields_of decimal literal_text field_text change_text line_text
longest-line = refl
