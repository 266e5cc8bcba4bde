-- A call as a line that says it (document 01, "Journal").
use Rattle.std.specs.Prelude.{ℕ, Bool, true, cond, ◌&&◌, List, [], ◌∷◌, ◌++◌, leb}
use Rattle.model.specs.State.{most_number, Call, report, cycle, outcome}
use Rattle.printing.specs.Decimal.{decimal}
use Rattle.printing.specs.LineText.{literal_text}
use Rattle.reading.specs.Call.{largest_number}

-- the line without its newline
unfoldable pub call_text : Call → List ℕ
call_text (report kind literal) = 80 ∷ 32 ∷ (decimal kind ++ literal_text literal)
call_text cycle = 67 ∷ []
call_text (outcome id worked) = 79 ∷ 32 ∷ (decimal id ++ (32 ∷ cond worked 49 48 ∷ []))

-- its numbers can be read: an id up to the largest number of an instance, any other up to 16 bits
unfoldable pub is_stored : Call → Bool
is_stored (report kind l) =
    leb kind largest_number
    && (leb l.head largest_number && (leb l.first largest_number && (leb l.second largest_number && leb l.third largest_number)))
is_stored cycle = true
is_stored (outcome id worked) = leb id most_number
