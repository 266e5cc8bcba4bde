-- The bytes of a line of the journal (document 01, "Journal").
use Rattle.std.specs.Prelude.{ℕ, ◌+◌, ◌*◌, ◌%◌, ◌≡◌, Bool, true, false, cond, ◌&&◌, List, [], ◌∷◌, ◌++◌, ltb, eqb}
use Rattle.lists.specs.Counts.{each}
use Rattle.std.specs.List.{list_any, list_all}
use Rattle.literal.specs.declared.Literal.{Literal}
use Rattle.literal.specs.Literal.{negative}
use Rattle.belief.specs.declared.Change.{Change}
use Rattle.model.specs.declared.Answer.{Answer}
use Rattle.model.specs.declared.Answer.TheVariants.{Taken, Idle, Dropped, Unmet, MadeExternal, MadeGoal, Stepped, Missed, Done, Posted, Succeeded, Failed, Refused}
use Rattle.model.specs.State.{most_changes, Result}
use Rattle.model.specs.Lines.{Letter, T, I, N, U, M, S, B, D, G, E, F, X, Field, number, e, g, literal, Line, letter_of, fields_of, line_of}
use Rattle.printing.specs.Decimal.{decimal}

-- ---- Bytes

abbrev pub space : ℕ
space = 32

abbrev pub newline : ℕ
newline = 10

abbrev pub letter_byte : Letter → ℕ
letter_byte T = 84
letter_byte I = 73
letter_byte N = 78
letter_byte U = 85
letter_byte M = 77
letter_byte S = 83
letter_byte B = 66
letter_byte D = 68
letter_byte G = 71
letter_byte E = 69
letter_byte F = 70
letter_byte X = 88

-- + or -
abbrev pub sign_byte : ℕ → ℕ
sign_byte head = cond (ltb head negative) 43 45

-- a or r
abbrev pub change_byte : Bool → ℕ
change_byte removes = cond removes 114 97

-- ---- Fields and changes, each after one space

abbrev pub number_text : ℕ → List ℕ
number_text n = space ∷ decimal n

-- sign and predicate, then three terms
unfoldable pub literal_text : Literal → List ℕ
literal_text l =
    (space ∷ sign_byte l.head ∷ decimal (l.head % negative))
    ++ (number_text l.first ++ (number_text l.second ++ number_text l.third))

unfoldable pub field_text : Field → List ℕ
field_text (number n) = number_text n
field_text e = space ∷ 101 ∷ []
field_text g = space ∷ 103 ∷ []
field_text (literal l) = literal_text l

unfoldable pub change_text : Change → List ℕ
change_text c = space ∷ change_byte c.removes ∷ literal_text c.literal

-- ---- The line

-- the letter of an answer, and its fields
unfoldable pub answer_text : Answer → List ℕ
answer_text answer = letter_byte (letter_of answer) ∷ each field_text (fields_of answer)

-- the letter, its fields, each change, a newline
unfoldable pub line_text : Line → List ℕ
line_text line = (letter_byte line.letter ∷ each field_text line.fields) ++ (each change_text line.changes ++ (newline ∷ []))

-- the text of a result is the text of its line
abbrev pub result_text : Result → List ℕ
result_text result = line_text (line_of result)

-- two numbers on a line of their own
unfoldable pub pair_text : ℕ → ℕ → List ℕ
pair_text first second = decimal first ++ (number_text second ++ (newline ∷ []))

-- a text is one line: no newline but the last byte
pub record IsLine (text : List ℕ) : Type 0 where
  pub body : List ℕ
  pub ends : text ≡ body ++ (newline ∷ [])
  pub once : list_any (eqb newline) body ≡ false

-- ---- Tries

-- S, B, D and G: what came of a branch
abbrev pub is_try : Answer → Bool
is_try (Taken n) = false
is_try Idle = false
is_try (Dropped n failures) = false
is_try (Unmet i s b failures) = false
is_try (MadeExternal i plan n) = false
is_try (MadeGoal i plan poster) = false
is_try (Stepped i s b next) = true
is_try (Missed i s b) = true
is_try (Done i s b l) = true
is_try (Posted i s b) = true
is_try (Succeeded i) = false
is_try (Failed i) = false
is_try (Refused n) = false

-- ---- Limits

-- the longest letter with its fields: D with an id of ten digits, two numbers and a literal, every number of five digits
abbrev pub most_fields : ℕ
most_fields = 49

-- the longest change
abbrev pub most_change : ℕ
most_change = 27

-- the longest line
abbrev pub most_line : ℕ
most_line = most_fields + most_change * most_changes + 1

-- how many bytes the longest line of two numbers has: ten digits each, a space and a newline
abbrev pub most_pair : ℕ
most_pair = 22

-- the sign and the predicate take 16 bits
abbrev pub is_head : Literal → Bool
is_head l = ltb l.head 65536

abbrev pub fits_field : Field → Bool
fits_field (number n) = true
fits_field e = true
fits_field g = true
fits_field (literal l) = is_head l

abbrev pub fits_change : Change → Bool
fits_change c = is_head c.literal

-- every literal of the line has a head of 16 bits
unfoldable pub fits_line : Line → Bool
fits_line line = list_all fits_field line.fields && list_all fits_change line.changes

abbrev pub fits : Result → Bool
fits result = fits_line (line_of result)
