-- The page of the board (document 02, request 9): a line for each live instance. dMARS has no such schema.
use Rattle.std.specs.Prelude.{ℕ, suc, Bool, cond, List, [], ◌∷◌, ◌++◌, map, leb, length, drop, replicate}
use Rattle.lists.specs.Counts.{each}
use Rattle.literal.specs.Literal.{is_constant}
use Rattle.model.specs.declared.Instance.{Instance}
use Rattle.model.specs.declared.Status.{Status}
use Rattle.model.specs.declared.Status.TheVariants.{Active, Waiting, Suspended}
use Rattle.model.specs.State.{Intention}
use Rattle.printing.specs.Decimal.{decimal}
use Rattle.printing.specs.LineText.{space, newline}

-- ---- Fields

-- a field of a line: how many columns it has, and what it says
pub record Field : Type 0 where
  pub width : ℕ
  pub text : List ℕ

abbrev pub field : ℕ → List ℕ → Field
field width text = record { width = width; text = text }

abbrev pub number : ℕ → ℕ → Field
number width n = field width (decimal n)

-- A, W or S
abbrev pub status_letter : Status → ℕ
status_letter Active = 65
status_letter Waiting = 87
status_letter Suspended = 83

abbrev pub letter : Status → Field
letter status = field 1 (status_letter status ∷ [])

abbrev pub hyphen : ℕ
hyphen = 45

-- a variable's entry: a constant, or a hyphen where it is unbound
abbrev pub entry : ℕ → Field
entry term = field 5 (cond (is_constant term) (decimal term) (hyphen ∷ []))

-- right-aligned: the last characters of so many spaces and then the text, as many as there are columns
unfoldable pub aligned : Field → List ℕ
aligned field = drop (length field.text) (replicate field.width space ++ field.text)

-- the text has no more characters than columns
abbrev pub fits : Field → Bool
fits field = leb (length field.text) field.width

-- a field with the space before it
abbrev pub after : Field → List ℕ
after field = space ∷ aligned field

-- right-aligned, one space between
abbrev pub spaced : List Field → List ℕ
spaced [] = []
spaced (field ∷ fields) = aligned field ++ each after fields

-- ---- A line

-- what a line shows: the number of the stack, the height on it, and the instance
pub record Row : Type 0 where
  pub stack : ℕ
  pub height : ℕ
  pub instance : Instance

-- "stack 1, height 1, id 10, plan 2, state 2, tried 1, status letter A, W or S 1, then V0..V7 at 5 each"
unfoldable pub fields_of : Row → List Field
fields_of row =
    number 1 row.stack
    ∷ number 1 row.height
    ∷ number 10 row.instance.id
    ∷ number 2 row.instance.plan
    ∷ number 2 row.instance.state
    ∷ number 1 row.instance.tried
    ∷ letter row.instance.status
    ∷ map entry row.instance.env.terms

unfoldable pub line_text : Row → List ℕ
line_text row = spaced (fields_of row) ++ (newline ∷ [])

-- how many bytes a line has: 72 characters and a newline
abbrev pub line_bytes : ℕ
line_bytes = 73

-- ---- The page

-- the rows of instances that stand on each other, given from the top down: bottom first, the height from 1
unfoldable pub rows_on : ℕ → List Instance → List Row
rows_on stack [] = []
rows_on stack (x ∷ below) = rows_on stack below ++ (record { stack = stack; height = suc (length below); instance = x } ∷ [])

-- the rows of stacks in turn order, the first of them with this number
unfoldable pub rows_from : ℕ → List Intention → List Row
rows_from number [] = []
rows_from number (stack ∷ stacks) = rows_on number (stack.top ∷ stack.below) ++ rows_from (suc number) stacks

-- the stacks count from 1
abbrev pub rows_of : List Intention → List Row
rows_of stacks = rows_from 1 stacks

unfoldable pub page_of : List Intention → List ℕ
page_of stacks = each line_text (rows_of stacks)
