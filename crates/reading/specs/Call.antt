-- What a line of the input says (document 01, "Journal"): one of the three calls, or nothing where it cannot be read.
use Rattle.std.specs.Prelude.{ℕ, ◌+◌, ◌-◌, ◌*◌, Bool, true, false, cond, ◌&&◌, List, [], ◌∷◌, leb, eqb, length, Option, None, Some}
use Rattle.literal.specs.Literal.{negative}
use Rattle.literal.specs.Match.{and_then}
use Rattle.model.specs.State.{most_number, Call, report, cycle, outcome}

-- ---- The fields of a line, which have one space between

-- a byte before the first of some texts
abbrev pub on_first : ℕ → List (List ℕ) → List (List ℕ)
on_first b [] = (b ∷ []) ∷ []
on_first b (text ∷ texts) = (b ∷ text) ∷ texts

-- what stands between the spaces: two spaces have an empty field between them, a space at either end has one beside it
abbrev pub fields : List ℕ → List (List ℕ)
fields [] = [] ∷ []
fields (b ∷ bytes) = cond (eqb b 32) ([] ∷ fields bytes) (on_first b (fields bytes))

-- ---- What one field says

abbrev pub is_digit : ℕ → Bool
is_digit b = leb 48 b && leb b 57

-- the number that digits say behind those of n; none where one is no digit
abbrev pub digits_from : ℕ → List ℕ → Option ℕ
digits_from n [] = Some n
digits_from n (b ∷ bytes) = cond (is_digit b) (digits_from (n * 10 + (b - 48)) bytes) None

abbrev pub up_to : ℕ → ℕ → Option ℕ
up_to most n = cond (leb n most) (Some n) None

-- 1 to so many digits that say at most so much
unfoldable pub numeral : ℕ → ℕ → List ℕ → Option ℕ
numeral digits most text = cond (leb 1 (length text) && leb (length text) digits) (and_then (digits_from 0 text) (up_to most)) None

-- a kind, a predicate or a term has at most so many digits
abbrev pub most_digits : ℕ
most_digits = 5

-- and an id so many (document 02, request 5)
abbrev pub most_id_digits : ℕ
most_id_digits = 10

-- 1 to 5 digits that say at most so much
abbrev pub number : ℕ → List ℕ → Option ℕ
number most = numeral most_digits most

-- an id: 1 to 10 digits, up to the largest number of an instance
abbrev pub id_of : List ℕ → Option ℕ
id_of = numeral most_id_digits most_number

-- the largest kind or term, and the largest predicate
abbrev pub largest_number : ℕ
largest_number = 65535

abbrev pub largest_predicate : ℕ
largest_predicate = 32767

-- the head of a literal: its predicate with +, or with -
abbrev pub signed : ℕ → ℕ → Option ℕ
signed sign predicate = cond (eqb sign 43) (Some predicate) (cond (eqb sign 45) (Some (predicate + negative)) None)

-- sign and predicate
unfoldable pub head_of : List ℕ → Option ℕ
head_of [] = None
head_of (sign ∷ text) = and_then (number largest_predicate text) (signed sign)

-- one byte
unfoldable pub letter : List ℕ → Option ℕ
letter [] = None
letter (b ∷ []) = Some b
letter (b ∷ c ∷ text) = None

-- 1: worked; 0: not
abbrev pub worked_by : ℕ → Option Bool
worked_by b = cond (eqb b 49) (Some true) (cond (eqb b 48) (Some false) None)

-- ---- Field by field

-- the next field, as a reader of fields takes it, and then the others
abbrev pub field : {A : Type 0} → (List ℕ → Option A) → List (List ℕ) → (A → List (List ℕ) → Option Call) → Option Call
field read [] next = None
field read (text ∷ texts) next = and_then (read text) (λ x. next x texts)

-- no field more
abbrev pub end : List (List ℕ) → Call → Option Call
end [] call = Some call
end (text ∷ texts) call = None

-- three terms, after the kind and the head
abbrev pub terms_of : ℕ → ℕ → List (List ℕ) → Option Call
terms_of kind head texts =
    field (number largest_number) texts λ first texts.
    field (number largest_number) texts λ second texts.
    field (number largest_number) texts λ third texts.
    end texts (report kind (record { head = head; first = first; second = second; third = third }))

-- after P: kind and literal
abbrev pub report_of : List (List ℕ) → Option Call
report_of texts = field (number largest_number) texts λ kind texts. field head_of texts λ head texts. terms_of kind head texts

-- after O: id, and 1 or 0
abbrev pub outcome_of : List (List ℕ) → Option Call
outcome_of texts =
    field id_of texts λ id texts.
    field letter texts λ b texts.
    and_then (worked_by b) λ worked. end texts (outcome id worked)

-- by the letter P, C or O
abbrev pub by_letter : ℕ → List (List ℕ) → Option Call
by_letter b texts = cond (eqb b 80) (report_of texts) (cond (eqb b 67) (end texts cycle) (cond (eqb b 79) (outcome_of texts) None))

-- what a line says; none: it cannot be read
unfoldable pub call_of : List ℕ → Option Call
call_of line = field letter (fields line) by_letter

-- the length of the longest readable line: P and five numbers of five digits, one with a sign
abbrev pub most_line : ℕ
most_line = 32
