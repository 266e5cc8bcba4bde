-- Small cases of lines (document 01, "Journal"), as one table: the line's bytes, and what it says.
use Rattle.std.specs.Prelude.{ℕ, true, false, List, [], ◌∷◌, ◌++◌, map, Option, None, Some}
use Rattle.model.specs.State.{Call, report, cycle, outcome}

pub record Row : Type 0 where
  pub line : List ℕ
  pub wanted : Option Call

abbrev says : Call → List ℕ → Row
says call line = record { line = line; wanted = Some call }

abbrev unreadable : List ℕ → Row
unreadable line = record { line = line; wanted = None }

-- a report by its kind, head and terms
abbrev reported : ℕ → ℕ → ℕ → ℕ → ℕ → Call
reported kind head first second third = report kind (record { head = head; first = first; second = second; third = third })

-- the example's lines, the longest line, and lines that only the calls refuse
abbrev readable : List Row
readable =
    -- P 0 +1 5 0 0
    says (reported 0 1 5 0 0) (80 ∷ 32 ∷ 48 ∷ 32 ∷ 43 ∷ 49 ∷ 32 ∷ 53 ∷ 32 ∷ 48 ∷ 32 ∷ 48 ∷ [])
    -- C
    ∷ says cycle (67 ∷ [])
    -- O 1 1
    ∷ says (outcome 1 true) (79 ∷ 32 ∷ 49 ∷ 32 ∷ 49 ∷ [])
    -- O 1 0
    ∷ says (outcome 1 false) (79 ∷ 32 ∷ 49 ∷ 32 ∷ 48 ∷ [])
    -- P 65535 -32767 65535 65535 65535: the longest line
    ∷ says (reported 65535 65535 65535 65535 65535)
    (80 ∷ 32 ∷ 54 ∷ 53 ∷ 53 ∷ 51 ∷ 53 ∷ 32 ∷ 45 ∷ 51 ∷ 50 ∷ 55 ∷ 54 ∷ 55 ∷ 32 ∷ 54
    ∷ 53 ∷ 53 ∷ 51 ∷ 53 ∷ 32 ∷ 54 ∷ 53 ∷ 53 ∷ 51 ∷ 53 ∷ 32 ∷ 54 ∷ 53 ∷ 53 ∷ 51 ∷ 53
    ∷ [])
    -- P 00000 -00000 00005 0 00: leading zeros
    ∷ says (reported 0 32768 5 0 0)
    (80 ∷ 32 ∷ 48 ∷ 48 ∷ 48 ∷ 48 ∷ 48 ∷ 32 ∷ 45 ∷ 48 ∷ 48 ∷ 48 ∷ 48 ∷ 48 ∷ 32 ∷ 48
    ∷ 48 ∷ 48 ∷ 48 ∷ 53 ∷ 32 ∷ 48 ∷ 32 ∷ 48 ∷ 48 ∷ [])
    -- O 0 1: refused by the call, and readable
    ∷ says (outcome 0 true) (79 ∷ 32 ∷ 48 ∷ 32 ∷ 49 ∷ [])
    -- O 65536 1: an id over 16 bits
    ∷ says (outcome 65536 true) (79 ∷ 32 ∷ 54 ∷ 53 ∷ 53 ∷ 51 ∷ 54 ∷ 32 ∷ 49 ∷ [])
    -- O 4294967295 0: the largest id
    ∷ says (outcome 4294967295 false)
    (79 ∷ 32 ∷ 52 ∷ 50 ∷ 57 ∷ 52 ∷ 57 ∷ 54 ∷ 55 ∷ 50 ∷ 57 ∷ 53 ∷ 32 ∷ 48 ∷ [])
    -- O 0000000001 1: ten digits
    ∷ says (outcome 1 true) (79 ∷ 32 ∷ 48 ∷ 48 ∷ 48 ∷ 48 ∷ 48 ∷ 48 ∷ 48 ∷ 48 ∷ 48 ∷ 49 ∷ 32 ∷ 49 ∷ [])
    -- P 3 +1 65528 0 0: a kind and a variable that the call refuses
    ∷ says (reported 3 1 65528 0 0)
    (80 ∷ 32 ∷ 51 ∷ 32 ∷ 43 ∷ 49 ∷ 32 ∷ 54 ∷ 53 ∷ 53 ∷ 50 ∷ 56 ∷ 32 ∷ 48 ∷ 32 ∷ 48 ∷ [])
    ∷ []

-- lines of each kind that cannot be read
abbrev wrong : List (List ℕ)
wrong =
    -- an empty line
    []
    -- P 0 +1 000005 0 0: six digits
    ∷ (80 ∷ 32 ∷ 48 ∷ 32 ∷ 43 ∷ 49 ∷ 32 ∷ 48 ∷ 48 ∷ 48 ∷ 48 ∷ 48 ∷ 53 ∷ 32 ∷ 48 ∷ 32
    ∷ 48 ∷ [])
    -- P 0 +1 65536 0 0: a number over 65,535
    ∷ (80 ∷ 32 ∷ 48 ∷ 32 ∷ 43 ∷ 49 ∷ 32 ∷ 54 ∷ 53 ∷ 53 ∷ 51 ∷ 54 ∷ 32 ∷ 48 ∷ 32 ∷ 48 ∷ [])
    -- P 65536 +1 5 0 0: a kind over 65,535
    ∷ (80 ∷ 32 ∷ 54 ∷ 53 ∷ 53 ∷ 51 ∷ 54 ∷ 32 ∷ 43 ∷ 49 ∷ 32 ∷ 53 ∷ 32 ∷ 48 ∷ 32 ∷ 48 ∷ [])
    -- O 4294967296 1: an id over 4,294,967,295
    ∷ (79 ∷ 32 ∷ 52 ∷ 50 ∷ 57 ∷ 52 ∷ 57 ∷ 54 ∷ 55 ∷ 50 ∷ 57 ∷ 54 ∷ 32 ∷ 49 ∷ [])
    -- O 00000000001 1: eleven digits
    ∷ (79 ∷ 32 ∷ 48 ∷ 48 ∷ 48 ∷ 48 ∷ 48 ∷ 48 ∷ 48 ∷ 48 ∷ 48 ∷ 48 ∷ 49 ∷ 32 ∷ 49 ∷ [])
    -- P 0 +32768 5 0 0: a predicate over 32,767
    ∷ (80 ∷ 32 ∷ 48 ∷ 32 ∷ 43 ∷ 51 ∷ 50 ∷ 55 ∷ 54 ∷ 56 ∷ 32 ∷ 53 ∷ 32 ∷ 48 ∷ 32 ∷ 48 ∷ [])
    -- P 0 -32768 5 0 0: and a negative one
    ∷ (80 ∷ 32 ∷ 48 ∷ 32 ∷ 45 ∷ 51 ∷ 50 ∷ 55 ∷ 54 ∷ 56 ∷ 32 ∷ 53 ∷ 32 ∷ 48 ∷ 32 ∷ 48 ∷ [])
    -- P 0 1 5 0 0: a missing sign
    ∷ (80 ∷ 32 ∷ 48 ∷ 32 ∷ 49 ∷ 32 ∷ 53 ∷ 32 ∷ 48 ∷ 32 ∷ 48 ∷ [])
    -- P 0 + 5 0 0: a missing predicate
    ∷ (80 ∷ 32 ∷ 48 ∷ 32 ∷ 43 ∷ 32 ∷ 53 ∷ 32 ∷ 48 ∷ 32 ∷ 48 ∷ [])
    -- P 0 +1 -5 0 0: a sign before a term
    ∷ (80 ∷ 32 ∷ 48 ∷ 32 ∷ 43 ∷ 49 ∷ 32 ∷ 45 ∷ 53 ∷ 32 ∷ 48 ∷ 32 ∷ 48 ∷ [])
    -- P 0 +1 5 0: a missing field
    ∷ (80 ∷ 32 ∷ 48 ∷ 32 ∷ 43 ∷ 49 ∷ 32 ∷ 53 ∷ 32 ∷ 48 ∷ [])
    -- O 1: and another
    ∷ (79 ∷ 32 ∷ 49 ∷ [])
    -- P: and all of them
    ∷ (80 ∷ [])
    -- P 0 +1 5 0 0 0: an extra field
    ∷ (80 ∷ 32 ∷ 48 ∷ 32 ∷ 43 ∷ 49 ∷ 32 ∷ 53 ∷ 32 ∷ 48 ∷ 32 ∷ 48 ∷ 32 ∷ 48 ∷ [])
    -- C 1: and another
    ∷ (67 ∷ 32 ∷ 49 ∷ [])
    -- O 1 1 1: and another
    ∷ (79 ∷ 32 ∷ 49 ∷ 32 ∷ 49 ∷ 32 ∷ 49 ∷ [])
    -- P 0  +1 5 0 0: two spaces
    ∷ (80 ∷ 32 ∷ 48 ∷ 32 ∷ 32 ∷ 43 ∷ 49 ∷ 32 ∷ 53 ∷ 32 ∷ 48 ∷ 32 ∷ 48 ∷ [])
    --  C: a space before
    ∷ (32 ∷ 67 ∷ [])
    -- C : a space behind
    ∷ (67 ∷ 32 ∷ [])
    -- P 0 +1 5 0 0 : and behind a literal
    ∷ (80 ∷ 32 ∷ 48 ∷ 32 ∷ 43 ∷ 49 ∷ 32 ∷ 53 ∷ 32 ∷ 48 ∷ 32 ∷ 48 ∷ 32 ∷ [])
    -- P(tab)0 +1 5 0 0: a tab
    ∷ (80 ∷ 9 ∷ 48 ∷ 32 ∷ 43 ∷ 49 ∷ 32 ∷ 53 ∷ 32 ∷ 48 ∷ 32 ∷ 48 ∷ [])
    -- C(carriage return): a carriage return
    ∷ (67 ∷ 13 ∷ [])
    -- C(NUL): a NUL
    ∷ (67 ∷ 0 ∷ [])
    -- P 0 +1 : 0 0: a byte behind the digits
    ∷ (80 ∷ 32 ∷ 48 ∷ 32 ∷ 43 ∷ 49 ∷ 32 ∷ 58 ∷ 32 ∷ 48 ∷ 32 ∷ 48 ∷ [])
    -- P 0 +1 / 0 0: and one before them
    ∷ (80 ∷ 32 ∷ 48 ∷ 32 ∷ 43 ∷ 49 ∷ 32 ∷ 47 ∷ 32 ∷ 48 ∷ 32 ∷ 48 ∷ [])
    -- O 1 2: neither 1 nor 0
    ∷ (79 ∷ 32 ∷ 49 ∷ 32 ∷ 50 ∷ [])
    -- O 1 01: more than one character
    ∷ (79 ∷ 32 ∷ 49 ∷ 32 ∷ 48 ∷ 49 ∷ [])
    -- c: a small letter
    ∷ (99 ∷ [])
    -- CC: two letters
    ∷ (67 ∷ 67 ∷ [])
    -- X: another letter
    ∷ (88 ∷ [])
    ∷ []

abbrev pub table : List Row
table = readable ++ map unreadable wrong
