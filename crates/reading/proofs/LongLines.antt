-- A line longer than 32 bytes cannot be read: each field has a largest length, and there are at most six.
use Prim.Native.Nat.{ℕ, suc, ◌+◌, ◌≤◌, ◌<◌}
use mathlib.Core.Path.{◌≡◌, refl, ap, ◌∙◌}
use mathlib.Core.Bool.{Bool, true, false, cond, ◌&&◌}
use Rattle.std.specs.Prelude.{Option, None, Some}
use mathlib.Core.List.{List, [], ◌∷◌}
use native.Mathlib.Omega.{arith}
use lib.Dec.{leb, eqb}
use lib.ListN.{length}
use borrow.Author.Tests.{leb-true}
use Rattle.lists.proofs.BoolLaws.{and_parts}
use Rattle.lists.proofs.OptionLaws.{none-some}
use Rattle.literal.specs.Match.{and_then}
use Rattle.model.specs.State.{most_number, Call, report, cycle, outcome}
use Rattle.reading.specs.Call.{on_first, fields, digits_from, up_to, numeral, most_digits, most_id_digits, number, id_of, largest_number, largest_predicate, signed, head_of, letter, worked_by, field, end, report_of, outcome_of, by_letter, call_of, most_line}

-- ---- The length of a line, by its fields: each with the byte after it

abbrev weight : List (List ℕ) → ℕ
weight [] = 0
weight (text ∷ texts) = suc (length text) + weight texts

weight-first : (b : ℕ) (texts : List (List ℕ)) → 0 < weight texts → weight (on_first b texts) ≡ suc (weight texts)
weight-first b [] h = absurd (omega arith)
weight-first b (text ∷ texts) h = omega arith

weight-fields : (line : List ℕ) → weight (fields line) ≡ suc (length line)
weight-fields [] = omega arith
weight-fields (b ∷ line) = by (eqb b 32) (weight-fields line) where
  by : (t : Bool) → weight (fields line) ≡ suc (length line) → weight (cond t ([] ∷ fields line) (on_first b (fields line))) ≡ suc (suc (length line))
  by true e = omega arith
  by false e = weight-first b (fields line) (omega arith) ∙ ap suc e

-- ---- How long a field can be

-- what a reader takes has at most n bytes
abbrev Takes : ℕ → (List ℕ → Option ℕ) → Type 0
Takes n read = (text : List ℕ) (value : ℕ) → read text ≡ Some value → length text ≤ n

number_takes : (width most : ℕ) → Takes width (numeral width most)
unfolding numeral
number_takes width most text value e = by (leb 1 (length text) && leb (length text) width) refl e where
  by : (t : Bool) → (leb 1 (length text) && leb (length text) width) ≡ t → cond t (and_then (digits_from 0 text) (up_to most)) None ≡ Some value
      → length text ≤ width
  by true h e = leb-true (length text) width (and_parts (leb 1 (length text)) (leb (length text) width) h).1
  by false h e = none-some e

head_takes : Takes 6 head_of
unfolding head_of
head_takes [] value e = none-some e
head_takes (sign ∷ text) value e = by (number largest_predicate text) refl e where
  by : (o : Option ℕ) → number largest_predicate text ≡ o → and_then o (signed sign) ≡ Some value → suc (length text) ≤ 6
  by None h e = none-some e
  by (Some predicate) h e = omega (arith, number_takes most_digits largest_predicate text predicate h)

letter_takes : Takes 1 letter
unfolding letter
letter_takes [] value e = omega arith
letter_takes (b ∷ []) value e = omega arith
letter_takes (b ∷ c ∷ text) value e = none-some e

-- ---- How much can be read

-- where the fields weigh more than n, nothing is read
abbrev Reaches : ℕ → (List (List ℕ) → Option Call) → Type 0
Reaches n k = (texts : List (List ℕ)) → n < weight texts → k texts ≡ None

field_reaches : (m n : ℕ) (read : List ℕ → Option ℕ) (k : ℕ → List (List ℕ) → Option Call) → Takes m read
    → ((value : ℕ) → Reaches n (k value)) → Reaches (suc m + n) (λ texts. field read texts k)
field_reaches m n read k takes rest [] h = refl
field_reaches m n read k takes rest (text ∷ texts) h = by (read text) refl where
  by : (o : Option ℕ) → read text ≡ o → and_then o (λ value. k value texts) ≡ None
  by None e = refl
  by (Some value) e = rest value texts (omega (arith, takes text value e))

end_reaches : (call : Call) → Reaches 0 (λ texts. end texts call)
end_reaches call [] h = absurd (omega arith)
end_reaches call (text ∷ texts) h = refl

numbers : Takes 5 (number largest_number)
numbers = number_takes most_digits largest_number

report_reaches : Reaches 31 report_of
report_reaches =
    field_reaches 5 25 (number largest_number) _ numbers λ kind.
    field_reaches 6 18 head_of _ head_takes λ head.
    field_reaches 5 12 (number largest_number) _ numbers λ first.
    field_reaches 5 6 (number largest_number) _ numbers λ second.
    field_reaches 5 0 (number largest_number) _ numbers λ third.
    end_reaches (report kind (record { head = head; first = first; second = second; third = third }))

told_reaches : (id b : ℕ) → Reaches 0 (λ texts. and_then (worked_by b) (λ worked. end texts (outcome id worked)))
told_reaches id b texts h = by (worked_by b) where
  by : (o : Option Bool) → and_then o (λ worked. end texts (outcome id worked)) ≡ None
  by None = refl
  by (Some worked) = end_reaches (outcome id worked) texts h

outcome_reaches : Reaches 13 outcome_of
outcome_reaches = field_reaches most_id_digits 2 id_of _ (number_takes most_id_digits most_number) λ id. field_reaches 1 0 letter _ letter_takes (told_reaches id)

letters_reach : (b : ℕ) → Reaches 31 (by_letter b)
letters_reach b texts h = by (eqb b 80) (eqb b 67) (eqb b 79) where
  by : (t u v : Bool) → cond t (report_of texts) (cond u (end texts cycle) (cond v (outcome_of texts) None)) ≡ None
  by true u v = report_reaches texts h
  by false true v = end_reaches cycle texts (omega arith)
  by false false true = outcome_reaches texts (omega arith)
  by false false false = refl

pub long_unreadable : (line : List ℕ) → most_line < length line → call_of line ≡ None
unfolding call_of
long_unreadable line h = field_reaches 1 31 letter by_letter letter_takes letters_reach (fields line) (omega (arith, weight-fields line))
