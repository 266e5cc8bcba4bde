-- A call's printed form reads back as the call: each number is a field, which says the number.
use Prim.Native.Nat.{ℕ, zero, suc, ◌+◌, ◌/◌, ◌%◌, ◌^◌, ◌≤◌, ◌<◌}
use mathlib.Core.Path.{◌≡◌, refl, ap, ◌∙◌}
use mathlib.Core.Bool.{Bool, true, false, cond}
use Rattle.std.specs.Prelude.{Some}
use mathlib.Core.List.{List, [], ◌∷◌, ◌++◌}
use native.Mathlib.Nat.{pow-suc}
use native.Mathlib.Omega.{arith}
use lib.Dec.{ltb, leb}
use lib.ListN.{length, length-append}
use borrow.Author.Tests.{ltb-true, ltb-false, le-leb, leb-true}
use Rattle.lists.proofs.BoolLaws.{by_cases, and_parts}
use Rattle.literal.specs.declared.Literal.{Literal}
use Rattle.literal.specs.Literal.{negative}
use Rattle.model.specs.State.{most_number, Call, report, cycle, outcome}
use Rattle.printing.specs.Decimal.{decimal}
use Rattle.printing.specs.LineText.{sign_byte, literal_text}
use Rattle.printing.proofs.DecimalLaws.{decimal_small, decimal_more}
use Rattle.literal.specs.Match.{and_then}
use Rattle.reading.specs.Call.{fields, digits_from, numeral, number, largest_number, largest_predicate, head_of, letter, worked_by, field, end, call_of}
use Rattle.reading.specs.Printed.{call_text, is_stored}
use Rattle.reading.proofs.FieldLaws.{Spaceless, fields_then, fields_last, spaceless_digits}
use Rattle.reading.proofs.NumberLaws.{number_of, digits_more}

-- ---- The digits of a number

digits_by_lem : (k n : ℕ) → n < k → digits_from 0 (decimal n) ≡ Some n
digits_by_lem zero n h = absurd (omega arith)
digits_by_lem (suc k) n h =
    by_cases (ltb n 10)
    (λ e. let small = ltb-true n 10 e in rw (decimal_small n small) (digits_more 0 (48 + n) [] refl (omega arith) (omega arith) ∙ ap Some (omega arith)))
    (λ e. let big = ltb-false n 10 e in rw (decimal_more n big) (digits_more (n / 10) (48 + n % 10) (decimal (n / 10)) (digits_by_lem k (n / 10) (omega arith)) (omega arith) (omega arith) ∙ ap Some (omega arith)))

digits_decimal : (n : ℕ) → digits_from 0 (decimal n) ≡ Some n
digits_decimal n = digits_by_lem (suc n) n (omega arith)

-- a number below a power of ten has no more digits
length-decimal : (k n : ℕ) → n < 10 ^ suc k → (1 ≤ length (decimal n)) × (length (decimal n) ≤ suc k)
length-decimal zero n h = rw (decimal_small n (omega arith)) (omega arith, omega arith)
length-decimal (suc k) n h =
    by_cases (ltb n 10)
    (λ e. let small = ltb-true n 10 e in rw (decimal_small n small) (omega arith, omega arith))
    (λ e.
    let big = ltb-false n 10 e in
    let fewer = length-decimal k (n / 10) (omega (arith, pow-suc 10 (suc k))) in
    rw (decimal_more n big, length-append) (omega arith, omega arith))

number-decimal : (fewer most n : ℕ) → n ≤ most → n < 10 ^ suc fewer → numeral (suc fewer) most (decimal n) ≡ Some n
number-decimal fewer most n fits short =
    let few = length-decimal fewer n short in
    number_of (suc fewer) most n (decimal n) few.0 few.1 (digits_decimal n) ∙ rw (le-leb n most fits)

-- ---- Printed numbers and heads as fields

spaceless-decimal : (n : ℕ) → Spaceless (decimal n)
spaceless-decimal n = spaceless_digits 0 n (decimal n) (digits_decimal n)

-- a number of 16 bits
number_back : (n : ℕ) → n ≤ largest_number → number largest_number (decimal n) ≡ Some n
number_back n h = number-decimal 4 largest_number n h (omega arith)

abbrev head_field : ℕ → List ℕ
head_field head = sign_byte head ∷ decimal (head % negative)

spaceless-head : (head : ℕ) → Spaceless (head_field head)
spaceless-head head = (by_cases (ltb head negative) (λ e. rw e) (λ e. rw e), spaceless-decimal (head % negative))

-- sign and predicate give the head
head_back : (head : ℕ) → head ≤ largest_number → head_of (head_field head) ≡ Some head
unfolding head_of
head_back head stored =
    rw (number-decimal 4 largest_predicate (head % negative) (omega arith) (omega arith))
    (by_cases (ltb head negative)
    (λ e. let low = ltb-true head negative e in let same : head % negative ≡ head = omega arith in rw (e, same))
    (λ e. let high = ltb-false head negative e in let same : head % negative + negative ≡ head = omega arith in rw (e, same)))

report_fields : (kind : ℕ) (l : Literal)
    → fields (decimal kind ++ literal_text l) ≡ decimal kind ∷ head_field l.head ∷ decimal l.first ∷ decimal l.second ∷ decimal l.third ∷ []
unfolding literal_text
report_fields kind l =
    let number = spaceless-decimal in
    rw (
      fields_then (decimal kind) _ (number kind),
      fields_then (head_field l.head) _ (spaceless-head l.head),
      fields_then (decimal l.first) _ (number l.first),
      fields_then (decimal l.second) _ (number l.second),
      fields_last (decimal l.third) (number l.third),
    )

-- ---- A printed call

pub reads_back : (call : Call) → is_stored call ≡ true → call_of (call_text call) ≡ Some call
unfolding call_of call_text is_stored letter
reads_back (report kind l) h =
    let p1 = and_parts (leb kind largest_number) _ h in
    let p2 = and_parts (leb l.head largest_number) _ p1.1 in
    let p3 = and_parts (leb l.first largest_number) _ p2.1 in
    let p4 = and_parts (leb l.second largest_number) (leb l.third largest_number) p3.1 in
    rw (
      report_fields kind l,
      number_back kind (leb-true _ _ p1.0),
      head_back l.head (leb-true _ _ p2.0),
      number_back l.first (leb-true _ _ p3.0),
      number_back l.second (leb-true _ _ p4.0),
      number_back l.third (leb-true _ _ p4.1),
    )
reads_back cycle h = refl
reads_back (outcome id worked) h =
    rw (fields_then (decimal id) (cond worked 49 48 ∷ []) (spaceless-decimal id), number-decimal 9 most_number id (leb-true id most_number h) (omega (arith, leb-true id most_number h)))
    (by worked)
  where
    by : (w : Bool) → field letter (fields (cond w 49 48 ∷ [])) (λ b texts. and_then (worked_by b) (λ worked. end texts (outcome id worked))) ≡ Some (outcome id w)
    by true = refl
    by false = refl
