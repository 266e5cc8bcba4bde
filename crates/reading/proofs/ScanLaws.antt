-- Laws of a field that is gone over by its digits: what ends them, and what the field says then.
use Prim.Native.Nat.{ℕ, suc, ◌≤◌, ◌<◌}
use mathlib.Core.Path.{◌≡◌, refl, sym, ap, subst, ◌∙◌}
use mathlib.Core.Bool.{false, cond}
use Rattle.std.specs.Prelude.{Option, None, Some}
use mathlib.Core.List.{List, [], ◌∷◌, ◌++◌}
use native.Mathlib.Omega.{arith}
use lib.Dec.{eqb}
use lib.ListN.{length, take, drop, get_or, take-append-drop, length-append}
use lib.Seq.{drop-cons, take_all, length-take-le}
use borrow.Author.Tests.{le-leb, lt-leb, eqb-true}
use Rattle.lists.proofs.BoolLaws.{by_cases}
use Rattle.literal.specs.Match.{and_then}
use Rattle.model.specs.State.{Call}
use Rattle.reading.specs.Call.{on_first, fields, is_digit, digits_from, up_to, numeral, number, largest_predicate, head_of, signed, field}
use Rattle.reading.proofs.FieldLaws.{Spaceless, fields_then, fields_last, spaceless_digits}
use Rattle.reading.proofs.NumberLaws.{digits_append, number_of, number_missing, number_long, number_wrong}

-- a byte that is no space is in the field that it follows
field_within : (P : List (List ℕ) → Type 0) (b : ℕ) (line : List ℕ) → eqb b 32 ≡ false
    → ((more : List ℕ) (texts : List (List ℕ)) → P ((b ∷ more) ∷ texts)) → P (fields (b ∷ line))
field_within P b line other all = subst (λ t. P (cond t ([] ∷ fields line) (on_first b (fields line)))) (sym other) (by (fields line)) where
  by : (texts : List (List ℕ)) → P (on_first b texts)
  by [] = all [] []
  by (text ∷ texts) = all text texts

pub fields_within : (P : List (List ℕ) → Type 0) (text : List ℕ) (b : ℕ) (line : List ℕ) → Spaceless text → eqb b 32 ≡ false
    → ((more : List ℕ) (texts : List (List ℕ)) → P ((text ++ (b ∷ more)) ∷ texts)) → P (fields (text ++ (b ∷ line)))
fields_within P [] b line p other all = field_within P b line other all
fields_within P (c ∷ text) b line p other all =
    subst (λ t. P (cond t ([] ∷ fields (text ++ (b ∷ line))) (on_first c (fields (text ++ (b ∷ line)))))) (sym p.0)
    (fields_within (λ texts. P (on_first c texts)) text b line p.1 other all)

-- no number is empty
pub empty_reads : (width most : ℕ) (line : List ℕ) (next : ℕ → List (List ℕ) → Option Call) → length line ≡ 0 → field (numeral width most) (fields line) next ≡ None
empty_reads width most [] next e = rw (number_missing width most [] refl)
empty_reads width most (b ∷ line) next e = absurd (omega arith)

-- a sign with a number behind it
sign_then : (b : ℕ) (line : List ℕ) (next : ℕ → List (List ℕ) → Option Call) → field head_of (fields (b ∷ line)) next
    ≡ field (number largest_predicate) (fields line) (λ predicate texts. and_then (signed b predicate) (λ head. next head texts))
unfolding head_of
sign_then b line next = by_cases (eqb b 32) (λ e. rw e (spaced (eqb-true b 32 e) (fields line))) (λ e. rw e (by (fields line))) where
  after : ℕ → List (List ℕ) → Option Call
  after predicate texts = and_then (signed b predicate) (λ head. next head texts)

  spaced : b ≡ 32 → (texts : List (List ℕ)) → None ≡ field (number largest_predicate) texts after
  spaced e [] = refl
  spaced e (text ∷ texts) = of (number largest_predicate text) where
    of : (said : Option ℕ) → None ≡ and_then said (λ predicate. after predicate texts)
    of None = refl
    of (Some predicate) = rw e

  by : (texts : List (List ℕ)) → field head_of (on_first b texts) next ≡ field (number largest_predicate) texts after
  by [] = rw (number_missing 5 32767 [] refl)
  by (text ∷ texts) = of (number largest_predicate text) where
    of : (said : Option ℕ) → and_then (and_then said (signed b)) (λ head. next head texts) ≡ and_then said (λ predicate. after predicate texts)
    of None = refl
    of (Some predicate) = refl

pub sign_left : (line : List ℕ) (next : ℕ → List (List ℕ) → Option Call) → 1 ≤ length line → field head_of (fields line) next
    ≡ field (number largest_predicate) (fields (drop 1 line)) (λ predicate texts. and_then (signed (get_or line 0 0) predicate) (λ head. next head texts))
sign_left [] next h = absurd (omega arith)
sign_left (b ∷ line) next h = sign_then b line next

pub sign_missing : (line : List ℕ) (next : ℕ → List (List ℕ) → Option Call) → length line < 1 → field head_of (fields line) next ≡ None
unfolding head_of
sign_missing [] next h = refl
sign_missing (b ∷ line) next h = absurd (omega arith)

-- ---- The first i bytes of a line are digits
module _ (width most : ℕ) (line : List ℕ) (i value : ℕ) (e : digits_from 0 (take i line) ≡ Some value) (next : ℕ → List (List ℕ) → Option Call) where
  spaceless : Spaceless (take i line)
  spaceless = spaceless_digits 0 value (take i line) e

  -- a space ends them
  at_space : i < length line → get_or line i 0 ≡ 32 → fields line ≡ take i line ∷ fields (drop (suc i) line)
  at_space inside space =
      ap fields (sym (take-append-drop i line) ∙ ap (λ t. take i line ++ t) (drop-cons line i 0 inside ∙ ap (λ b. b ∷ drop (suc i) line) space))
      ∙ fields_then (take i line) (drop (suc i) line) spaceless

  -- another byte follows them
  follows : eqb (get_or line i 0) 32 ≡ false → i < length line
      → ((more : List ℕ) → numeral width most (take i line ++ (get_or line i 0 ∷ more)) ≡ None) → field (numeral width most) (fields line) next ≡ None
  follows other inside bad =
      subst (λ t. field (numeral width most) (fields t) next ≡ None)
      (ap (λ t. take i line ++ t) (sym (drop-cons line i 0 inside)) ∙ take-append-drop i line)
      (fields_within (λ texts. field (numeral width most) texts next ≡ None) (take i line) (get_or line i 0) (drop (suc i) line) spaceless other (λ more texts. rw (bad more)))

  -- that is no digit
  pub other_reads : i < length line → is_digit (get_or line i 0) ≡ false → eqb (get_or line i 0) 32 ≡ false → field (numeral width most) (fields line) next ≡ None
  other_reads inside bad other =
      follows other inside
      (λ more. number_wrong width most (take i line ++ (get_or line i 0 ∷ more)) (digits_append 0 value (take i line) (get_or line i 0 ∷ more) e ∙ rw bad))

  -- that is one too many
  pub long_reads : i < length line → width ≤ i → eqb (get_or line i 0) 32 ≡ false → field (numeral width most) (fields line) next ≡ None
  long_reads inside full other =
      follows other inside
      (λ more. number_long width most (take i line ++ (get_or line i 0 ∷ more)) (rw (length-append (take i line) (get_or line i 0 ∷ more), length-take-le i line (omega arith)) (omega arith)))

  -- ---- A space or the line's end after them

  space_number : i < length line → get_or line i 0 ≡ 32 → 1 ≤ i → i ≤ width
      → field (numeral width most) (fields line) next ≡ and_then (up_to most value) (λ n. next n (fields (drop (suc i) line)))
  space_number inside space one few =
      let long : length (take i line) ≡ i = length-take-le i line (omega arith) in
      ap (λ texts. field (numeral width most) texts next) (at_space inside space)
      ∙ ap (λ said. and_then said (λ n. next n (fields (drop (suc i) line)))) (number_of width most value (take i line) (rw long one) (rw long few) e)

  pub space_missing : i < length line → get_or line i 0 ≡ 32 → i ≡ 0 → field (numeral width most) (fields line) next ≡ None
  space_missing inside space none =
      ap (λ texts. field (numeral width most) texts next) (at_space inside space)
      ∙ ap (λ said. and_then said (λ n. next n (fields (drop (suc i) line)))) (number_missing width most (take i line) (length-take-le i line (omega arith) ∙ none))

  pub space_over : i < length line → get_or line i 0 ≡ 32 → 1 ≤ i → i ≤ width → most < value → field (numeral width most) (fields line) next ≡ None
  space_over inside space one few over = space_number inside space one few ∙ rw (lt-leb value most over)

  pub space_said : i < length line → get_or line i 0 ≡ 32 → 1 ≤ i → i ≤ width → value ≤ most
      → field (numeral width most) (fields line) next ≡ next value (fields (drop (suc i) line))
  space_said inside space one few fits = space_number inside space one few ∙ rw (le-leb value most fits)

  end_number : length line ≤ i → 1 ≤ length line → length line ≤ width → field (numeral width most) (fields line) next ≡ and_then (up_to most value) (λ n. next n [])
  end_number end one few =
      let all : digits_from 0 line ≡ Some value = ap (digits_from 0) (sym (take_all i line end)) ∙ e in
      ap (λ texts. field (numeral width most) texts next) (fields_last line (spaceless_digits 0 value line all))
      ∙ ap (λ said. and_then said (λ n. next n [])) (number_of width most value line one few all)

  pub end_over : length line ≤ i → 1 ≤ length line → length line ≤ width → most < value → field (numeral width most) (fields line) next ≡ None
  end_over end one few over = end_number end one few ∙ rw (lt-leb value most over)

  pub end_said : length line ≤ i → 1 ≤ length line → length line ≤ width → value ≤ most → field (numeral width most) (fields line) next ≡ next value []
  end_said end one few fits = end_number end one few ∙ rw (le-leb value most fits)
