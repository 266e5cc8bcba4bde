-- A field or a change is read back from its text, with what stands after it: so no two of them have one text.
use Prim.Native.Nat.{ℕ, zero, suc, ◌+◌, ◌/◌, ◌%◌, ◌≤◌, ◌<◌}
use native.Mathlib.Omega.{arith}
use mathlib.Core.Path.{◌≡◌, refl, ap, ap₂, ◌∙◌}
use mathlib.Core.Bool.{Bool, true, cond}
use mathlib.Core.Logic.{⊎_elim}
use mathlib.Core.List.{List, [], ◌∷◌, ◌++◌, tail, append_assoc}
use lib.Dec.{leb, eqb, ltb}
use lib.ListN.{get_or}
use borrow.Author.Tests.{le-leb, lt-leb, ltb-true, ltb-false}
use Rattle.std.specs.List.{list_all}
use Rattle.lists.proofs.BoolLaws.{by_cases, and_parts}
use Rattle.lists.proofs.TestLaws.{all-joined}
use Rattle.literal.specs.declared.Literal.{Literal}
use Rattle.literal.specs.Literal.{negative}
use Rattle.printing.specs.Decimal.{last_digit, decimal, value}
use Rattle.printing.specs.LineText.{sign_byte, number_text, literal_text, is_head}
use Rattle.printing.proofs.DecimalLaws.{side, decimal_small, decimal_more, value-decimal}

-- ---- Numbers

abbrev is_digit : ℕ → Bool
is_digit b = leb 48 b

-- the digits that a text begins with, and what stands after them
abbrev front : List ℕ → List ℕ
front [] = []
front (b ∷ text) = cond (is_digit b) (b ∷ front text) []

abbrev back : List ℕ → List ℕ
back [] = []
back (b ∷ text) = cond (is_digit b) (back text) (b ∷ text)

-- a number ends where this begins
abbrev pub Stops : List ℕ → Type 0
Stops [] = Unit {0}
Stops (b ∷ text) = b < 48

front_stop : (s : List ℕ) → Stops s → front s ≡ []
front_stop [] h = refl
front_stop (b ∷ s) h = rw (lt-leb 48 b h)

back_stop : (s : List ℕ) → Stops s → back s ≡ s
back_stop [] h = refl
back_stop (b ∷ s) h = rw (lt-leb 48 b h)

front-digits : (digits s : List ℕ) → list_all is_digit digits ≡ true → Stops s → front (digits ++ s) ≡ digits
front-digits [] s p h = front_stop s h
front-digits (b ∷ digits) s p h = let parts = and_parts (is_digit b) _ p in rw (parts.0, front-digits digits s parts.1 h)

back_digits : (digits s : List ℕ) → list_all is_digit digits ≡ true → Stops s → back (digits ++ s) ≡ s
back_digits [] s p h = back_stop s h
back_digits (b ∷ digits) s p h = let parts = and_parts (is_digit b) _ p in rw parts.0 (back_digits digits s parts.1 h)

digits_by_lem : (k n : ℕ) → n < k → list_all is_digit (decimal n) ≡ true
digits_by_lem zero n h = absurd (omega arith)
digits_by_lem (suc k) n h =
    ⊎_elim (λ (big : 10 ≤ n). rw (decimal_more n big)
    (all-joined is_digit (decimal (n / 10)) (last_digit n ∷ []) (digits_by_lem k (n / 10) (omega arith)) (rw (le-leb 48 (last_digit n) (omega arith)))))
    (λ (small : n < 10). rw (decimal_small n small) (rw (le-leb 48 (48 + n) (omega arith))))
    (side n 10)

digits_of : (n : ℕ) → list_all is_digit (decimal n) ≡ true
digits_of n = digits_by_lem (suc n) n (omega arith)

front_is : (n : ℕ) (s : List ℕ) → Stops s → value (front (decimal n ++ s)) ≡ n
front_is n s h = ap value (front-digits (decimal n) s (digits_of n) h) ∙ value-decimal n

back_is : (n : ℕ) (s : List ℕ) → Stops s → back (decimal n ++ s) ≡ s
back_is n s h = back_digits (decimal n) s (digits_of n) h

starts_by : (k n : ℕ) (s : List ℕ) → n < k → (48 ≤ get_or (decimal n ++ s) 0 0) × (get_or (decimal n ++ s) 0 0 < 58)
starts_by zero n s h = absurd (omega arith)
starts_by (suc k) n s h =
    ⊎_elim (λ (big : 10 ≤ n). rw (decimal_more n big, append_assoc) (starts_by k (n / 10) ((last_digit n ∷ []) ++ s) (omega arith)))
    (λ (small : n < 10). rw (decimal_small n small) (omega arith, omega arith))
    (side n 10)

-- the first byte of a number is a digit
pub number_starts : (n : ℕ) (s : List ℕ) → (48 ≤ get_or (decimal n ++ s) 0 0) × (get_or (decimal n ++ s) 0 0 < 58)
number_starts n s = starts_by (suc n) n s (omega arith)

-- ---- A number after a space

pub number_at : List ℕ → ℕ
number_at text = value (front (tail text))

pub after_number : List ℕ → List ℕ
after_number text = back (tail text)

pub number_at_lem : (n : ℕ) (s : List ℕ) → Stops s → number_at (number_text n ++ s) ≡ n
unfolding number_at
number_at_lem n s h = front_is n s h

pub after-number : (n : ℕ) (s : List ℕ) → Stops s → after_number (number_text n ++ s) ≡ s
unfolding after_number
after-number n s h = back_is n s h

-- ---- Literals

-- a sign and the number after it
head_by : ℕ → ℕ → ℕ
head_by sign predicate = cond (eqb sign 43) predicate (predicate + negative)

head_by_lem : (head : ℕ) → ltb head 65536 ≡ true → head_by (sign_byte head) (head % negative) ≡ head
unfolding head_by
head_by_lem head h =
    let top = ltb-true head 65536 h in
    by_cases (ltb head negative) (λ p. let low = ltb-true head negative p in rw p (omega arith)) (λ p. let high = ltb-false head negative p in rw p (omega arith))

-- three numbers
terms_at : ℕ → List ℕ → Literal
terms_at head text = record {
  head = head;
  first = number_at text;
  second = number_at (after_number text);
  third = number_at (after_number (after_number text));
}

after_terms : List ℕ → List ℕ
after_terms text = after_number (after_number (after_number text))

pub literal_at : List ℕ → Literal
literal_at text = terms_at (head_by (get_or text 1 0) (value (front (tail (tail text))))) (back (tail (tail text)))

pub after_literal : List ℕ → List ℕ
after_literal text = after_terms (back (tail (tail text)))

module _ (l : Literal) (s : List ℕ) (h : Stops s) where
  -- the terms, then what stands after them
  abbrev terms : List ℕ
  terms = number_text l.first ++ (number_text l.second ++ (number_text l.third ++ s))

  spread : literal_text l ++ s ≡ 32 ∷ sign_byte l.head ∷ (decimal (l.head % negative) ++ terms)
  unfolding literal_text
  spread = simp append_assoc

  terms_at_lem : (head : ℕ) → head ≡ l.head → terms_at head terms ≡ l
  unfolding terms_at
  terms_at_lem head same =
      let one : after_number terms ≡ number_text l.second ++ (number_text l.third ++ s) = after-number l.first _ (omega arith) in
      let two : after_number (after_number terms) ≡ number_text l.third ++ s = ap after_number one ∙ after-number l.second _ (omega arith) in
      let a : number_at terms ≡ l.first = number_at_lem l.first _ (omega arith) in
      let b = ap number_at one ∙ number_at_lem l.second _ (omega arith) in
      let c = ap number_at two ∙ number_at_lem l.third s h in
      λ i. record { head = same i; first = a i; second = b i; third = c i }

  after-terms : after_terms terms ≡ s
  unfolding after_terms
  after-terms = ap (λ t. after_number (after_number t)) (after-number l.first _ (omega arith))
      ∙ ap after_number (after-number l.second _ (omega arith)) ∙ after-number l.third s h

  pub literal_at_lem : is_head l ≡ true → literal_at (literal_text l ++ s) ≡ l
  unfolding literal_at
  literal_at_lem fit =
      let predicate = front_is (l.head % negative) terms (omega arith) in
      let rest = back_is (l.head % negative) terms (omega arith) in
      ap literal_at spread ∙ ap₂ terms_at (ap (head_by (sign_byte l.head)) predicate) rest ∙ terms_at_lem _ (head_by_lem l.head fit)

  pub after-literal : after_literal (literal_text l ++ s) ≡ s
  unfolding after_literal
  after-literal = ap after_literal spread ∙ ap after_terms (back_is (l.head % negative) terms (omega arith)) ∙ after-terms
