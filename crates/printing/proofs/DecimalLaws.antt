-- Laws of numbers in base ten: a number's text says the number, how long it is, and its text from that of its higher digits.
use Prim.Native.Nat.{ℕ, zero, suc, ◌+◌, ◌-◌, ◌*◌, ◌/◌, ◌%◌, ◌^◌, ◌≤◌, ◌<◌}
use native.Mathlib.Nat.{pow-suc}
use native.Mathlib.Omega.{arith}
use mathlib.Core.Path.{◌≡◌, refl, sym, ap, ap₂, ◌∙◌}
use mathlib.Core.Logic.{◌⊎◌, inl, inr, ⊎_elim}
use mathlib.Core.List.{List, [], ◌∷◌, ◌++◌, append_assoc}
use lib.Dec.{ltb}
use lib.ListN.{length, length-append}
use borrow.Author.Tests.{lt-ltb, le-ltb, ltb-true, ltb-false}
use Rattle.lists.proofs.BoolLaws.{by_cases}
use Rattle.printing.specs.Decimal.{last_digit, decimal_by, decimal, value_from, value, last_two, last_four}
use Rattle.writing.proofs.WritingLaws.{widen, written}

-- ---- The text of a number, by its size

-- at least k, or below it
pub side : (n k : ℕ) → (k ≤ n) ⊎ (n < k)
side n k = by_cases (ltb n k) (λ e. inr (ltb-true n k e)) (λ e. inl (ltb-false n k e))

-- enough digits are enough
enough : (k m n : ℕ) → n < k → n < m → decimal_by k n ≡ decimal_by m n
enough zero m n h f = absurd (omega arith)
enough (suc k) zero n h f = absurd (omega arith)
enough (suc k) (suc m) n h f =
    ⊎_elim (λ (big : 10 ≤ n). rw (le-ltb n 10 big) (ap (λ (l : List ℕ). l ++ (last_digit n ∷ [])) (enough k m (n / 10) (omega arith) (omega arith))))
    (λ (small : n < 10). rw (lt-ltb n 10 small))
    (side n 10)

pub decimal_small : (n : ℕ) → n < 10 → decimal n ≡ (48 + n) ∷ []
unfolding decimal
decimal_small n h = rw (lt-ltb n 10 h)

pub decimal_more : (n : ℕ) → 10 ≤ n → decimal n ≡ decimal (n / 10) ++ (last_digit n ∷ [])
unfolding decimal
decimal_more n h = rw (le-ltb n 10 h) (ap (λ (l : List ℕ). l ++ (last_digit n ∷ [])) (enough n (suc (n / 10)) (n / 10) (omega arith) (omega arith)))

-- ---- A text says its number

value_from_snoc : (a : ℕ) (ds : List ℕ) (d : ℕ) → value_from a (ds ++ (d ∷ [])) ≡ value_from a ds * 10 + (d - 48)
value_from_snoc a [] d = refl
value_from_snoc a (x ∷ ds) d = value_from_snoc (a * 10 + (x - 48)) ds d

value_by : (k n : ℕ) → n < k → value (decimal n) ≡ n
value_by zero n h = absurd (omega arith)
value_by (suc k) n h =
    ⊎_elim (λ (big : 10 ≤ n). rw (decimal_more n big, value_from_snoc 0 (decimal (n / 10)) (last_digit n), value_by k (n / 10) (omega arith)) (omega arith))
    (λ (small : n < 10). rw (decimal_small n small) (omega arith))
    (side n 10)

pub value-decimal : (n : ℕ) → value (decimal n) ≡ n
value-decimal n = value_by (suc n) n (omega arith)

-- two numbers with one text are equal
pub decimal_injective : (m n : ℕ) → decimal m ≡ decimal n → m ≡ n
decimal_injective m n same = sym (value-decimal m) ∙ ap value same ∙ value-decimal n

-- ---- Its length

-- a number below ten to the suc k has at most suc k digits
pub length-decimal : (k n : ℕ) → n < 10 ^ suc k → length (decimal n) ≤ suc k
length-decimal zero n h = rw (decimal_small n (omega arith)) (omega arith)
length-decimal (suc k) n h =
    ⊎_elim (λ (big : 10 ≤ n). rw (decimal_more n big, length-append) (omega (arith, length-decimal k (n / 10) (omega (arith, pow-suc 10 (suc k))))))
    (λ (small : n < 10). rw (decimal_small n small) (omega arith))
    (side n 10)

-- ---- Two and four digits at a time, as the code writes them

pub decimal_two : (n : ℕ) → 10 ≤ n → n < 100 → last_two n ≡ decimal n
decimal_two n low high =
    let d : decimal (n / 10) ≡ (48 + n / 10) ∷ [] = decimal_small (n / 10) (omega arith) in
    let t : 48 + n / 10 ≡ last_digit (n / 10) = omega arith in
    sym (decimal_more n low ∙ rw (d, t))

-- from a hundred on: the higher digits, then two
hundreds : (n : ℕ) → 100 ≤ n → decimal n ≡ decimal (n / 100) ++ last_two n
hundreds n h =
    let q : n / 10 / 10 ≡ n / 100 = omega arith in
    decimal_more n (omega arith)
    ∙ ap (λ (l : List ℕ). l ++ (last_digit n ∷ [])) (decimal_more (n / 10) (omega arith) ∙ ap (λ (m : ℕ). decimal m ++ (last_digit (n / 10) ∷ [])) q)
    ∙ append_assoc (decimal (n / 100)) (last_digit (n / 10) ∷ []) (last_digit n ∷ [])

-- from ten thousand on: the higher digits, then four
myriads : (n : ℕ) → 10000 ≤ n → decimal n ≡ decimal (n / 10000) ++ last_four n
myriads n h =
    let q : n / 100 / 100 ≡ n / 10000 = omega arith in
    hundreds n (omega arith)
    ∙ ap (λ (l : List ℕ). l ++ last_two n) (hundreds (n / 100) (omega arith) ∙ ap (λ (m : ℕ). decimal m ++ last_two (n / 100)) q)
    ∙ append_assoc (decimal (n / 10000)) (last_two (n / 100)) (last_two n)

-- what stands above the last two digits does not count
two_low : (n : ℕ) → last_two (n % 100) ≡ last_two n
two_low n =
    let high : last_digit (n % 100 / 10) ≡ last_digit (n / 10) = omega arith in
    let low : last_digit (n % 100) ≡ last_digit n = omega arith in
    rw (high, low)

four_low : (n : ℕ) → last_four (n % 10000) ≡ last_four n
four_low n =
    let high : n % 10000 / 100 ≡ n / 100 % 100 = omega arith in
    let low : n % 10000 % 100 ≡ n % 100 = omega arith in
    ap₂ (λ (s t : List ℕ). s ++ t) (ap last_two high ∙ two_low (n / 100)) (sym (two_low (n % 10000)) ∙ ap last_two low ∙ two_low n)

pub from_hundreds : (n : ℕ) → 100 ≤ n → decimal (n / 100) ++ last_two (n % 100) ≡ decimal n
from_hundreds n h = ap (λ (l : List ℕ). decimal (n / 100) ++ l) (two_low n) ∙ sym (hundreds n h)

pub from_myriads : (n : ℕ) → 10000 ≤ n → decimal (n / 10000) ++ last_four (n % 10000) ≡ decimal n
from_myriads n h = ap (λ (l : List ℕ). decimal (n / 10000) ++ l) (four_low n) ∙ sym (myriads n h)

pub five_digits : (n : ℕ) → 10000 ≤ n → n < 100000 → (48 + n / 10000) ∷ last_four (n % 10000) ≡ decimal n
five_digits n low high =
    ap (λ (l : List ℕ). l ++ last_four (n % 10000)) (sym (decimal_small (n / 10000) (omega arith))) ∙ from_myriads n low

pub many-digits : (n : ℕ) → 100000000 ≤ n → decimal (n / 100000000) ++ last_four (n / 10000 % 10000) ++ last_four (n % 10000) ≡ decimal n
many-digits n h =
    let q : n / 100000000 ≡ n / 10000 / 10000 = omega arith in
    ap (λ (m : ℕ). decimal m ++ last_four (n / 10000 % 10000) ++ last_four (n % 10000)) q
    ∙ ap (λ (l : List ℕ). l ++ last_four (n % 10000)) (from_myriads (n / 10000) (omega arith)) ∙ from_myriads n (omega arith)

-- a number of one digit or two, as it is written
pub ruleset short = (widen, written, decimal_small, decimal_two)
