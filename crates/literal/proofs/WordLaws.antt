-- Laws of words: literals of 16-bit numbers are the same where their words are equal.
use Prim.Native.Nat.{ℕ, ◌+◌, ◌*◌, ◌%◌, ◌<◌}
use native.Mathlib.Omega.{arith}
use mathlib.Core.Path.{◌≡◌, ap, sym, ◌∙◌}
use native.Mathlib.Nat.{mod-eq_of_lt, mul-add-mod_self_right}
use lib.Dec.{eqb}
use borrow.Author.Tests.{eq-eqb, eqb-true}
use Rattle.lists.proofs.BoolLaws.{by_cases}
use Rattle.literal.specs.declared.Literal.{Literal}
use Rattle.literal.specs.Literal.{same}
use Rattle.literal.specs.Word.{word}
use Rattle.literal.proofs.LiteralLaws.{same_equal, equal_same}

-- each number of the literal has 16 bits
pub record Stored (l : Literal) : Type 0 where
  pub head : l.head < 65536
  pub first : l.first < 65536
  pub second : l.second < 65536
  pub third : l.third < 65536

-- the lowest 16 bits of two equal numbers
low_equal : (a b x y : ℕ) → x < 65536 → y < 65536 → a * 65536 + x ≡ b * 65536 + y → x ≡ y
low_equal a b x y h k e = sym (low a x h) ∙ ap (λ (n : ℕ). n % 65536) e ∙ low b y k
  where
    low : (n digit : ℕ) → digit < 65536 → (n * 65536 + digit) % 65536 ≡ digit
    low n digit small = mul-add-mod_self_right n 65536 digit ∙ mod-eq_of_lt small

module _ (l m : Literal) (s : Stored l) (t : Stored m) where
  word_equal : word l ≡ word m → l ≡ m
  unfolding word
  word_equal e =
      let head = low_equal _ _ l.head m.head s.head t.head e in
      let e1 : (l.third * 65536 + l.second) * 65536 + l.first ≡ (m.third * 65536 + m.second) * 65536 + m.first = omega arith in
      let first = low_equal _ _ l.first m.first s.first t.first e1 in
      let e2 : l.third * 65536 + l.second ≡ m.third * 65536 + m.second = omega arith in
      let second = low_equal _ _ l.second m.second s.second t.second e2 in
      let third : l.third ≡ m.third = omega arith in
      λ i. record { head = head i; first = first i; second = second i; third = third i }

  pub words_decide : eqb (word l) (word m) ≡ same l m
  words_decide = by_cases (eqb (word l) (word m))
      (λ p. p ∙ sym (equal_same l m (word_equal (eqb-true (word l) (word m) p))))
      (λ p. by_cases (same l m) (λ q. eq-eqb (word l) (word m) (ap word (same_equal l m q)) ∙ sym q) (λ q. p ∙ sym q))
