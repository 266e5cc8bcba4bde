-- Laws of literals: the same literals are equal, and what their opposites are.
use Prim.Native.Nat.{ℕ, ◌+◌, ◌-◌, ◌%◌, ◌<◌}
use native.Mathlib.Omega.{arith}
use mathlib.Core.Path.{◌≡◌, refl, ap, sym, ◌∙◌}
use mathlib.Core.Bool.{true, false, cond}
use lib.Dec.{ltb, eqb}
use borrow.Author.Tests.{lt-ltb, le-ltb, ltb-true, ltb-false, eq-eqb, ne_eqb, eqb-true}
use Rattle.lists.proofs.BoolLaws.{by_cases, both_ways, and_parts}
use Rattle.literal.specs.declared.Literal.{Literal}
use Rattle.literal.specs.Literal.{is_ground, same, negative, opposite_head, opposite}

module _ (l m : Literal) where
  pub same_equal : same l m ≡ true → l ≡ m
  unfolding same
  same_equal e =
      let a = and_parts (eqb l.head m.head) _ e in
      let b = and_parts (eqb l.first m.first) _ a.1 in
      let c = and_parts (eqb l.second m.second) _ b.1 in
      let head = eqb-true _ _ a.0 in
      let first = eqb-true _ _ b.0 in
      let second = eqb-true _ _ c.0 in
      let third = eqb-true _ _ c.1 in
      λ i. record { head = head i; first = first i; second = second i; third = third i }

pub same_itself : (l : Literal) → same l l ≡ true
unfolding same
same_itself l = rw (eq-eqb l.head _ refl, eq-eqb l.first _ refl, eq-eqb l.second _ refl, eq-eqb l.third _ refl)

pub equal_same : (l m : Literal) → l ≡ m → same l m ≡ true
equal_same l m e = rw (← e) (same_itself l)

pub same_either_way : (l m : Literal) → same l m ≡ same m l
same_either_way l m = by_cases (same l m)
    (λ p. p ∙ sym (equal_same m l (sym (same_equal l m p))))
    (λ p. by_cases (same m l) (λ q. both_ways (equal_same l m (sym (same_equal m l q))) p) (λ q. p ∙ sym q))

-- ---- Opposites

-- of every head that a literal can have: 32,768 is added to a positive one and taken from a negative one, as document 01 writes the sign
pub opposite_of_head : (head : ℕ) → head < 65536 → opposite_head head ≡ cond (ltb head negative) (head + negative) (head - negative)
opposite_of_head head h = let e : head % 65536 ≡ head = omega arith in ap (λ (n : ℕ). cond (ltb n negative) (head + negative) (head - negative)) e

-- a literal is not its opposite
pub opposite_differs : (l : Literal) → same l (opposite l) ≡ false
unfolding same opposite
opposite_differs l = rw (ne_eqb l.head (opposite_head l.head) other)
  where
    other : l.head ≡ opposite_head l.head → ⊥
    other = by_cases (ltb (l.head % 65536) negative) (λ p. rw p (λ e. omega arith)) (λ p. rw p (λ e. omega (arith, ltb-false (l.head % 65536) negative p)))

-- it is ground where the literal is
pub opposite_ground : (l : Literal) → is_ground (opposite l) ≡ is_ground l
unfolding is_ground opposite
opposite_ground l = refl

-- the opposite's opposite is the literal
pub opposite_twice : (l : Literal) → opposite (opposite l) ≡ l
unfolding opposite
opposite_twice l = λ i. record { head = back i; first = l.first; second = l.second; third = l.third }
  where
    back : opposite_head (opposite_head l.head) ≡ l.head
    back = by_cases (ltb (l.head % 65536) negative)
        (λ p. let k = ltb-true (l.head % 65536) negative p in let q = le-ltb ((l.head + negative) % 65536) negative (omega arith) in rw (p, q) (omega arith))
        (λ p. let k = ltb-false (l.head % 65536) negative p in let q = lt-ltb ((l.head - negative) % 65536) negative (omega arith) in rw (p, q) (omega arith))

-- of two literals, one is the other's opposite just where the other is its
pub opposite-either_way : (l m : Literal) → same (opposite l) m ≡ same (opposite m) l
opposite-either_way l m = by_cases (same (opposite l) m)
    (λ p. p ∙ sym (equal_same (opposite m) l (ap opposite (sym (same_equal (opposite l) m p)) ∙ opposite_twice l)))
    (λ p. by_cases (same (opposite m) l) (λ q. both_ways (equal_same (opposite l) m (ap opposite (sym (same_equal (opposite m) l q)) ∙ opposite_twice m)) p) (λ q. p ∙ sym q))
