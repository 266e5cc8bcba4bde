-- Terms and literals (document 01, "Literals and matching"; dMARS 4.1, Term, Atom and BelForm).
-- Departs from dMARS: no function terms, three terms, and the sign is part of the head.
use Rattle.std.specs.Prelude.{ℕ, ◌+◌, ◌-◌, ◌%◌, Bool, cond, ◌&&◌, ltb, eqb}
use Rattle.literal.specs.declared.Literal.{Literal}

-- ---- Terms

-- the number of V0, the first of eight variables; lower numbers are constants
abbrev pub first_variable : ℕ
first_variable = 65528

abbrev pub is_constant : ℕ → Bool
is_constant term = ltb term first_variable

-- ---- Literals

-- without variables (dMARS 4.1, Belief)
unfoldable pub is_ground : Literal → Bool
is_ground l = is_constant l.first && (is_constant l.second && is_constant l.third)

unfoldable pub same : Literal → Literal → Bool
same l m = eqb l.head m.head && (eqb l.first m.first && (eqb l.second m.second && eqb l.third m.third))

-- what a negative literal's head has above its predicate
abbrev pub negative : ℕ
negative = 32768

-- the head with the other sign. A head has 16 bits, so it is its own remainder (LiteralLaws, opposite-of-head); a larger number
-- has an opposite too, so that no law needs a bound
abbrev pub opposite_head : ℕ → ℕ
opposite_head head = cond (ltb (head % 65536) negative) (head + negative) (head - negative)

-- the literal with the other sign
unfoldable pub opposite : Literal → Literal
opposite l = record { head = opposite_head l.head; first = l.first; second = l.second; third = l.third }

-- the second is the first one's opposite
abbrev pub opposed : Literal → Literal → Bool
opposed l m = same (opposite l) m
