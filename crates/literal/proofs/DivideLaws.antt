-- Laws of a divide: that it is exact, and that a plan which divides into its own input misses it.
use Prim.Native.Nat.{ℕ, ◌+◌, ◌/◌, ◌%◌, ◌<◌}
use native.Mathlib.Nat.{mod-lt, div-le_self, div-add-mod, mul_comm}
use native.Mathlib.Omega.{arith}
use mathlib.Core.Path.{◌≡◌, refl, ap, sym, ◌∙◌}
use mathlib.Core.Bool.{Bool, true, false, not, ◌||◌}
use Rattle.std.specs.Prelude.{None, Some}
use lib.Dec.{ltb, eqb}
use borrow.Author.Tests.{lt-ltb, le-ltb, eqb-true, eqb-false, ltb-true, not-true}
use Rattle.lists.proofs.BoolLaws.{by_cases, both_ways, and_parts}
use Rattle.lists.proofs.OptionLaws.{some_equal, none-some}
use Rattle.literal.specs.declared.Literal.{Literal}
use Rattle.literal.specs.declared.Env.{Env}
use Rattle.literal.specs.Literal.{first_variable, is_constant}
use Rattle.literal.specs.Environment.{value, replace, bind, is_env}
use Rattle.literal.specs.Divide.{quotient_in, remainder_in, quotient_variable, remainder_variable, can_divide, divide, Divided, is_result, divides_into_input}
use Rattle.literal.proofs.EnvLaws.{replace_same, replace_other, constant_variable, value-bind, env_value, bind_env}

-- where the test fails there is none
cannot : (l : Literal) (env : Env) → can_divide l env ≡ false → divide l env ≡ None
unfolding divide
cannot l env e = rw e

-- ---- What holds of it

-- what the test shows
record Divides (l : Literal) (env : Env) : Type 0 where
  length : is_constant (value env l.first) ≡ true
  panel : is_constant (value env l.second) ≡ true
  some-panel : 0 < value env l.second
  quotient : is_constant (value env (quotient_variable l)) ≡ false
  remainder : is_constant (value env (remainder_variable l)) ≡ false

divides : (l : Literal) (env : Env) → can_divide l env ≡ true → Divides l env
unfolding can_divide
divides l env e =
    let head = and_parts (ltb l.head 64) _ e in
    let first = and_parts (is_constant (value env l.first)) _ head.1 in
    let second = and_parts (is_constant (value env l.second)) _ first.1 in
    let third = and_parts (not (eqb (value env l.second) 0)) _ second.1 in
    let fourth = and_parts (not (is_constant (value env (quotient_variable l)))) _ third.1 in
    let ne = eqb-false (value env l.second) 0 (not-true _ third.0) in
    record { length = first.0; panel = second.0; some-panel = omega arith; quotient = not-true _ fourth.0; remainder = not-true _ fourth.1 }

no_constant : (number : ℕ) → is_constant (first_variable + number) ≡ false
no_constant number = le-ltb (first_variable + number) 65528 (omega arith)

-- the quotient and the remainder are constants, as the lengths are
module _ (l : Literal) (env : Env) (d : Divides l env) where
  quotient_constant : is_constant (value env l.first / value env l.second) ≡ true
  quotient_constant =
      let n = value env l.first in
      let k = value env l.second in
      lt-ltb (n / k) 65528 (omega (arith, ltb-true n 65528 d.length, div-le_self n k))

  remainder_constant : is_constant (value env l.first % value env l.second) ≡ true
  remainder_constant =
      let n = value env l.first in
      let k = value env l.second in
      lt-ltb (n % k) 65528 (omega (arith, ltb-true k 65528 d.panel, mod-lt n d.some-panel))

module _ (l : Literal) (env next : Env) (e : divide l env ≡ Some next) where
  -- the test passed, and this is the environment after it
  done : Divides l env × (next ≡ bind (value env (remainder_variable l)) (value env l.first % value env l.second)
      (bind (value env (quotient_variable l)) (value env l.first / value env l.second) env))
  unfolding divide
  done = by_cases (can_divide l env) (λ c. (divides l env c, sym (some_equal (rw c at e)))) (λ c. none-some (rw c at e))

  -- it keeps the rule for environments
  pub divide_env : is_env env ≡ true → is_env next ≡ true
  divide_env h =
      let (d, is) = done in
      rw is (bind_env _ _ _ (remainder_constant l env d) (bind_env _ _ env (quotient_constant l env d) h))

  -- where the two variables differ it is exact: length = panels × panel + remainder, the remainder less than the panel
  module _ (h : is_env env ≡ true) (two : quotient_in l.head ≡ remainder_in l.head → ⊥) where
    abbrev length : ℕ
    length = value env l.first

    abbrev panel : ℕ
    panel = value env l.second

    -- what a term stands for after it
    after : (term : ℕ) → value next term ≡ replace (remainder_variable l) (length % panel) (replace (quotient_variable l) (length / panel) (value env term))
    after term =
        let (d, is) = done in
        let q = env_value env (quotient_variable l) h d.quotient in
        let r = env_value env (remainder_variable l) h d.remainder in
        rw (is, q, r) (value-bind (remainder_variable l) (length % panel) (bind (quotient_variable l) (length / panel) env) term (no_constant (remainder_in l.head))
        ∙ ap (replace (remainder_variable l) (length % panel)) (value-bind (quotient_variable l) (length / panel) env term (no_constant (quotient_in l.head))))

    quotient_is : value next (quotient_variable l) ≡ length / panel
    quotient_is =
        let d = done.0 in
        after (quotient_variable l) ∙ rw (env_value env (quotient_variable l) h d.quotient, replace_same (quotient_variable l) (length / panel))
        (replace_other (remainder_variable l) (length % panel) (length / panel) (constant_variable (quotient_constant l env d) (no_constant (remainder_in l.head))))

    remainder_is : value next (remainder_variable l) ≡ length % panel
    remainder_is =
        let d = done.0 in
        let other : remainder_variable l ≡ quotient_variable l → ⊥ = λ p. two (omega arith) in
        after (remainder_variable l) ∙ rw (env_value env (remainder_variable l) h d.remainder, replace_other (quotient_variable l) (length / panel) (remainder_variable l) other)
        (replace_same (remainder_variable l) (length % panel))

    -- a term stands for a variable only where it is that variable
    own : (term number : ℕ) → (term ≡ first_variable + number → ⊥) → value env term ≡ first_variable + number → ⊥
    own term number differ p = differ (sym (env_value env term h (ap is_constant p ∙ no_constant number)) ∙ p)

    pub divide_exact : Divided l env next
    divide_exact =
        let some-panel = done.0.some-panel in
        record {
          exact = rw (quotient_is, remainder_is, mul_comm (length / panel) panel) (sym (div-add-mod length panel));
          less = rw remainder_is (mod-lt length some-panel);
          others = λ term q r. after term ∙ rw (replace_other (quotient_variable l) (length / panel) (value env term) (own term (quotient_in l.head) q))
              (replace_other (remainder_variable l) (length % panel) (value env term) (own term (remainder_in l.head) r));
        }

-- ---- Dividing into an input

either : {P : Type 0} (a b : Bool) → (a || b) ≡ true → (a ≡ true → P) → (b ≡ true → P) → P
either true b e f g = f refl
either false b e f g = g e

-- a plan that divides into its own input always misses
pub own_input_missed : (l : Literal) (env : Env) → divides_into_input l ≡ true → divide l env ≡ None
own_input_missed l env h = by_cases (can_divide l env) (λ c. clash (divides l env c)) (cannot l env)
  where
    -- a length that is bound is the variable of no result
    bound : Divides l env → (term : ℕ) → is_constant (value env term) ≡ true → {P : Type 0} → is_result l term ≡ true → P
    bound d term k e = either (eqb term (quotient_variable l)) (eqb term (remainder_variable l)) e
        (λ p. both_ways (rw (eqb-true term (quotient_variable l) p) at k) d.quotient)
        (λ p. both_ways (rw (eqb-true term (remainder_variable l) p) at k) d.remainder)

    clash : Divides l env → divide l env ≡ None
    clash d = either (is_result l l.first) (is_result l l.second) h (bound d l.first d.length) (bound d l.second d.panel)
