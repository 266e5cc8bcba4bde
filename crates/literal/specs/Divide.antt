-- Dividing a length by another into two variables (document 02, request 11). dMARS has no such branch.
use Rattle.std.specs.Prelude.{ℕ, ◌+◌, ◌*◌, ◌/◌, ◌%◌, ◌<◌, ◌≡◌, Bool, cond, not, ◌&&◌, ◌||◌, ltb, eqb, Option, None, Some}
use Rattle.literal.specs.declared.Literal.{Literal}
use Rattle.literal.specs.declared.Env.{Env}
use Rattle.literal.specs.Literal.{first_variable, is_constant}
use Rattle.literal.specs.Environment.{value, bind}

-- ---- The two variables

-- the variable numbers of a predicate field q + 8 × r
abbrev pub quotient_in : ℕ → ℕ
quotient_in field = field % 8

abbrev pub remainder_in : ℕ → ℕ
remainder_in field = field / 8

-- fields from this number on name no two variables
abbrev pub variable_pairs : ℕ
variable_pairs = 64

-- the variable Vq gets the whole panels, Vr the remainder
abbrev pub quotient_variable : Literal → ℕ
quotient_variable l = first_variable + quotient_in l.head

abbrev pub remainder_variable : Literal → ℕ
remainder_variable l = first_variable + remainder_in l.head

-- ---- What a divide does

-- it can be done, for two variables: no length is unbound, the panel is not 0, and neither Vq nor Vr is already bound
unfoldable pub can_divide : Literal → Env → Bool
can_divide l env =
    ltb l.head variable_pairs
    && (is_constant (value env l.first) && (is_constant (value env l.second) && (not (eqb (value env l.second) 0)
    && (not (is_constant (value env (quotient_variable l))) && not (is_constant (value env (remainder_variable l)))))))

-- the environment after it, with both variables bound; none where it cannot be done
unfoldable pub divide : Literal → Env → Option Env
divide l env =
    let length = value env l.first in
    let panel = value env l.second in
    cond (can_divide l env)
    (Some (bind (value env (remainder_variable l)) (length % panel) (bind (value env (quotient_variable l)) (length / panel) env)))
    None

-- ---- What holds of it

-- length = panels × panel + remainder, the remainder is less than the panel, and every other variable is as before
pub record Divided (l : Literal) (env next : Env) : Type 0 where
  pub exact : value env l.first ≡ value next (quotient_variable l) * value env l.second + value next (remainder_variable l)
  pub less : value next (remainder_variable l) < value env l.second
  pub others : (term : ℕ) → (term ≡ quotient_variable l → ⊥) → (term ≡ remainder_variable l → ⊥)
      → value next term ≡ value env term

-- a term is the variable of a result
abbrev pub is_result : Literal → ℕ → Bool
is_result l term = eqb term (quotient_variable l) || eqb term (remainder_variable l)

-- a length or the panel is one
abbrev pub divides_into_input : Literal → Bool
divides_into_input l = is_result l l.first || is_result l l.second
