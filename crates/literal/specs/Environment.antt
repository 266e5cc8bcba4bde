-- Environments (document 01, "Literals and matching"; dMARS Appendix A, Sub, ASVar, ASTerm and ASBelForm).
-- Departs from dMARS: a variable is bound to a constant or, while it is unbound, to itself.
use Rattle.std.specs.Prelude.{ℕ, suc, ◌-◌, Bool, true, cond, ◌&&◌, ◌||◌, List, [], ◌∷◌, map, get_or, length, eqb}
use Rattle.literal.specs.declared.Literal.{Literal}
use Rattle.literal.specs.declared.Env.{Env}
use Rattle.literal.specs.Literal.{first_variable, is_constant}

-- nothing is bound
abbrev pub empty_env : Env
empty_env = record { terms = 65528 ∷ 65529 ∷ 65530 ∷ 65531 ∷ 65532 ∷ 65533 ∷ 65534 ∷ 65535 ∷ [] }

-- what a term stands for: a constant for itself, a variable for its entry
unfoldable pub value : Env → ℕ → ℕ
value env term = cond (is_constant term) term (get_or env.terms (term - first_variable) 0)

-- the literal with its bound variables replaced by their constants
unfoldable pub instantiate : Env → Literal → Literal
instantiate env l = record { head = l.head; first = value env l.first; second = value env l.second; third = value env l.third }

abbrev pub replace : ℕ → ℕ → ℕ → ℕ
replace variable constant term = cond (eqb term variable) constant term

-- all that stood for the variable stands for the constant
unfoldable pub bind : ℕ → ℕ → Env → Env
bind variable constant env = record { terms = map (replace variable constant) env.terms }

-- ---- The rule for environments: for each of eight variables, a constant or nothing

-- the entries from a variable on: each a constant or the variable itself
unfoldable pub are_entries : ℕ → List ℕ → Bool
are_entries variable [] = true
are_entries variable (term ∷ terms) = (is_constant term || eqb term variable) && are_entries (suc variable) terms

unfoldable pub is_env : Env → Bool
is_env env = eqb (length env.terms) 8 && are_entries first_variable env.terms
