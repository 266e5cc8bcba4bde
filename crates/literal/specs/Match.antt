-- Matching (document 01, "Literals and matching"; dMARS Appendix A, mguterms).
-- Departs from dMARS: one-sided, since the literal on the right is ground.
use Rattle.std.specs.Prelude.{ℕ, cond, eqb, Option, None, Some}
use Rattle.literal.specs.declared.Literal.{Literal}
use Rattle.literal.specs.declared.Env.{Env}
use Rattle.literal.specs.Literal.{is_constant}
use Rattle.literal.specs.Environment.{value, bind}

-- what a term stands for, against a constant: a constant must equal it, an unbound variable is bound to it
abbrev pub meet : ℕ → ℕ → Env → Option Env
meet now constant env = cond (is_constant now) (cond (eqb now constant) (Some env) None) (Some (bind now constant env))

unfoldable pub match_term : ℕ → ℕ → Env → Option Env
match_term term constant env = meet (value env term) constant env

abbrev pub and_then : {A B : Type 0} → Option A → (A → Option B) → Option B
and_then None next = None
and_then (Some a) next = next a

-- the terms, from left to right
abbrev pub match_terms : Literal → Literal → Env → Option Env
match_terms l known env =
    and_then (match_term l.first known.first env)
    (λ one. and_then (match_term l.second known.second one) (λ two. match_term l.third known.third two))

-- the environment after the match, or none: sign and predicate agree, then the terms match
unfoldable pub match_literal : Literal → Literal → Env → Option Env
match_literal l known env = cond (eqb l.head known.head) (match_terms l known env) None
