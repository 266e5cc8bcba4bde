-- The search as a fold over the list of solutions (document 01, "Situations"; request 12; dMARS 8.1, substitutionselect).
-- Departs from dMARS: the choice is made solution by solution, in order, and ends where no later one can change it.
use Rattle.std.specs.Prelude.{ℕ, zero, suc, Bool, false, cond, ltb, eqb, get_or, Option, None, Some}
use mathlib.Core.List.{List, foldl}
use Rattle.literal.specs.declared.Env.{Env}
use Rattle.literal.specs.Literal.{first_variable, is_constant}
use Rattle.situation.specs.declared.Rule.{Rule}

-- ---- Which solution is kept (request 12)

-- a value as it is ranked: unbound counts above all constants
abbrev pub ranked : ℕ → ℕ
ranked term = cond (is_constant term) term first_variable

-- a solution's rank: by v + 1 the value of Vv; by 0 all are equal
unfoldable pub rank_of : ℕ → Env → ℕ
rank_of zero env = 0
rank_of (suc v) env = ranked (get_or env.terms v 0)

-- a solution ranks before another: its value is less
unfoldable pub is_before : Rule → Env → Env → Bool
is_before rule env best = ltb (rank_of rule.least env) (rank_of rule.least best)

-- what is kept after one more solution: the lesser, of equal ones the earlier
unfoldable pub consider : Rule → Option Env → Env → Option Env
consider rule None env = Some env
consider rule (Some best) env = cond (is_before rule env best) (Some env) (Some best)

-- no later solution changes what is kept
unfoldable pub is_settled : Rule → Option Env → Bool
is_settled rule None = false
is_settled rule (Some best) = eqb rule.least 0

-- the rule that keeps the first solution
abbrev pub first_rule : Rule
first_rule = record { least = 0 }

-- what is kept of a list of solutions
unfoldable pub best_of : Rule → List Env → Option Env
best_of rule envs = foldl (consider rule) None envs
