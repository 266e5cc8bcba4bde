-- Solutions of a situation (document 01, "Situations"; dMARS 8.2, dMarsLogCons; 8.1, substitutionselect).
-- Departs from dMARS: a list in the order of the beliefs, with repeats, not a set.
use Rattle.std.specs.Prelude.{Bool, List, [], ◌∷◌, ◌++◌, Option, None, Some}
use Rattle.std.specs.Option.{is_some}
use Rattle.literal.specs.declared.Literal.{Literal}
use Rattle.literal.specs.declared.Env.{Env}
use Rattle.literal.specs.Match.{match_literal}
use Rattle.library.specs.Plan.{Situation}

-- ---- One alternative

-- what is to be solved next, from the environment of a match
abbrev pub on_match : Option Env → (Env → List Env) → List Env
on_match None next = []
on_match (Some env) next = next env

-- for each belief in order that the literal matches, what comes next from the environment so extended
unfoldable pub over_beliefs : Literal → Env → (Env → List Env) → List Literal → List Env
over_beliefs l env next [] = []
over_beliefs l env next (belief ∷ beliefs) = on_match (match_literal l belief env) next ++ over_beliefs l env next beliefs

-- the solutions of an alternative
unfoldable pub solve : List Literal → List Literal → Env → List Env
solve beliefs [] env = env ∷ []
solve beliefs (l ∷ rest) env = over_beliefs l env (solve beliefs rest) beliefs

-- ---- A situation

-- those of its alternatives, joined in order
unfoldable pub solutions : List Literal → Situation → Env → List Env
solutions beliefs [] env = []
solutions beliefs (alternative ∷ rest) env = solve beliefs alternative env ++ solutions beliefs rest env

-- the first of them
unfoldable pub first_of : List Env → Option Env
first_of [] = None
first_of (env ∷ envs) = Some env

-- the situation holds
abbrev pub holds_from : List Literal → Situation → Env → Bool
holds_from beliefs situation env = is_some (first_of (solutions beliefs situation env))

-- the first belief that a literal matches binds (document 01, "Cycle", Query)
unfoldable pub ask : List Literal → Literal → Env → Option Env
ask beliefs l env = first_of (solve beliefs (l ∷ []) env)
