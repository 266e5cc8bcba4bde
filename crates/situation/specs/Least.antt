-- The choice, held against every solution in the list (request 12), and the choice of libraries without the mark (document 01, "Cycle").
use Rattle.std.specs.Prelude.{ℕ, suc, ◌<◌, ◌≡◌, Bool, true, not, List, [], ◌∷◌, ◌++◌, eqb, length, get_or, Option, None, Some}
use Rattle.std.specs.List.{list_all}
use Rattle.literal.specs.declared.Literal.{Literal}
use Rattle.literal.specs.declared.Env.{Env}
use Rattle.library.specs.Plan.{Plan, no_plan}
use Rattle.situation.specs.declared.Rule.{Rule}
use Rattle.situation.specs.Search.{is_before}
use Rattle.situation.specs.Applicable.{Chosen, plan_solutions, rule_of}

-- ---- What is kept of a list of solutions

-- the solution stands in the list: it is less than each earlier one, and no later one is less
pub record Least (rule : Rule) (envs : List Env) (best : Env) : Type 0 where
  pub earlier : List Env
  pub later : List Env
  pub place : envs ≡ earlier ++ (best ∷ later)
  pub less_than_earlier : list_all (is_before rule best) earlier ≡ true
  pub no_later_less : list_all (λ env. not (is_before rule env best)) later ≡ true

-- the least is kept, and none only where there is no solution
abbrev pub Kept : Rule → List Env → Option Env → Type 0
Kept rule envs None = envs ≡ []
Kept rule envs (Some best) = Least rule envs best

-- ---- What is chosen for an event

module _ (beliefs : List Literal) (kind : ℕ) (literal : Literal) (failed : ℕ) (plans : List Plan) where
  -- the context's solutions of the plan with a number
  abbrev pub solutions_of : ℕ → List Env
  solutions_of number = plan_solutions beliefs kind literal failed number (get_or plans number no_plan)

  -- a plan of the library with the least of its solutions, where no plan before it has one
  pub record ChosenLeast (chosen : Chosen) : Type 0 where
    pub exists : chosen.plan < length plans
    pub least : Least (rule_of (get_or plans chosen.plan no_plan)) (solutions_of chosen.plan) chosen.env
    pub none_before : (number : ℕ) → number < chosen.plan → solutions_of number ≡ []

  -- none is chosen only where no plan has a solution
  abbrev pub ChoosesLeast : Option Chosen → Type 0
  ChoosesLeast None = (number : ℕ) → number < length plans → solutions_of number ≡ []
  ChoosesLeast (Some chosen) = ChosenLeast chosen

-- ---- Without the mark

abbrev pub is_unmarked : Plan → Bool
is_unmarked plan = eqb plan.least 0

-- the plan with its first solution, otherwise what the others give
abbrev pub with_first : ℕ → List Env → Option Chosen → Option Chosen
with_first number [] others = others
with_first number (env ∷ envs) others = Some (record { plan = number; env = env })

-- the first applicable plan with its first solution, from a plan's number on
unfoldable pub first_applicable : List Literal → ℕ → Literal → ℕ → ℕ → List Plan → Option Chosen
first_applicable beliefs kind literal failed number [] = None
first_applicable beliefs kind literal failed number (plan ∷ plans) =
    with_first number (plan_solutions beliefs kind literal failed number plan)
    (first_applicable beliefs kind literal failed (suc number) plans)
