-- Applicable plans and the choice of one
-- (document 01, "Cycle"; document 02, request 12; dMARS 8.2, relplans and applplans; 8.1, planselect).
-- Departs from dMARS: library order chooses, then the first solution or the least by the plan's mark (request 12); plans that failed for
-- an event are left out by number, where 8.3 (NewPlanInst) leaves out failed plan instances, for goal events alone.
use Rattle.std.specs.Prelude.{ℕ, suc, Bool, cond, not, ◌&&◌, List, [], ◌∷◌, eqb, Option, None, Some}
use Rattle.literal.specs.declared.Literal.{Literal}
use Rattle.literal.specs.declared.Env.{Env}
use Rattle.literal.specs.Environment.{empty_env}
use Rattle.literal.specs.Match.{match_literal}
use Rattle.library.specs.Plan.{Plan}
use Rattle.situation.specs.FailedSet.{has}
use Rattle.situation.specs.declared.Rule.{Rule}
use Rattle.situation.specs.Solutions.{on_match, solutions}
use Rattle.situation.specs.Search.{best_of}

-- a plan and the environment that its instance starts with
pub record Chosen : Type 0 where
  pub plan : ℕ
  pub env : Env

-- matching a trigger against an event's literal, from the empty environment
unfoldable pub triggered : Literal → Literal → Option Env
triggered trigger literal = match_literal trigger literal empty_env

-- not failed for the event, and of its kind
abbrev pub is_relevant : ℕ → ℕ → ℕ → Plan → Bool
is_relevant kind failed number plan = not (has failed number) && eqb plan.kind kind

-- the solutions of a plan's context for an event; none where it is not relevant or not triggered
unfoldable pub plan_solutions : List Literal → ℕ → Literal → ℕ → ℕ → Plan → List Env
plan_solutions beliefs kind literal failed number plan =
    cond (is_relevant kind failed number plan) (on_match (triggered plan.trigger literal) (solutions beliefs plan.context)) []

-- how a plan chooses among the solutions of its context
abbrev pub rule_of : Plan → Rule
rule_of plan = record { least = plan.least }

-- the environment that the plan's instance would start with, if it is applicable
unfoldable pub plan_start : List Literal → ℕ → Literal → ℕ → ℕ → Plan → Option Env
plan_start beliefs kind literal failed number plan = best_of (rule_of plan) (plan_solutions beliefs kind literal failed number plan)

-- an applicable plan stands before the others
abbrev pub or_next : ℕ → Option Env → List Chosen → List Chosen
or_next number None others = others
or_next number (Some env) others = record { plan = number; env = env } ∷ others

-- the applicable plans in library order, from a plan's number on
unfoldable pub applicable_from : List Literal → ℕ → Literal → ℕ → ℕ → List Plan → List Chosen
applicable_from beliefs kind literal failed number [] = []
applicable_from beliefs kind literal failed number (plan ∷ plans) =
    or_next number (plan_start beliefs kind literal failed number plan) (applicable_from beliefs kind literal failed (suc number) plans)

abbrev pub first_chosen : List Chosen → Option Chosen
first_chosen [] = None
first_chosen (chosen ∷ others) = Some chosen

-- the first applicable plan, with the solution that its rule keeps
unfoldable pub choose : List Literal → ℕ → Literal → ℕ → List Plan → Option Chosen
choose beliefs kind literal failed plans = first_chosen (applicable_from beliefs kind literal failed 0 plans)
