-- Plans and libraries as values (document 01, "Library"; dMARS 5, Trigger, Body, Branch and Plan; 8.1, dMARSAgent.library).
-- Departs from dMARS: kinds are numbers, lists have an order, a body is its states by number.
use Rattle.std.specs.Prelude.{ℕ, List, []}
use Rattle.literal.specs.declared.Literal.{Literal}
use Rattle.library.specs.declared.Action.{Action}
use Rattle.library.specs.declared.Branch.{Branch}

-- alternatives, each a list of literals (dMARS 4.2, SitForm)
abbrev pub Situation : Type 0
Situation = List (List Literal)

pub record Plan : Type 0 where
  -- 0 belief added, 1 belief removed, 2 told, 3 achieve, 4 query
  pub kind : ℕ
  -- v + 1 where the solution with the least value of the variable Vv is used, 0 where the first is
  pub least : ℕ
  pub trigger : Literal
  pub context : Situation
  pub maintenance : Situation
  pub success : List Action
  pub failure : List Action
  -- each state's branches, by the state's number
  pub states : List (List Branch)

pub record Library : Type 0 where
  pub beliefs : List Literal
  pub plans : List Plan

-- what stands where nothing is

abbrev pub no_literal : Literal
no_literal = record { head = 0; first = 0; second = 0; third = 0 }

abbrev pub no_action : Action
no_action = record { kind = 0; literal = no_literal }

abbrev pub no_branch : Branch
no_branch = record { kind = 0; literal = no_literal; next = 0 }

abbrev pub no_plan : Plan
no_plan = record { kind = 0; least = 0; trigger = no_literal; context = []; maintenance = []; success = []; failure = []; states = [] }
