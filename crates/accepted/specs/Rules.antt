-- The rules for a plan and a library, as tests of their values (document 01, "Library"; dMARS 5, Plan and Body).
-- Departs from dMARS: every list has a greatest length, and the states form a tree by their numbers.
use Rattle.std.specs.Prelude.{ℕ, ◌+◌, ◌-◌, Bool, true, cond, not, ◌&&◌, List, [], ◌∷◌, length, ltb, leb, eqb}
use Rattle.std.specs.List.{range_with_len, list_all}
use Rattle.lists.specs.Search.{distinct}
use Rattle.literal.specs.declared.Literal.{Literal}
use Rattle.literal.specs.Literal.{negative, is_ground, same, opposed}
use Rattle.literal.specs.Divide.{quotient_in, remainder_in, variable_pairs}
use Rattle.library.specs.declared.Action.{Action}
use Rattle.library.specs.declared.Branch.{Branch}
use Rattle.library.specs.Plan.{Situation, Plan, Library}

abbrev pub at_most : {A : Type 0} → ℕ → List A → Bool
at_most most xs = leb (length xs) most

-- n numbers from the first one on
abbrev pub numbers : ℕ → ℕ → List ℕ
numbers n first = range_with_len first n

-- ---- Situations and actions

-- 0..4 alternatives, each of 0..4 literals
unfoldable pub situation_ok : Situation → Bool
situation_ok situation = at_most 4 situation && list_all (at_most 4) situation

-- kind 0 or 1
abbrev pub action_ok : Action → Bool
action_ok action = leb action.kind 1

unfoldable pub actions_ok : List Action → Bool
actions_ok actions = at_most 4 actions && list_all action_ok actions

-- ---- States

-- a divide's predicate field is q + 8 × r for two different variable numbers, and its third term is 0 (document 02, request 11)
abbrev pub division_ok : Literal → Bool
division_ok l = ltb l.head variable_pairs && (not (eqb (quotient_in l.head) (remainder_in l.head)) && eqb l.third 0)

-- the literal of an external action, which has kind 2, is positive; that of a divide, which has kind 5, is as above
abbrev pub literal_ok : ℕ → Literal → Bool
literal_ok kind l = cond (eqb kind 2) (ltb l.head negative) (cond (eqb kind 5) (division_ok l) true)

-- a branch of a state, of so many states: kind 0..5, its literal, and a next state above this one that exists
unfoldable pub branch_ok : ℕ → ℕ → Branch → Bool
branch_ok count state branch =
    leb branch.kind 5 && (literal_ok branch.kind branch.literal && (ltb state branch.next && ltb branch.next count))

unfoldable pub state_ok : ℕ → ℕ → List Branch → Bool
state_ok count state branches = at_most 4 branches && list_all (branch_ok count state) branches

-- the states from a number on
unfoldable pub states_from : ℕ → ℕ → List (List Branch) → Bool
states_from count state [] = true
states_from count state (branches ∷ rest) = state_ok count state branches && states_from count (state + 1) rest

-- how many of the branches lead to a state
unfoldable pub entries_in : ℕ → List Branch → ℕ
entries_in state [] = 0
entries_in state (branch ∷ rest) = cond (eqb branch.next state) 1 0 + entries_in state rest

unfoldable pub entries : ℕ → List (List Branch) → ℕ
entries state [] = 0
entries state (branches ∷ rest) = entries_in state branches + entries state rest

abbrev pub entered_once : List (List Branch) → ℕ → Bool
entered_once states state = eqb (entries state states) 1

-- each state but 0 is the next state of exactly one branch; that this branch is of a lower-numbered state is branch_ok's part
unfoldable pub is_tree : List (List Branch) → Bool
is_tree states = list_all (entered_once states) (numbers (length states - 1) 1)

-- 1..16 states
unfoldable pub states_ok : List (List Branch) → Bool
states_ok states = leb 1 (length states) && (at_most 16 states && (states_from (length states) 0 states && is_tree states))

-- ---- Plans

-- a kind 0..4, and the first solution (0) or the least value of one of eight variables (1..8)
abbrev pub trigger_ok : ℕ → ℕ → Bool
trigger_ok kind least = leb kind 4 && leb least 8

-- the parts behind the trigger
abbrev pub parts_ok : Plan → Bool
parts_ok plan =
    situation_ok plan.context
    && (situation_ok plan.maintenance && (actions_ok plan.success && (actions_ok plan.failure && states_ok plan.states)))

unfoldable pub plan_ok : Plan → Bool
plan_ok plan = trigger_ok plan.kind plan.least && parts_ok plan

-- ---- Libraries

abbrev pub most_plans : ℕ
most_plans = 32

abbrev pub most_beliefs : ℕ
most_beliefs = 64

-- the initial beliefs are ground and all different, with no opposites
unfoldable pub beliefs_ok : List Literal → Bool
beliefs_ok beliefs = list_all is_ground beliefs && (distinct same beliefs && distinct opposed beliefs)

-- what every accepted library is, as a value
unfoldable pub library_ok : Library → Bool
library_ok library =
    at_most most_plans library.plans
    && (at_most most_beliefs library.beliefs && (beliefs_ok library.beliefs && list_all plan_ok library.plans))
