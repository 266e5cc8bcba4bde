-- Where the parts of a library and of a plan stand (document 01, "Library"), and the library as a value.
-- `..Off bytes off` is the offset of a part of the plan at off, `..End` the offset past it.
use Rattle.std.specs.Prelude.{ℕ, ◌+◌, ◌*◌, ◌/◌, ◌%◌, List}
use Rattle.literal.specs.declared.Literal.{Literal}
use Rattle.library.specs.declared.Action.{Action}
use Rattle.library.specs.declared.Branch.{Branch}
use Rattle.library.specs.declared.plan.PlanRef.{PlanRef}
use Rattle.library.specs.Plan.{Situation, Plan, Library}
use Rattle.library.specs.Bytes.{u16_at, literal_at, action_at, branch_at, items, rows, rows_end}

-- ---- The parts of a plan

-- a situation: its number of alternatives, each its number of literals and them
unfoldable pub situation_at : List ℕ → ℕ → Situation
situation_at bytes at = rows (literal_at bytes) bytes 8 (u16_at bytes at) (at + 2)

unfoldable pub situation_end : List ℕ → ℕ → ℕ
situation_end bytes at = rows_end bytes 8 (u16_at bytes at) (at + 2)

-- a list of actions: its number and them
unfoldable pub actions_at : List ℕ → ℕ → List Action
actions_at bytes at = items (action_at bytes) 10 (u16_at bytes at) (at + 2)

unfoldable pub actions_end : List ℕ → ℕ → ℕ
actions_end bytes at = at + 2 + 10 * u16_at bytes at

-- a body: its number of states, each its number of branches and them
unfoldable pub states_at : List ℕ → ℕ → List (List Branch)
states_at bytes at = rows (branch_at bytes) bytes 12 (u16_at bytes at) (at + 2)

unfoldable pub states_end : List ℕ → ℕ → ℕ
states_end bytes at = rows_end bytes 12 (u16_at bytes at) (at + 2)

-- ---- A plan: trigger kind and literal, context, maintenance, success list, failure list, states

abbrev pub context_off : ℕ → ℕ
context_off off = off + 10

unfoldable pub maintenance_off : List ℕ → ℕ → ℕ
maintenance_off bytes off = situation_end bytes (context_off off)

unfoldable pub success_off : List ℕ → ℕ → ℕ
success_off bytes off = situation_end bytes (maintenance_off bytes off)

unfoldable pub failure_off : List ℕ → ℕ → ℕ
failure_off bytes off = actions_end bytes (success_off bytes off)

unfoldable pub states_off : List ℕ → ℕ → ℕ
states_off bytes off = actions_end bytes (failure_off bytes off)

unfoldable pub plan_end : List ℕ → ℕ → ℕ
plan_end bytes off = states_end bytes (states_off bytes off)

-- the kind field: the kind, with 16 × (v + 1) added where the least value of Vv chooses
abbrev pub kind_in : ℕ → ℕ
kind_in field = field % 16

abbrev pub least_in : ℕ → ℕ
least_in field = field / 16

unfoldable pub plan_at : List ℕ → ℕ → Plan
plan_at bytes off =
    record {
      kind = kind_in (u16_at bytes off);
      least = least_in (u16_at bytes off);
      trigger = literal_at bytes (off + 2);
      context = situation_at bytes (context_off off);
      maintenance = situation_at bytes (maintenance_off bytes off);
      success = actions_at bytes (success_off bytes off);
      failure = actions_at bytes (failure_off bytes off);
      states = states_at bytes (states_off bytes off);
    }

-- ---- A library: numbers of plans and beliefs, an entry for each plan, the beliefs, the plans

unfoldable pub plan_count : List ℕ → ℕ
plan_count bytes = u16_at bytes 0

unfoldable pub belief_count : List ℕ → ℕ
belief_count bytes = u16_at bytes 2

abbrev pub beliefs_off : List ℕ → ℕ
beliefs_off bytes = 4 + 4 * plan_count bytes

unfoldable pub plans_off : List ℕ → ℕ
plans_off bytes = beliefs_off bytes + 8 * belief_count bytes

-- the contents' entry of a plan: where it stands, and how long it is
abbrev pub entry_off : List ℕ → ℕ → ℕ
entry_off bytes plan = u16_at bytes (4 + 4 * plan)

abbrev pub entry_length : List ℕ → ℕ → ℕ
entry_length bytes plan = u16_at bytes (4 + 4 * plan + 2)

-- the plan with a number, where its entry says
abbrev pub plan_of : List ℕ → ℕ → Plan
plan_of bytes plan = plan_at bytes (entry_off bytes plan)

-- the same of a reference to it
abbrev pub described : PlanRef → Plan
described plan = plan_of plan.library.now plan.number

unfoldable pub beliefs_of : List ℕ → List Literal
beliefs_of bytes = items (literal_at bytes) 8 (belief_count bytes) (beliefs_off bytes)

unfoldable pub library_of : List ℕ → Library
library_of bytes = record {
  beliefs = beliefs_of bytes;
  plans = items (λ plan. plan_at bytes (entry_off bytes plan)) 1 (plan_count bytes) 0;
}
