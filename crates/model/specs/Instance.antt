-- Plan instances (document 01, "State"; dMARS 6, PlanInst and Status; Appendix B, NextBranches and NextState).
-- Departs from dMARS: the branches tried are a count, and waiting is a status.
use Rattle.std.specs.Prelude.{ℕ, ◌+◌, ◌-◌, Bool, true, false, not, ◌&&◌, List, [], leb, eqb, get_or}
use Rattle.literal.specs.declared.Env.{Env}
use Rattle.library.specs.declared.Branch.{Branch}
use Rattle.library.specs.Plan.{Plan, Library, no_plan, no_branch}
use Rattle.model.specs.declared.Instance.{Instance}
use Rattle.model.specs.declared.Status.{Status}
use Rattle.model.specs.declared.Status.TheVariants.{Active, Waiting, Suspended}

-- ---- Status

-- it runs at its stack's turn
abbrev pub is_active : Status → Bool
is_active Active = true
is_active Waiting = false
is_active Suspended = false

-- it waits for an outcome
abbrev pub is_waiting : Status → Bool
is_waiting Active = false
is_waiting Waiting = true
is_waiting Suspended = false

-- it is suspended on a goal
abbrev pub is_suspended : Status → Bool
is_suspended Active = false
is_suspended Waiting = false
is_suspended Suspended = true

-- ---- The place in the plan

-- the plan of which it is an instance
unfoldable pub plan_of : Library → Instance → Plan
plan_of library x = get_or library.plans x.plan no_plan

-- the branches of the present state
unfoldable pub branches_of : Library → Instance → List Branch
branches_of library x = get_or (plan_of library x).states x.state []

-- the number of the branch that was tried last
abbrev pub last_tried : Instance → ℕ
last_tried x = x.tried - 1

-- while an instance waits or is suspended, its branch is the last one tried
unfoldable pub branch_of : Library → Instance → Branch
branch_of library x = get_or (branches_of library x) (last_tried x) no_branch

-- ---- Moving on

-- the instance with another environment, state, number of branches tried and status
abbrev pub moved : Instance → Env → ℕ → ℕ → Status → Instance
moved x env state tried status = record { id = x.id; plan = x.plan; env = env; state = state; tried = tried; status = status }

-- stepped: next state, none tried (dMARS 8.4, BranchSucceed)
abbrev pub step_to : ℕ → Env → Instance → Instance
step_to next env x = moved x env next 0 Active

-- one branch more is tried
abbrev pub try_next : Status → Instance → Instance
try_next status x = moved x x.env x.state (x.tried + 1) status

-- active again, where it was (dMARS 8.4, BranchFail)
abbrev pub awake : Instance → Instance
awake x = moved x x.env x.state x.tried Active

-- it steps past its branch: a poster past its goal, a waiting instance past its action
-- (document 01, "a poster below steps past its goal", "Outcome"; dMARS 8.5, AchievePlan; 8.4.1, BranchExtActionSucceed)
unfoldable pub past_branch : Library → Instance → Instance
past_branch library x = step_to (branch_of library x).next x.env x

-- ---- Kinds of branches: 0 add, 1 remove, 2 external action, 3 achieve, 4 query, 5 divide

abbrev pub action_kind : ℕ
action_kind = 2

abbrev pub achieve_kind : ℕ
achieve_kind = 3

abbrev pub divide_kind : ℕ
divide_kind = 5

abbrev pub is_action_kind : ℕ → Bool
is_action_kind kind = eqb kind action_kind

-- achieve or query: a divide is no goal
abbrev pub is_goal_kind : ℕ → Bool
is_goal_kind kind = leb achieve_kind kind && not (eqb kind divide_kind)
