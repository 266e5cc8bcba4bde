-- The calls on any state, the loaded state, refusals, and the idle answer
-- (document 01, "The three calls", "Who may cause which refusal"; dMARS 8.1, InitdMARSAgentState).
use Rattle.std.specs.Prelude.{ℕ, Bool, true, false, [], ◌∷◌, eqb}
use Rattle.std.specs.List.{list_any}
use Rattle.library.specs.Plan.{Library}
use Rattle.model.specs.declared.Answer.{Answer}
use Rattle.model.specs.declared.Answer.TheVariants.{Taken, Idle, Dropped, Unmet, MadeExternal, MadeGoal, Stepped, Missed, Done, Posted, Succeeded, Failed, Refused}
use Rattle.model.specs.State.{AgentState, Call, report, cycle, outcome, Reply, refuse}
use Rattle.model.specs.Report.{reported}
use Rattle.model.specs.Cycle.{cycled}
use Rattle.model.specs.Outcome.{told}
use Rattle.model.specs.WellFormed.{is_well_formed}

-- a call on a well-formed state
unfoldable pub act : Library → AgentState → Call → Reply
act library s (report kind literal) = reported s kind literal
act library s cycle = cycled library s
act library s (outcome id worked) = told library s id worked

-- by whether the state is well formed: 10 is tested first
unfoldable pub call_by : Bool → Library → AgentState → Call → Reply
call_by false library s c = refuse 10 s
call_by true library s c = act library s c

-- a call on any state
unfoldable pub call : Library → AgentState → Call → Reply
call library s c = call_by (is_well_formed library s) library s c

-- the state of a newly loaded agent: the initial beliefs alone
abbrev pub loaded : Library → AgentState
loaded library = record { beliefs = library.beliefs; queue = []; stacks = []; taken = 0; made = 0 }

-- ---- Refusals

-- the number of a refusal, 0 for every other answer
unfoldable pub refusal_in : Answer → ℕ
refusal_in (Taken n) = 0
refusal_in Idle = 0
refusal_in (Dropped n failures) = 0
refusal_in (Unmet i s b failures) = 0
refusal_in (MadeExternal i plan n) = 0
refusal_in (MadeGoal i plan poster) = 0
refusal_in (Stepped i s b next) = 0
refusal_in (Missed i s b) = 0
refusal_in (Done i s b literal) = 0
refusal_in (Posted i s b) = 0
refusal_in (Succeeded i) = 0
refusal_in (Failed i) = 0
refusal_in (Refused number) = number

-- the answer is a refusal
abbrev pub is_refusal : Answer → Bool
is_refusal (Taken n) = false
is_refusal Idle = false
is_refusal (Dropped n failures) = false
is_refusal (Unmet i s b failures) = false
is_refusal (MadeExternal i plan n) = false
is_refusal (MadeGoal i plan poster) = false
is_refusal (Stepped i s b next) = false
is_refusal (Missed i s b) = false
is_refusal (Done i s b literal) = false
is_refusal (Posted i s b) = false
is_refusal (Succeeded i) = false
is_refusal (Failed i) = false
is_refusal (Refused number) = true

-- the answer is idle
abbrev pub is_idle : Answer → Bool
is_idle (Taken n) = false
is_idle Idle = true
is_idle (Dropped n failures) = false
is_idle (Unmet i s b failures) = false
is_idle (MadeExternal i plan n) = false
is_idle (MadeGoal i plan poster) = false
is_idle (Stepped i s b next) = false
is_idle (Missed i s b) = false
is_idle (Done i s b literal) = false
is_idle (Posted i s b) = false
is_idle (Succeeded i) = false
is_idle (Failed i) = false
is_idle (Refused number) = false

-- what a call on a well-formed state can be refused with, and 0
unfoldable pub is_refusal_for : Call → ℕ → Bool
is_refusal_for (report kind literal) number = list_any (eqb number) (0 ∷ 5 ∷ 9 ∷ 7 ∷ 6 ∷ [])
is_refusal_for cycle number = list_any (eqb number) (0 ∷ 9 ∷ [])
is_refusal_for (outcome id worked) number = list_any (eqb number) (0 ∷ 8 ∷ [])
