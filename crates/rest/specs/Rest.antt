-- It comes to rest (document 02, request 6; document 01 alone, dMARS has no such bound): the calls that count, and the bound on them.
use Rattle.std.specs.Prelude.{ℕ, zero, suc, ◌+◌, ◌-◌, ◌*◌, ◌≤◌, ◌≡◌, Bool, true, false, not, ◌||◌, List, length}
use Rattle.lists.specs.Counts.{count}
use Rattle.library.specs.Plan.{Library}
use Rattle.model.specs.declared.Answer.{Answer}
use Rattle.model.specs.State.{AgentState, Call, report, cycle, outcome}
use Rattle.model.specs.Live.{is_external}
use Rattle.model.specs.Calls.{is_refusal, is_idle}
use Rattle.model.specs.Run.{Entry}

-- ---- What counts

abbrev pub is_report : Call → Bool
is_report (report kind literal) = true
is_report cycle = false
is_report (outcome id worked) = false

abbrev pub is_cycle : Call → Bool
is_cycle (report kind literal) = false
is_cycle cycle = true
is_cycle (outcome id worked) = false

-- an accepted cycle that does not answer idle, or an accepted outcome
unfoldable pub is_work : Call → Answer → Bool
is_work (report kind literal) a = false
is_work cycle a = not (is_refusal a || is_idle a)
is_work (outcome id worked) a = not (is_refusal a)

-- how many of the entries count
abbrev pub work_in : List Entry → ℕ
work_in entries = count (λ e. is_work e.call e.result.answer) entries

-- ---- The bound

-- by how many heights there are from h up to 8
unfoldable pub work_over : ℕ → ℕ → ℕ
work_over plans zero = 0
work_over plans (suc heights) = 1 + plans * (2 + 15 * (2 + work_over plans heights))

-- W(h), with P plans
unfoldable pub W : ℕ → ℕ → ℕ
W plans h = work_over plans (9 - h)

-- as on the page: W(9) = 0, and W(h) = 1 + P × (2 + 15 × (2 + W(h + 1))) for h from 8 down to 1
pub record AsOnThePage (W : ℕ → ℕ → ℕ) : Type 0 where
  pub ninth : (plans : ℕ) → W plans 9 ≡ 0
  pub below : (plans h : ℕ) → 1 ≤ h → h ≤ 8 → W plans h ≡ 1 + plans * (2 + 15 * (2 + W plans (h + 1)))

-- the queued external events of a state times W(1)
abbrev pub bound_of : Library → AgentState → ℕ
bound_of library s = count is_external s.queue * W (length library.plans) 1

-- what counts among the entries numbers at most the bound of the state before them
abbrev pub RestsWithin : Library → AgentState → List Entry → Type 0
RestsWithin library s entries = work_in entries ≤ bound_of library s

-- nothing among the entries counts: every cycle is idle or refused, and every outcome is refused
abbrev pub AtRest : List Entry → Type 0
AtRest entries = work_in entries ≡ 0
