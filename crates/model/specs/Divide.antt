-- What a divide leaves alone (document 02, request 11): it changes no belief, and it is no goal.
use Rattle.std.specs.Prelude.{◌≡◌, Bool, not, ◌||◌, [], eqb}
use Rattle.library.specs.Plan.{Library}
use Rattle.model.specs.State.{AgentState, Reply}
use Rattle.model.specs.Instance.{is_active, branch_of, divide_kind}
use Rattle.model.specs.Live.{Job}

-- no change is reported, and beliefs and queue are as they were
pub record Untouched (s : AgentState) (r : Reply) : Type 0 where
  pub changes : r.result.changes ≡ []
  pub beliefs : r.state.beliefs ≡ s.beliefs
  pub queue : r.state.queue ≡ s.queue

-- an instance whose branch is a divide is active: it neither waits nor is suspended
abbrev pub is_active_at_divide : Library → Job → Bool
is_active_at_divide library job = not (eqb (branch_of library job.instance).kind divide_kind) || is_active job.instance.status
