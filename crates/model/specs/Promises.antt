-- What every call on a well-formed state keeps to
-- (document 00, demand 1; document 01, "The three calls" and "Who may cause which refusal").
use Rattle.std.specs.Prelude.{◌≤◌, ◌≡◌, Bool, true, not, ◌||◌, eqb, length}
use Rattle.belief.specs.Beliefs.{replay}
use Rattle.library.specs.Plan.{Library}
use Rattle.model.specs.State.{most_changes, AgentState, Call, Reply}
use Rattle.model.specs.Changes.{are_effective}
use Rattle.model.specs.WellFormed.{is_well_formed}
use Rattle.model.specs.Calls.{refusal_in, is_refusal, is_idle, is_refusal_for}
use Rattle.model.specs.Run.{Entry}

pub record Promises (library : Library) (s : AgentState) (c : Call) (r : Reply) : Type 0 where
  -- the next state is well formed
  pub formed : is_well_formed library r.state ≡ true
  -- the changes reported, applied in order, make the next table; each of them took effect; there is room for them
  pub table : r.state.beliefs ≡ replay s.beliefs r.result.changes
  pub effective : are_effective s.beliefs r.result.changes ≡ true
  pub few : length r.result.changes ≤ most_changes
  -- it is refused, if at all, with a number of its own
  pub refusal : is_refusal_for c (refusal_in r.result.answer) ≡ true

-- a refused call and an idle cycle leave the state as it was
abbrev pub Unchanged : AgentState → Reply → Type 0
Unchanged s r = (is_refusal r.result.answer || is_idle r.result.answer) ≡ true → r.state ≡ s

-- the call was not refused with 10
abbrev pub is_not_ten : Entry → Bool
is_not_ten e = not (eqb (refusal_in e.result.answer) 10)
