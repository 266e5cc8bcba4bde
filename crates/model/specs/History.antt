-- What the results of a list of calls tell (document 01, "The three calls", the paragraph on demand 3).
use Rattle.std.specs.Prelude.{ℕ, zero, suc, Bool, cond, ◌&&◌, List, [], ◌∷◌, eqb}
use Rattle.literal.specs.declared.Literal.{Literal}
use Rattle.belief.specs.Beliefs.{replay}
use Rattle.model.specs.declared.Origin.{Origin}
use Rattle.model.specs.declared.Origin.TheVariants.{External, Goal}
use Rattle.model.specs.declared.Answer.{Answer}
use Rattle.model.specs.declared.Answer.TheVariants.{Taken, Idle, Dropped, Unmet, MadeExternal, MadeGoal, Stepped, Missed, Done, Posted, Succeeded, Failed, Refused}
use Rattle.model.specs.State.{Call, report, cycle, outcome}
use Rattle.model.specs.Live.{same_origin, Job}
use Rattle.model.specs.Run.{Entry}

-- ---- What is told

-- a branch of an instance
pub record Spot : Type 0 where
  pub id : ℕ
  pub state : ℕ
  pub branch : ℕ

-- a branch by its numbers
abbrev pub spot : ℕ → ℕ → ℕ → Spot
spot id state branch = record { id = id; state = state; branch = branch }

-- the goal posted there
abbrev pub goal_at : Spot → Origin
goal_at t = Goal t.id t.state t.branch

-- the same id, state and branch
abbrev pub same_spot : Spot → Spot → Bool
same_spot t u = same_origin (goal_at t) (goal_at u)

-- an instance that was made: its id, its plan, and the event for which it was made
pub record Making : Type 0 where
  pub id : ℕ
  pub plan : ℕ
  pub event : Origin

-- a making by its parts
abbrev pub making : ℕ → ℕ → Origin → Making
making id plan event = record { id = id; plan = plan; event = event }

-- a live instance, as it would have been made
abbrev pub making_of : Job → Making
making_of job = making job.instance.id job.instance.plan job.event

-- the same id, plan and event
abbrev pub same_making : Making → Making → Bool
same_making m n = eqb m.id n.id && (eqb m.plan n.plan && same_origin m.event n.event)

-- made M, succeeded E, failed F, taken T, posted G, the events closed, and the tries; each list newest first
pub record History : Type 0 where
  pub made : List Making
  pub succeeded : List ℕ
  pub failed : List ℕ
  pub taken : List ℕ
  pub posted : List Spot
  pub closed : List Origin
  pub tries : List Spot

-- a history by its lists
abbrev pub history_of : List Making → List ℕ → List ℕ → List ℕ → List Spot → List Origin → List Spot → History
history_of made succeeded failed taken posted closed tries =
    record { made = made; succeeded = succeeded; failed = failed; taken = taken; posted = posted; closed = closed; tries = tries }

-- before the first call
abbrev pub nothing_yet : History
nothing_yet = history_of [] [] [] [] [] [] []

-- ---- Looking back

-- the event for which an instance was made
unfoldable pub event_of : ℕ → List Making → Origin
event_of id [] = External 0
event_of id (m ∷ earlier) = cond (eqb id m.id) m.event (event_of id earlier)

-- the goal of an instance's last G
unfoldable pub last_goal : ℕ → List Spot → Origin
last_goal id [] = External 0
last_goal id (t ∷ earlier) = cond (eqb id t.id) (goal_at t) (last_goal id earlier)

-- ---- One result: what each letter adds

abbrev pub note_made : History → Making → History
note_made h m = history_of (m ∷ h.made) h.succeeded h.failed h.taken h.posted h.closed h.tries

abbrev pub note_succeeded : History → ℕ → History
note_succeeded h i = history_of h.made (i ∷ h.succeeded) h.failed h.taken h.posted h.closed h.tries

abbrev pub note_failed : History → ℕ → History
note_failed h i = history_of h.made h.succeeded (i ∷ h.failed) h.taken h.posted h.closed h.tries

abbrev pub note_taken : History → ℕ → History
note_taken h n = history_of h.made h.succeeded h.failed (n ∷ h.taken) h.posted h.closed h.tries

abbrev pub note_posted : History → Spot → History
note_posted h t = history_of h.made h.succeeded h.failed h.taken (t ∷ h.posted) h.closed h.tries

abbrev pub note_closed : History → Origin → History
note_closed h o = history_of h.made h.succeeded h.failed h.taken h.posted (o ∷ h.closed) h.tries

-- tries are those of cycles: an outcome is no second try
abbrev pub note_tried : History → Call → Spot → History
note_tried h (report kind literal) t = h
note_tried h cycle t = history_of h.made h.succeeded h.failed h.taken h.posted h.closed (t ∷ h.tries)
note_tried h (outcome id worked) t = h

-- an instance's event is its M's external number or, with g, the goal of the poster's last G before that M
unfoldable pub note : History → Call → Answer → History
note h c (Taken n) = note_taken h n
note h c Idle = h
note h c (Dropped n failures) = note_closed h (External n)
note h c (Unmet i s b failures) = note_closed h (Goal i s b)
note h c (MadeExternal i plan n) = note_made h (making i plan (External n))
note h c (MadeGoal i plan poster) = note_made h (making i plan (last_goal poster h.posted))
note h c (Stepped i s b next) = note_tried h c (spot i s b)
note h c (Missed i s b) = note_tried h c (spot i s b)
note h c (Done i s b l) = note_tried h c (spot i s b)
note h c (Posted i s b) = note_posted (note_tried h c (spot i s b)) (spot i s b)
note h c (Succeeded i) = note_succeeded (note_closed h (event_of i h.made)) i
note h c (Failed i) = note_failed h i
note h c (Refused n) = h

-- ---- All results

-- the history after a list of entries
unfoldable pub history : History → List Entry → History
history h [] = h
history h (e ∷ entries) = history (note h e.call e.result.answer) entries

-- the beliefs with the reported changes applied, result by result
unfoldable pub replay_all : List Literal → List Entry → List Literal
replay_all beliefs [] = beliefs
replay_all beliefs (e ∷ entries) = replay_all (replay beliefs e.result.changes) entries

-- n, n - 1, .. 1
abbrev pub down_from : ℕ → List ℕ
down_from zero = []
down_from (suc n) = suc n ∷ down_from n
