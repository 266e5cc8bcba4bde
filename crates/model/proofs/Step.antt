-- One relation with a constructor for each change that a call can make, what is changed put first.
use Prim.Native.Nat.{ℕ, ◌+◌, ◌<◌}
use mathlib.Core.Path.{◌≡◌}
use mathlib.Core.List.{List, [], ◌∷◌}
use mathlib.Core.Bool.{true, false}
use lib.Dec.{leb}
use lib.ListN.{length}
use Rattle.lists.specs.Counts.{count}
use Rattle.literal.specs.declared.Literal.{Literal}
use Rattle.literal.specs.declared.Env.{Env}
use Rattle.literal.specs.Literal.{is_ground}
use Rattle.literal.specs.Environment.{is_env, instantiate}
use Rattle.library.specs.declared.Branch.{Branch}
use Rattle.library.specs.Plan.{Library}
use Rattle.situation.specs.FailedSet.{size_of}
use Rattle.situation.specs.Applicable.{Chosen}
use Rattle.model.specs.declared.Event.{Event}
use Rattle.model.specs.declared.Instance.{Instance}
use Rattle.model.specs.declared.Origin.TheVariants.{External, Goal}
use Rattle.model.specs.declared.Status.TheVariants.{Active, Waiting, Suspended}
use Rattle.model.specs.declared.Answer.{Answer}
use Rattle.model.specs.declared.Answer.TheVariants.{Taken, Idle, Dropped, Unmet, MadeExternal, MadeGoal, Stepped, Missed, Done, Posted, Succeeded, Failed, Refused}
use Rattle.model.specs.State.{most_number, most_stacks, most_external, Intention, Call, report, cycle, outcome}
use Rattle.model.specs.Instance.{is_waiting, is_suspended, last_tried, step_to, try_next, awake, past_branch, is_action_kind}
use Rattle.model.specs.Live.{is_external, goal_of, live, serves}
use Rattle.model.specs.Report.{told_kind, new_event}
use Rattle.model.specs.Event.{new_instance, opened}
use Rattle.model.specs.Try.{new_goal}
use Rattle.model.specs.End.{marked}
use Rattle.model.specs.Turn.{height_of}
use Rattle.model.specs.Calls.{is_refusal_for}
use Rattle.situation.proofs.ChosenLaws.{Apt}
use Rattle.model.proofs.InstanceLaws.{Branching}
use Rattle.model.proofs.TryLaws.{Posting}
use Rattle.model.proofs.FormedLaws.{stack}

-- with n taken and m made: a call, queue and stacks, the answer, then how many are taken and made, queue and stacks
pub data Step (library : Library) (n m : ℕ) : Call → List Event → List Intention → Answer → ℕ → ℕ → List Event → List Intention → Type 0 where
  idle : {q : List Event} {ks : List Intention} → Step library n m cycle q ks Idle n m q ks
  refused : {c : Call} {q : List Event} {ks : List Intention} (number : ℕ) → is_refusal_for c number ≡ true
      → Step library n m c q ks (Refused number) n m q ks
  -- report
  taken : {q : List Event} {ks : List Intention} (kind : ℕ) (l : Literal) → leb kind told_kind ≡ true → is_ground l ≡ true → n < most_number
      → count is_external q < most_external
      → Step library n m (report kind l) q ks (Taken (n + 1)) (n + 1) m (new_event (n + 1) kind l ∷ q) ks
  -- an event is taken up
  dropped : {e : Event} {q : List Event} {ks : List Intention} (k : ℕ) → e.origin ≡ External k → count (serves e.origin) (live ks) ≡ 0
      → Step library n m cycle (e ∷ q) ks (Dropped k (size_of e.failed)) n m q ks
  unmet : {e : Event} {q : List Event} {k : ℕ} {t : Instance} {below : List Instance} {ks : List Intention} (i s b : ℕ) → e.origin ≡ Goal i s b
      → e.origin ≡ goal_of t
      → is_suspended t.status ≡ true → count (serves e.origin) (live (stack k t below ∷ ks)) ≡ 0
      → Step library n m cycle (e ∷ q) (stack k t below ∷ ks) (Unmet i s b (size_of e.failed)) n m q (stack k (awake t) below ∷ ks)
  made_external : {e : Event} {q : List Event} {ks : List Intention} (chosen : Chosen) (k : ℕ) → e.origin ≡ External k
      → count (serves e.origin) (live ks) ≡ 0
      → Apt e.kind e.failed library.plans chosen → m < most_number → length ks < most_stacks
      → Step library n m cycle (e ∷ q) ks (MadeExternal (m + 1) chosen.plan k) n (m + 1) (e ∷ q) (opened k (new_instance m chosen) ∷ ks)
  made_goal : {e : Event} {q : List Event} {k : ℕ} {t : Instance} {below : List Instance} {ks : List Intention} (chosen : Chosen) (i : ℕ)
      → i ≡ t.id → e.origin ≡ goal_of t
      → is_suspended t.status ≡ true → count (serves e.origin) (live (stack k t below ∷ ks)) ≡ 0
      → Apt e.kind e.failed library.plans chosen → m < most_number
      → Step library n m cycle (e ∷ q) (stack k t below ∷ ks) (MadeGoal (m + 1) chosen.plan i) n (m + 1) (e ∷ q) (stack k (new_instance m chosen) (t ∷ below) ∷ ks)
  -- the top of a stack tries a branch
  missed : {q : List Event} {k : ℕ} {t : Instance} {below : List Instance} {ks : List Intention} (b : Branch) → is_suspended t.status ≡ false
      → Branching library t b
      → Step library n m cycle q (stack k t below ∷ ks) (Missed t.id t.state t.tried) n m q (stack k (try_next Active t) below ∷ ks)
  stepped : {q : List Event} {k : ℕ} {t : Instance} {below : List Instance} {ks : List Intention} (b : Branch) (env : Env)
      → is_suspended t.status ≡ false → Branching library t b
      → is_env env ≡ true
      → Step library n m cycle q (stack k t below ∷ ks) (Stepped t.id t.state t.tried b.next) n m q (stack k (step_to b.next env t) below ∷ ks)
  done : {q : List Event} {k : ℕ} {t : Instance} {below : List Instance} {ks : List Intention} (b : Branch) (l : Literal)
      → is_suspended t.status ≡ false → Branching library t b
      → is_action_kind b.kind ≡ true
      → Step library n m cycle q (stack k t below ∷ ks) (Done t.id t.state t.tried l) n m q (stack k (try_next Waiting t) below ∷ ks)
  posted : {q : List Event} {k : ℕ} {t : Instance} {below : List Instance} {ks : List Intention} (b : Branch) (g : Literal)
      → is_suspended t.status ≡ false → Branching library t b
      → Posting (height_of (stack k t below)) b.kind (instantiate t.env b.literal) g
      → Step library n m cycle q (stack k t below ∷ ks) (Posted t.id t.state t.tried) n m (new_goal t b.kind g ∷ q) (stack k (try_next Suspended t) below ∷ ks)
  -- the top of a stack ends, as a bottom or above a poster
  failed_bottom : {e : Event} {q : List Event} {k : ℕ} {t : Instance} {ks : List Intention} → is_suspended t.status ≡ false → External k ≡ e.origin
      → Step library n m cycle (e ∷ q) (stack k t [] ∷ ks) (Failed t.id) n m (marked t.plan e ∷ q) ks
  failed_above : {e : Event} {q : List Event} {k : ℕ} {t c : Instance} {below : List Instance} {ks : List Intention}
      → is_suspended t.status ≡ false → goal_of c ≡ e.origin
      → Step library n m cycle (e ∷ q) (stack k t (c ∷ below) ∷ ks) (Failed t.id) n m (marked t.plan e ∷ q) (stack k c below ∷ ks)
  succeeded_bottom : {e : Event} {q : List Event} {k : ℕ} {t : Instance} {ks : List Intention} → is_suspended t.status ≡ false
      → External k ≡ e.origin
      → Step library n m cycle (e ∷ q) (stack k t [] ∷ ks) (Succeeded t.id) n m q ks
  succeeded_above : {e : Event} {q : List Event} {k : ℕ} {t c : Instance} {below : List Instance} {ks : List Intention}
      → is_suspended t.status ≡ false → goal_of c ≡ e.origin
      → is_suspended c.status ≡ true
      → Step library n m cycle (e ∷ q) (stack k t (c ∷ below) ∷ ks) (Succeeded t.id) n m q (stack k (past_branch library c) below ∷ ks)
  -- outcome
  worked : {id : ℕ} {q : List Event} {k : ℕ} {t : Instance} {below : List Instance} {ks : List Intention} → is_waiting t.status ≡ true
      → Step library n m (outcome id true) q (stack k t below ∷ ks) (Stepped t.id t.state (last_tried t) (past_branch library t).state) n m q (stack k (past_branch library t) below ∷ ks)
  not_worked_lem : {id : ℕ} {q : List Event} {k : ℕ} {t : Instance} {below : List Instance} {ks : List Intention} → is_waiting t.status ≡ true
      → Step library n m (outcome id false) q (stack k t below ∷ ks) (Missed t.id t.state (last_tried t)) n m q (stack k (awake t) below ∷ ks)
