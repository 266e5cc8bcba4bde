-- A divide changes no belief and is no goal: by its kind it comes to a step without changes or to a miss, and the state rules
-- let no instance wait or be suspended at one.
use Prim.Native.Nat.{ℕ}
use native.Mathlib.Omega.{arith}
use mathlib.Core.Path.{◌≡◌, refl, ap}
use mathlib.Core.Bool.{true}
use Rattle.std.specs.Prelude.{Option, None, Some}
use mathlib.Core.List.{List}
use lib.Dec.{ltb, eqb}
use borrow.Author.Tests.{le-ltb, eq-eqb, ne_eqb, eqb-true}
use Rattle.lists.specs.Counts.{Every}
use Rattle.lists.specs.Places.{Placed}
use Rattle.lists.proofs.AllLaws.{all_weaker}
use Rattle.lists.proofs.BoolLaws.{by_cases, both_ways, and_parts}
use Rattle.lists.proofs.TestCounts.{all_every, every_all}
use Rattle.literal.specs.declared.Literal.{Literal}
use Rattle.literal.specs.declared.Env.{Env}
use Rattle.literal.specs.Divide.{divide, divides_into_input}
use Rattle.literal.proofs.DivideLaws.{own_input_missed}
use Rattle.belief.specs.Beliefs.{replay}
use Rattle.library.specs.declared.Branch.{Branch}
use Rattle.library.specs.Plan.{Library}
use Rattle.model.specs.declared.Status.{Status}
use Rattle.model.specs.declared.Status.TheVariants.{Active, Waiting, Suspended}
use Rattle.model.specs.State.{Intention, AgentState}
use Rattle.model.specs.Instance.{is_active, branch_of, divide_kind, is_action_kind, is_goal_kind}
use Rattle.model.specs.Live.{Job, live}
use Rattle.model.specs.Try.{missed, try_divide, attempt, tried}
use Rattle.model.specs.Turn.{tries, turn_by}
use Rattle.model.specs.WellFormed.{is_status, is_sound}
use Rattle.model.specs.Formed.{WellFormed}
use Rattle.model.specs.Divide.{Untouched, is_active_at_divide}
use Rattle.model.proofs.InstanceLaws.{sound_parts}

-- ---- What comes of it

module _ (beliefs : List Literal) (height : ℕ) (env : Env) (b : Branch) (kind : b.kind ≡ divide_kind) where
  pub attempt-divide : attempt beliefs height env b ≡ try_divide (divide b.literal env)
  unfolding attempt
  attempt-divide = rw (le-ltb b.kind 2 (omega arith), ne_eqb b.kind 2 (λ q. absurd (omega arith)), eq-eqb b.kind 5 kind)

  -- one that divides into its own input is always missed
  pub own_input_never : divides_into_input b.literal ≡ true → attempt beliefs height env b ≡ missed
  unfolding try_divide
  own_input_never h = rw (attempt-divide, own_input_missed b.literal env h)

-- the turn of a stack whose top divides: no change is reported, and the ledger's sum is untouched
pub divide-untouched : (library : Library) (s : AgentState) (stack : Placed Intention) (b : Branch) → b.kind ≡ divide_kind
    → Untouched s (turn_by library s stack (tries b))
unfolding turn_by try_divide tried replay
divide-untouched library s stack b kind =
    rw (attempt-divide s.beliefs _ stack.it.top.env b kind) (go (divide b.literal stack.it.top.env))
  where
    go : (o : Option Env) → Untouched s (tried s stack b (try_divide o))
    go None = record { changes = refl; beliefs = refl; queue = refl }
    go (Some env) = record { changes = refl; beliefs = refl; queue = refl }

-- ---- Nobody waits at it

-- the rule for a status lets an instance at a divide be active alone
active_status : (tried kind : ℕ) (status : Status) → is_status tried kind status ≡ true → kind ≡ divide_kind → is_active status ≡ true
unfolding is_status
active_status tried kind Active h e = refl
active_status tried kind Waiting h e = both_ways (and_parts (ltb 0 tried) _ h).1 (ap is_action_kind e)
active_status tried kind Suspended h e = both_ways (and_parts (ltb 0 tried) _ h).1 (ap is_goal_kind e)

-- no live instance waits or is suspended at a divide
pub active_at_divides : (library : Library) (s : AgentState) → WellFormed library s → Every (is_active_at_divide library) (live s.stacks)
active_at_divides library s formed =
    all_every (is_active_at_divide library) (live s.stacks)
    (all_weaker (λ job. is_sound library job.instance) (is_active_at_divide library) active (live s.stacks)
    (every_all (λ job. is_sound library job.instance) (live s.stacks) formed.local.sounds))
  where
    active : (job : Job) → is_sound library job.instance ≡ true → is_active_at_divide library job ≡ true
    active job h =
        let x = job.instance in
        by_cases (eqb (branch_of library x).kind divide_kind)
        (λ e. rw (e, active_status x.tried (branch_of library x).kind x.status (sound_parts library x h).status (eqb-true _ divide_kind e)))
        (λ e. rw e)
