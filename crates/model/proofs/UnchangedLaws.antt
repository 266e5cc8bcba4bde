-- A refused call and an idle cycle leave the state as it was, for every state: no other answer is a refusal or idle.
use Prim.Native.Nat.{ℕ}
use mathlib.Core.Path.{refl}
use Rattle.std.specs.Prelude.{Option, None, Some}
use mathlib.Core.Bool.{Bool, true, false, cond}
use lib.Dec.{eqb, ltb}
use Rattle.lists.specs.Places.{Placed, first}
use Rattle.lists.proofs.BoolLaws.{both_ways}
use Rattle.literal.specs.declared.Literal.{Literal}
use Rattle.library.specs.declared.Branch.{Branch}
use Rattle.library.specs.Plan.{Library}
use Rattle.situation.specs.Applicable.{Chosen}
use Rattle.model.specs.declared.Event.{Event}
use Rattle.model.specs.declared.Origin.{Origin}
use Rattle.model.specs.declared.Origin.TheVariants.{External, Goal}
use Rattle.model.specs.State.{most_number, Intention, AgentState, Call, report, cycle, outcome, refuse}
use Rattle.model.specs.Report.{report_refusal, report_changes, take_in, report_by, reported}
use Rattle.model.specs.Event.{make, close, take_up}
use Rattle.model.specs.Try.{Try, attempt, tried}
use Rattle.model.specs.End.{end_top, succeed, fail}
use Rattle.model.specs.Turn.{Move, fails, succeeds, tries, next_move, height_of, turn_by, turn}
use Rattle.model.specs.Outcome.{is_awaiting, outcome_by, told}
use Rattle.model.specs.Cycle.{next_event, next_stack, choice_for, cycle_by, cycled}
use Rattle.model.specs.WellFormed.{is_well_formed}
use Rattle.model.specs.Calls.{act, call_by, call}
use Rattle.model.specs.Promises.{Unchanged}

module _ (library : Library) (s : AgentState) where
  -- ---- Report

  report-unchanged : (kind : ℕ) (l : Literal) → Unchanged s (reported s kind l)
  unfolding reported report_by take_in
  report-unchanged kind l = go (eqb (report_refusal s kind l) 0)
    where
      go : (b : Bool) → Unchanged s (cond b (take_in s kind l (report_changes s.beliefs kind l)) (refuse (report_refusal s kind l) s))
      go true e = both_ways e refl
      go false e = refl

  -- ---- Cycle

  make-unchanged : (chosen : Chosen) (o : Origin) → Unchanged s (make s chosen o)
  unfolding make
  make-unchanged chosen (External n) e = both_ways e refl
  make-unchanged chosen (Goal i state branch) e = both_ways e refl

  close-unchanged : (event : Placed Event) (o : Origin) → Unchanged s (close s event o)
  unfolding close
  close-unchanged event (External n) e = both_ways e refl
  close-unchanged event (Goal i state branch) e = both_ways e refl

  take_up-unchanged : (event : Placed Event) (o : Option Chosen) → Unchanged s (take_up s event o)
  unfolding take_up
  take_up-unchanged event None = close-unchanged event event.it.origin
  take_up-unchanged event (Some chosen) = go (ltb s.made most_number)
    where
      go : (b : Bool) → Unchanged s (cond b (make s chosen event.it.origin) (refuse 9 s))
      go true = make-unchanged chosen event.it.origin
      go false = λ e. refl

  tried-unchanged : (k : Placed Intention) (b : Branch) (t : Try) → Unchanged s (tried s k b t)
  unfolding tried
  tried-unchanged k b Try.missed e = both_ways e refl
  tried-unchanged k b t e = both_ways e refl

  turn-unchanged : (k : Placed Intention) (m : Move) → Unchanged s (turn_by library s k m)
  unfolding turn_by fail succeed end_top
  turn-unchanged k fails e = both_ways e refl
  turn-unchanged k succeeds e = both_ways e refl
  turn-unchanged k (tries b) e = tried-unchanged k b (attempt s.beliefs (height_of k.it) k.it.top.env b) e

  cycle-unchanged : (event : Option (Placed Event)) (k : Option (Placed Intention)) → Unchanged s (cycle_by library s event k)
  unfolding cycle_by turn
  cycle-unchanged (Some event) k = take_up-unchanged event (choice_for library s event.it)
  cycle-unchanged None (Some k) = turn-unchanged k (next_move library s.beliefs k.it.top)
  cycle-unchanged None None = λ e. refl

  -- ---- Outcome

  outcome-unchanged : (worked : Bool) (k : Option (Placed Intention)) → Unchanged s (outcome_by library s worked k)
  unfolding outcome_by
  outcome-unchanged worked None e = refl
  outcome-unchanged true (Some k) e = both_ways e refl
  outcome-unchanged false (Some k) e = both_ways e refl

  -- ---- Every call

  act-unchanged : (c : Call) → Unchanged s (act library s c)
  unfolding act cycled told
  act-unchanged (report kind l) = report-unchanged kind l
  act-unchanged cycle = cycle-unchanged (next_event s) (next_stack s)
  act-unchanged (outcome id worked) = outcome-unchanged worked (first (is_awaiting id) s.stacks)

  pub call-unchanged : (c : Call) → Unchanged s (call library s c)
  unfolding call call_by
  call-unchanged c = go (is_well_formed library s)
    where
      go : (b : Bool) → Unchanged s (call_by b library s c)
      go true = act-unchanged c
      go false = λ e. refl
