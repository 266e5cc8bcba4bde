-- `trials::changes::list_run` meets its contract. The loop's invariant: the changes noted and the effects of the actions left are those of all that run.
use Prim.Native.Nat.{◌*◌, ◌≤◌}
use mathlib.Core.Path.{◌≡◌}
use mathlib.Core.List.{List, ◌++◌}
use lib.ListN.{take, drop}
use Rattle.belief.specs.Beliefs.{view, replay}
use Rattle.library.specs.declared.Action.{Action}
use Rattle.library.specs.declared.plan.PlanRef.{PlanRef}
use Rattle.library.specs.Layout.{described}
use Rattle.model.specs.Changes.{effects}
use Rattle.trials.specs.declared.changes.Ending.{Ending}
use Rattle.trials.specs.Altered.{changes_of, list_of}
use Rattle.trials.proofs.changes.list_run.Given as goal

-- the actions that run
abbrev pub run : PlanRef → Ending → List Action
run plan ending = take 4 (list_of ending (described plan))

abbrev pub invariant-loop-i : goal.invariant-loop-i
invariant-loop-i l =
    let actions = run l.plan l.ending in
    record {
      count : l.altered.count ≤ 2 * l.i;
      few : l.initial.altered.table.count ≤ 64 → l.altered.table.count ≤ 64;
      noted : changes_of l.altered ++ effects (view l.altered.table) l.env (drop l.i actions) ≡ effects (view l.initial.altered.table) l.env actions;
      table : view l.altered.table ≡ replay (view l.initial.altered.table) (changes_of l.altered);
    }
