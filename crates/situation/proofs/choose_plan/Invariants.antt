-- `situation::choose_plan` meets its contract: the first applicable plan from a number on is the first of all.
use Prim.Native.Nat.{◌-◌}
use mathlib.Core.Path.{◌≡◌}
use Rattle.library.specs.Bytes.{items}
use Rattle.library.specs.Layout.{plan_of, library_of}
use Rattle.situation.specs.Applicable.{applicable_from, first_chosen, choose}
use Rattle.situation.proofs.choose_plan.Given as goal

abbrev pub invariant-loop-number : goal.invariant-loop-number
invariant-loop-number l =
    first_chosen (applicable_from l.held l.kind l.l l.failed l.number (items (plan_of l.bytes) 1 (l.number-end - l.number) l.number))
    ≡ choose l.held l.kind l.l l.failed (library_of l.bytes).plans
