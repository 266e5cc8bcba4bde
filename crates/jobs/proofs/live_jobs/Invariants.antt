-- `jobs::live_jobs` meets its contract. The loops' invariant: the places before the count hold all jobs but those that are left to write.
use Prim.Native.Nat.{◌+◌, ◌*◌, ◌≤◌}
use lib.ListN.{length}
use Rattle.std.specs.Slice.Iter.{iter_rest}
use Rattle.std.specs.Iterator.Adapters.{rev_source}
use Rattle.jobs.proofs.FlatLaws.{Written, on_stack, live_from}
use Rattle.jobs.proofs.live_jobs.Given as goal

abbrev pub invariant-loop-poster : goal.invariant-loop-poster
invariant-loop-poster l =
    let below = iter_rest (rev_source l.poster-iterator) in
    (l.count + length below + 1 ≤ 8 * (l.stack-index + 1))
    × Written l.items l.count (on_stack l.stack.external l.x below (live_from l.stack-items (l.stack-index + 1))) (live_from l.stack-items 0)

abbrev pub invariant-loop-stack : goal.invariant-loop-stack
invariant-loop-stack l = (l.count ≤ 8 * l.stack-index) × Written l.items l.count (live_from l.stack-items l.stack-index) (live_from l.stack-items 0)
