-- `accepted::rules::Items::enter` meets its contract. The loop's invariant: the counts so far, and of those left, are those of all.
use Prim.Native.Nat.{◌+◌, ◌*◌, ◌-◌}
use mathlib.Core.Path.{◌≡◌}
use lib.ListN.{length}
use Rattle.library.specs.Bytes.{branch_at, items}
use Rattle.accepted.specs.Counts.{counted_in}
use Rattle.accepted.proofs.rules.Items.enter.Given as goal

abbrev pub invariant-loop-i : goal.invariant-loop-i
invariant-loop-i l =
    (length l.counts ≡ length l.initial.counts)
    × (counted_in l.counts (items (branch_at l.self.bytes.now) 12 (l.self.count - l.i) (l.self.from + 12 * l.i)) ≡ counted_in l.initial.counts (items (branch_at l.self.bytes.now) 12 l.self.count l.self.from))
