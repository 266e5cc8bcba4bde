-- `accepted::rules::States::enter` meets its contract. The loop's invariant: the counts so far, and of the states left, are those of all.
use Prim.Native.Nat.{◌≤◌, ◌+◌, ◌*◌, ◌-◌}
use mathlib.Core.Path.{◌≡◌}
use lib.ListN.{length}
use Rattle.library.specs.Bytes.{branch_at, rows}
use Rattle.accepted.specs.Counts.{counted}
use Rattle.accepted.proofs.rules.States.enter.Given as goal

abbrev pub invariant-loop : goal.invariant-loop
invariant-loop l =
    (l.at ≤ l.self.from + 786422 * l.counter)
    × (length l.counts ≡ length l.initial.counts)
    × (counted l.counts (rows (branch_at l.self.bytes.now) l.self.bytes.now 12 (l.self.count - l.counter) l.at) ≡ counted l.initial.counts (rows (branch_at l.self.bytes.now) l.self.bytes.now 12 l.self.count l.self.from))
