-- `library::plan::rows_end` meets its contract. The loop's invariant: past the rows left is past them all, and a row has at most 786,422 bytes.
use Prim.Native.Nat.{◌≤◌, ◌+◌, ◌*◌, ◌-◌}
use mathlib.Core.Path.{◌≡◌}
use Rattle.library.specs.Bytes.{rows_end}
use Rattle.library.proofs.plan.rows_end.Given as goal

abbrev pub invariant-loop : goal.invariant-loop
invariant-loop l = (l.at ≤ l.from + 786422 * l.counter) × (rows_end l.bytes l.width (l.n - l.counter) l.at ≡ rows_end l.bytes l.width l.n l.from)
