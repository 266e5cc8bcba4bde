-- `accepted::stages::is_packed` meets its contract. The loop's invariant: the entries left decide as the whole does.
use Prim.Native.Nat.{◌≤◌, ◌+◌, ◌*◌, ◌-◌}
use mathlib.Core.Path.{◌≡◌}
use Rattle.accepted.specs.Refusal.{packed_from, is_packed}
use Rattle.accepted.proofs.stages.is_packed.Given as goal

abbrev pub invariant-loop-number : goal.invariant-loop-number
invariant-loop-number l = (l.at ≤ 1000000 + 65535 * l.number) × (packed_from l.library (l.plans - l.number) l.number l.at ≡ is_packed l.library)
