use Rattle.std.proofs.Common.{length, ◌-◌, ◌≤◌}
use Rattle.public_calls.proofs.read_full.Given as goal

-- what was read stays within the buffer
abbrev pub invariant-loop-done : goal.invariant-loop-done
invariant-loop-done g l = l.done ≤ length l.buf

-- the room left
abbrev pub decreases-loop-done : goal.decreases-loop-done
decreases-loop-done g l = length l.buf - l.done
