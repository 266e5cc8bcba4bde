use Rattle.std.proofs.Common.{◌≤◌, length}
use Rattle.canarystand.proofs.host.Host.answer_all.Given as goal

-- what was read stays within the buffer
abbrev pub invariant-loop : goal.invariant-loop
invariant-loop g l = l.n ≤ length l.input
