-- A write that failed wrote nothing, and neither did one that took nothing.
use Rattle.std.specs.Io.KnownBytes.{Keeps}
use Rattle.transfer.proofs.write_some.Given as goal

abbrev pub invariant-loop : goal.invariant-loop
invariant-loop g l = Keeps (g.W.Write.contents l.fn.writer) (g.W.Write.contents l.writer)
