-- A read that failed took nothing.
use Rattle.std.specs.Io.KnownBytes.{Keeps}
use Rattle.transfer.proofs.read_some.Given as goal

abbrev pub invariant-loop : goal.invariant-loop
invariant-loop g l = Keeps (g.R.Read.remaining l.fn.reader) (g.R.Read.remaining l.reader)
