-- `literal::Env::is_env` meets its contract. The loop's invariant: the entries left decide as all of them do.
use Rattle.literal.proofs.EntryLaws.{EntriesLeft}
use Rattle.literal.proofs.Env.is_env.Given as goal

abbrev pub invariant-loop-i : goal.invariant-loop-i
invariant-loop-i l = EntriesLeft l.term-items l.i
