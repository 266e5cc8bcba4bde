-- `literal::Env::bound` meets its contract. The loop's invariant: the first entries are replaced.
use mathlib.Core.Path.{◌≡◌}
use Rattle.lists.proofs.MapLaws.{mapped}
use Rattle.literal.specs.Environment.{replace}
use Rattle.literal.proofs.Env.bound.Given as goal

abbrev pub invariant-loop-term : goal.invariant-loop-term
invariant-loop-term l = l.term-items ≡ mapped (replace l.variable l.constant) l.term-index l.initial.term-items
