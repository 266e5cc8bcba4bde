-- `accepted::stages::all_apart` meets its contract. The loop's invariant: the beliefs left decide as all.
use mathlib.Core.Path.{◌≡◌}
use lib.ListN.{length}
use Rattle.lists.specs.Search.{distinct}
use Rattle.accepted.proofs.StageLaws.{alike}
use Rattle.accepted.proofs.stages.all_apart.Given as goal

abbrev pub invariant-loop-rest : goal.invariant-loop-rest
invariant-loop-rest l = distinct alike l.rest ≡ distinct alike l.beliefs

abbrev pub decreases-loop-rest : goal.decreases-loop-rest
decreases-loop-rest l = length l.rest
