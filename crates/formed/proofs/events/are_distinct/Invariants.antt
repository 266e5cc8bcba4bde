-- `formed::events::are_distinct` meets its contract. The loop's invariant: the events left decide as all.
use mathlib.Core.Path.{◌≡◌}
use lib.ListN.{length}
use Rattle.lists.specs.Search.{distinct}
use Rattle.model.specs.WellFormed.{same_event}
use Rattle.formed.proofs.events.are_distinct.Given as goal

abbrev pub invariant-loop-rest : goal.invariant-loop-rest
invariant-loop-rest l = distinct same_event l.rest ≡ distinct same_event l.queue

abbrev pub decreases-loop-rest : goal.decreases-loop-rest
decreases-loop-rest l = length l.rest
