-- `formed::instances::are_distinct` meets its contract. The loop's invariant: the instances left decide as all.
use mathlib.Core.Path.{◌≡◌}
use lib.ListN.{length}
use Rattle.lists.specs.Search.{distinct}
use mathlib.Core.Bool.{◌&&◌}
use Rattle.formed.specs.Stored.{same_stored_id, same_stored_event}
use Rattle.formed.proofs.instances.are_distinct.Given as goal

abbrev pub invariant-loop-rest : goal.invariant-loop-rest
invariant-loop-rest l =
    (distinct same_stored_id l.rest && distinct same_stored_event l.rest) ≡ (distinct same_stored_id l.jobs && distinct same_stored_event l.jobs)

abbrev pub decreases-loop-rest : goal.decreases-loop-rest
decreases-loop-rest l = length l.rest
