-- `jobs::place::plan_of` meets its contract: the number tests whether there is the plan.
use mathlib.Core.Path.{refl}
use Rattle.jobs.proofs.PlaceLaws.{by_test}
use Rattle.jobs.proofs.place.plan_of.Goals as goal

pub returns : goal.returns
returns c = rw c.then_some.ensures (by_test c.args.library.now c.args.x _ c.plan_count.ensures _ refl refl _ refl)
