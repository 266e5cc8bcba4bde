-- `formed::events::names_plans` meets its contract: 32 plans have all bits; of fewer the others are shifted out.
use borrow.Author.Tests.{le-leb}
use Rattle.formed.proofs.RuleLaws.{all_plans, shifted_out}
use Rattle.formed.proofs.events.names_plans.Goals as goal

pub returns-then-plans-ge-MOST_PLANS : goal.returns-then-plans-ge-MOST_PLANS
returns-then-plans-ge-MOST_PLANS c =
    rw (le-leb 32 c.args.plans c.if-plans-ge-MOST_PLANS.true) (all_plans c.args.failed c.args.plans c.ranges.failed.fits c.if-plans-ge-MOST_PLANS.true)

pub returns-else-plans-ge-MOST_PLANS : goal.returns-else-plans-ge-MOST_PLANS
returns-else-plans-ge-MOST_PLANS c = shifted_out c.args.failed c.args.plans
