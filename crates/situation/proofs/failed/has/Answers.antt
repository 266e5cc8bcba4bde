-- `situation::failed::has` meets its contract: past 32 there is no plan.
use mathlib.Core.Path.{sym, ◌∙◌}
use borrow.Author.Tests.{le-ltb}
use Rattle.situation.proofs.FailedLaws.{has-past}
use Rattle.situation.proofs.failed.has.Goals as goal

pub returns-else-plan-lt-MOST_PLANS : goal.returns-else-plan-lt-MOST_PLANS
returns-else-plan-lt-MOST_PLANS c =
    let a = c.args in
    let h = c.if-plan-lt-MOST_PLANS.false in
    le-ltb a.plan 32 h ∙ sym (has-past a.set a.plan 32 c.ranges.set.fits h)
