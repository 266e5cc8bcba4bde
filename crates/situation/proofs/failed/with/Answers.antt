-- `situation::failed::with` meets its contract: setting the bit of the plan inserts it, and past 32 nothing changes.
use mathlib.Core.Path.{sym, ◌∙◌}
use Rattle.situation.proofs.FailedLaws.{or_insert, one_shifted, with_below, with_past}
use Rattle.situation.proofs.failed.with.Goals as goal

pub returns-then-plan-ge-MOST_PLANS : goal.returns-then-plan-ge-MOST_PLANS
returns-then-plan-ge-MOST_PLANS c = sym (with_past c.args.set c.args.plan c.if-plan-ge-MOST_PLANS.true)

pub returns : goal.returns
returns c = rw (one_shifted c.args.plan c.if-plan-ge-MOST_PLANS.false) (or_insert c.args.set c.args.plan ∙ sym (with_below c.args.set c.args.plan c.if-plan-ge-MOST_PLANS.false))
