-- `library::plan::PlanRef::failure_count` meets its contract: the number stands first in the list.
use mathlib.Core.Path.{sym, ap, ◌∙◌}
use Rattle.library.specs.Layout.{plan_at}
use Rattle.library.specs.Bytes.{u16_at}
use Rattle.library.proofs.PartLaws.{length-actions}
use Rattle.library.proofs.plan.PlanRef.failure_count.Goals as goal

pub returns : goal.returns
unfolding plan_at
returns c = c.u16_at.ensures ∙ ap (u16_at c.args.self.now.library.now) c.failure_offset.ensures.value ∙ sym (length-actions c.args.self.now.library.now _)
