-- `library::plan::PlanRef::state_count` meets its contract: the number stands first in the body.
use mathlib.Core.Path.{sym, ap, ◌∙◌}
use Rattle.library.specs.Layout.{plan_at}
use Rattle.library.specs.Bytes.{u16_at}
use Rattle.library.proofs.PartLaws.{length-states}
use Rattle.library.proofs.plan.PlanRef.state_count.Goals as goal

pub returns : goal.returns
unfolding plan_at
returns c = c.u16_at.ensures ∙ ap (u16_at c.args.self.now.library.now) c.states_offset.ensures.value ∙ sym (length-states c.args.self.now.library.now _)
