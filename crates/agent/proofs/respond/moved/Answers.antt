-- `agent::respond::moved` meets its contract: what the step gives, and the state's arrays stay as long as they are.
use mathlib.Core.Path.{subst⁻¹}
use Rattle.steps.specs.View.{Sized}
use Rattle.steps.proofs.StepLaws.{sized_after}
use Rattle.agent.proofs.respond.moved.Goals as goal

pub returns-clause-responds : goal.returns-clause-responds
returns-clause-responds c = rw (c.apply.ensures, c.result.ensures) c.act-step.ensures

pub returns-clause-sized : goal.returns-clause-sized
returns-clause-sized c = subst⁻¹ Sized c.apply.ensures (sized_after c.args.s.now c.requires.1.1 c.act-step.result)
