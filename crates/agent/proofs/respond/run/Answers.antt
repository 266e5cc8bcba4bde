-- `agent::respond::run` meets its contract: what the look answered, or the step that it told, on the state.
use mathlib.Core.Path.{subst}
use Rattle.reading.specs.Spoken.{meaning}
use Rattle.state.proofs.CountParts.{counts-parts}
use Rattle.agent.specs.Look.{Looks}
use Rattle.agent.proofs.LookLaws.{answers-respond}
use Rattle.agent.proofs.respond.run.Goals as goal

pub look_at-look-requires : goal.look_at-look-requires
look_at-look-requires c = λ e. (counts-parts c.args.s.now (c.requires.0 e).fit).stacked

pub returns-in-Answered-clause-responds : goal.returns-in-Answered-clause-responds
returns-in-Answered-clause-responds c =
    let a = c.args in
    let told = subst (Looks a.formed a.s.now (meaning a.spoken)) c.in-Answered.is c.look_at-look.ensures in
    rw c.plain_result.ensures (answers-respond a.library.now a.s.now c.requires.1 a.formed c.requires.0 told)
