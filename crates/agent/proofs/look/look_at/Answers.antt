-- `agent::look::look_at` meets its contract: what is answered to a state that is not well formed, and to a line that cannot be read.
use mathlib.Core.Path.{subst⁻¹}
use Rattle.agent.specs.Look.{Answers, unformed, unread}
use Rattle.model.specs.declared.Answer.{Answer}
use Rattle.reading.specs.Spoken.{meaning}
use Rattle.agent.proofs.look.look_at.Goals as goal

pub returns-then-not-formed : goal.returns-then-not-formed
returns-then-not-formed c =
    let a = c.args in
    subst⁻¹ (λ (x : Answer). Answers a.formed a.s.now (meaning a.spoken) x) c.unformed_answer.ensures (unformed (meaning a.spoken) c.if-not-formed.true)

pub returns-in_default : goal.returns-in_default
returns-in_default c = rw c.in_default.is unread
