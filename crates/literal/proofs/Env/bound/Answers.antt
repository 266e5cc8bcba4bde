-- `literal::Env::bound` meets its contract: each turn replaces one entry more, so all of them are.
use mathlib.Core.Path.{◌∙◌}
use borrow.Author.Tests.{eq-eqb, ne_eqb}
use Rattle.lists.proofs.MapLaws.{mapped-start, mapped-step}
use Rattle.literal.specs.Environment.{replace}
use Rattle.literal.proofs.Env.bound.Goals as goal
use Rattle.literal.proofs.Env.bound.Goals.{then-term-variable, else-term-variable}

pub loop-term-init : goal.loop-term-init
loop-term-init c = mapped-start _ _

pub loop-term-preserved : goal.loop-term-preserved
loop-term-preserved c =
    let a = c.args in
    let l = c.loop-term in
    elim c.if-term-variable.branch [
      | then-term-variable w ↦ w.term-items-is ∙ mapped-step (replace a.variable a.constant) l.term-index a.self.terms l.term-items 0 _ l.invariant (rw (eq-eqb _ _ w.if-term-variable.true))
      | else-term-variable w ↦ w.term-items-is ∙ mapped-step (replace a.variable a.constant) l.term-index a.self.terms l.term-items 0 _ l.invariant (rw (ne_eqb _ _ w.if-term-variable.false))
    ]
