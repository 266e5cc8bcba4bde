-- `accepted::rules::States::past` meets its contract. The loop's invariant: what is left ends as the whole does.
use mathlib.Core.Path.{◌∙◌}
use native.Mathlib.Omega.{arith}
use Rattle.accepted.proofs.RuleLaws.{states-step, states_stop, states_done, states_all}
use Rattle.accepted.proofs.rules.States.past.Goals as goal

pub returns-then-not-are_branches : goal.returns-then-not-are_branches
returns-then-not-are_branches c =
    let l = c.loop-state in
    let a = c.args.self.now in
    states_stop a.count a.bytes.now l.state l.at _ c.u16_at.ensures (omega arith) _ c.are_branches.ensures c.if-not-are_branches.true
    ∙ l.invariant.1
    ∙ states_all a.count a.bytes.now a.from

pub loop-state-preserved : goal.loop-state-preserved
loop-state-preserved c =
    let l = c.loop-state in
    let a = c.args.self.now in
    (omega arith, states-step a.count a.bytes.now l.state l.at _ c.u16_at.ensures (omega arith) _ c.are_branches.ensures c.if-not-are_branches.false ∙ l.invariant.1)

pub returns : goal.returns
returns c =
    let l = c.loop-state in
    let a = c.args.self.now in
    states_done a.count a.bytes.now l.state l.at (omega arith) ∙ l.invariant.1 ∙ states_all a.count a.bytes.now a.from
