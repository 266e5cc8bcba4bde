-- `accepted::stages::is_packed` meets its contract. The loop's invariant: the entries left decide as the whole does.
use mathlib.Core.Path.{◌∙◌}
use native.Mathlib.Omega.{arith}
use Rattle.accepted.proofs.StageLaws.{packed_step, packed_stop, packed_done, packed-whole}
use Rattle.accepted.proofs.stages.is_packed.Goals as goal

pub loop-number-init : goal.loop-number-init
loop-number-init c = (omega arith, packed-whole c.args.library.now _ _ c.plan_count-plans.ensures c.belief_count-beliefs.ensures)

pub returns-then-offset-at : goal.returns-then-offset-at
returns-then-offset-at c =
    let l = c.loop-number in
    packed_stop c.args.library.now _ l.number l.at _ c.offset.ensures.value (omega arith) c.if-offset-at.true ∙ l.invariant.1

pub loop-number-preserved : goal.loop-number-preserved
loop-number-preserved c =
    let l = c.loop-number in
    (omega arith, packed_step c.args.library.now _ l.number l.at _ _ c.offset.ensures.value c.length-at.ensures.value (omega arith) c.if-offset-at.false ∙ l.invariant.1)

pub returns : goal.returns
returns c = let l = c.loop-number in packed_done c.args.library.now _ l.number l.at (omega arith) ∙ l.invariant.1
