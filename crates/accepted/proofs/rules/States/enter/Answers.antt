-- `accepted::rules::States::enter` meets its contract. The loop's invariant: the counts so far, and of the states left, are those of all.
use mathlib.Core.Path.{◌∙◌}
use native.Mathlib.Omega.{arith}
use Rattle.library.specs.Bytes.{branch_at}
use Rattle.accepted.proofs.CountLaws.{length-counted_in, states-step, states_done}
use Rattle.accepted.proofs.rules.States.enter.Goals as goal

pub loop-preserved : goal.loop-preserved
loop-preserved c =
    let l = c.loop in
    let bytes = c.args.self.now.bytes.now in
    let more = c.enter.ensures in
    let next = states-step (branch_at bytes) l.counts c.args.self.now.count l.counter bytes 12 l.at _ c.u16_at.ensures (omega arith) in
    (omega arith, rw more (length-counted_in l.counts _) ∙ l.invariant.1, rw more next ∙ l.invariant.2)

pub returns : goal.returns
returns c =
    let l = c.loop in
    let bytes = c.args.self.now.bytes.now in
    states_done (branch_at bytes) l.counts c.args.self.now.count l.counter bytes 12 l.at (omega arith) ∙ l.invariant.2
