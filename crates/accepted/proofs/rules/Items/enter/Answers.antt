-- `accepted::rules::Items::enter` meets its contract. The loop's invariant: the counts so far, and of those left, are those of all.
use mathlib.Core.Path.{◌∙◌}
use native.Mathlib.Omega.{arith}
use Rattle.library.specs.Bytes.{branch_at}
use Rattle.accepted.proofs.CountLaws.{length-entered, branches-step, branches_done}
use Rattle.accepted.proofs.rules.Items.enter.Goals as goal

pub loop-i-preserved : goal.loop-i-preserved
loop-i-preserved c =
    let l = c.loop-i in
    let a = c.args.self.now in
    let next = branches-step (branch_at a.bytes.now) l.counts a.count l.i 12 a.from _ c.u16_at-next.ensures (omega arith) in
    (rw c.enter.ensures (length-entered l.counts _) ∙ l.invariant.0, rw c.enter.ensures next ∙ l.invariant.1)

pub returns : goal.returns
returns c =
    let l = c.loop-i in
    branches_done (branch_at c.args.self.now.bytes.now) l.counts c.args.self.now.count l.i 12 _ (omega arith) ∙ l.invariant.1
