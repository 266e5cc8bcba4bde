-- `state::search::live_count` meets its contract. The loop's invariant: what was found and the tops to come, with those below them, make the whole.
use borrow.Author.Rules.{rules}
use Prim.Native.Nat.{◌<◌, ◌*◌}
use native.Mathlib.Omega.{arith}
use mathlib.Core.Path.{◌≡◌, ap}
use lib.ListN.{length, drop, drop_of_length-le}
use Rattle.model.specs.Live.{live}
use Rattle.state.specs.View.{no_stack}
use Rattle.state.proofs.SearchSteps.{live_more}
use Rattle.state.proofs.search.live_count.Invariants.{live_of}
use Rattle.state.proofs.search.live_count.Goals as goal

pub overflow_add-found : goal.overflow_add-found
overflow_add-found c =
    let fits : 8 * length c.args.stacks.now < 18446744073709551616 = search rules in
    omega (arith, fits, c.loop-stack.invariant.0, c.loop-stack-test.true, c.depth-found.ensures)

pub loop-stack-preserved : goal.loop-stack-preserved
loop-stack-preserved c =
    let more = live_more c.args.stacks.now c.loop-stack.stack-index c.depth-found.result no_stack c.loop-stack-test.true c.depth-found.ensures in
    (omega (arith, c.loop-stack.invariant.0, c.depth-found.ensures), omega (arith, c.loop-stack.invariant.1, more))

pub returns : goal.returns
unfolding live
returns c =
    let none : live_of (drop c.loop-stack.stack-index c.args.stacks.now) ≡ 0 = ap live_of (drop_of_length-le c.args.stacks.now c.loop-stack-test.false) in
    omega (arith, c.loop-stack.invariant.1, none)
