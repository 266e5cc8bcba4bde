-- `agent::ends::popped` meets its contract: nothing is left where the top was alone, else the one below is the top.
use native.Mathlib.Omega.{arith}
use mathlib.Core.Path.{ap, sym, ◌∙◌}
use Rattle.library.specs.Layout.{library_of}
use Rattle.state.specs.Stacks.{pop}
use Rattle.state.proofs.StackLaws.{pop-none}
use Rattle.agent.specs.Turnable.{poster_after}
use Rattle.agent.proofs.TurnLaws.{pops}
use Rattle.agent.proofs.ends.popped.Goals as goal

pub returns-then-depth-lt1-clause-shown : goal.returns-then-depth-lt1-clause-shown
returns-then-depth-lt1-clause-shown c =
    let a = c.args in
    sym (pop-none a.stack (poster_after a.ending (library_of a.library.now)) (omega (arith, c.depth.ensures, c.if-depth-lt1)))

pub returns-clause-shown : goal.returns-clause-shown
returns-clause-shown c =
    let change = poster_after c.args.ending (library_of c.args.library.now) in
    pops c.args.stack c.popped.result change c.poster_after-after.result (omega (arith, c.depth.ensures, c.if-depth-lt1))
    c.popped.ensures (c.poster_after-after.ensures ∙ ap change c.under_top.ensures)

pub returns-clause-fits : goal.returns-clause-fits
unfolding pop
returns-clause-fits c = rw c.popped.ensures (omega arith)
