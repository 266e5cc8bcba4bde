-- `library::plan::Part::branch_count` meets its contract: a state's number of branches stands past the states before it.
use mathlib.Core.Path.{sym, ap, ◌∙◌}
use lib.ListN.{length}
use Rattle.library.specs.Bytes.{u16_at}
use Rattle.library.proofs.PartLaws.{state-past, length-state}
use Rattle.library.proofs.plan.Part.branch_count.Goals as goal

pub returns-then-count-state : goal.returns-then-count-state
returns-then-count-state c = sym (ap length (state-past c.args.self.now.bytes.now c.args.self.now.at c.args.state (rw c.count.ensures at c.if-count-state.true)))

pub returns : goal.returns
returns c =
    c.u16_at.ensures
    ∙ ap (u16_at c.args.self.now.bytes.now) c.rows_end-row.ensures.value
    ∙ sym (length-state c.args.self.now.bytes.now c.args.self.now.at c.args.state (rw c.count.ensures at c.if-count-state.false))
