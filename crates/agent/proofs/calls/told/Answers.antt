-- `agent::calls::told` meets its contract: the agent's state is trusted where the test says so.
use mathlib.Core.Path.{sym, ◌∙◌}
use Rattle.formed.proofs.WellFormedLaws.{test_parts}
use Rattle.agent.proofs.CallsLaws.{calls_agent}
use Rattle.agent.proofs.calls.told.Goals as goal

pub run-requires : goal.run-requires
run-requires c =
    let a = c.args.a.now in
    (rw (c.bytes.ensures, c.requires.0) (λ e. test_parts a.library a.length a.state (sym c.is_well_formed-formed.ensures ∙ e)), rw c.requires.0 c.requires.1)

pub returns : goal.returns
returns c =
    calls_agent c.args.a.now c.args.spoken c.run.new.s c.run.result
    (rw (c.bytes.ensures, c.is_well_formed-formed.ensures, c.requires.0) at c.run.ensures.responds)
