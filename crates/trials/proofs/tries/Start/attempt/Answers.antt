-- `trials::tries::Start::attempt` meets its contract: a kind past the last is tried as a query's.
use native.Mathlib.Omega.{arith}
use borrow.Author.Tests.{le-ltb, ne_eqb}
use Rattle.model.specs.Try.{answer_to, is_barred, attempt}
use Rattle.trials.proofs.tries.Start.attempt.Goals as goal

pub returns-in_default : goal.returns-in_default
unfolding attempt answer_to is_barred
returns-in_default c =
    let kind = c.args.branch.kind in
    rw (le-ltb kind 2 (omega arith), ne_eqb kind 2 (omega arith), ne_eqb kind 3 (omega arith), ne_eqb kind 5 (omega arith)) c.query.ensures
