-- `trials::tries::Start::plain` meets its contract: the table is the one given.
use Rattle.trials.proofs.TrialLaws.{plain_tries}
use Rattle.trials.proofs.tries.Start.plain.Goals as goal

pub returns : goal.returns
returns c =
    let a = c.args in
    plain_tries a.self.now.beliefs.now a.env a.outcome c.untouched.result c.untouched.ensures
