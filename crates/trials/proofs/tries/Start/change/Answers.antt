-- `trials::tries::Start::change` meets its contract: a step where the change is possible.
use mathlib.Core.Path.{◌≡◌, ap, sym, ◌∙◌}
use Rattle.belief.specs.Beliefs.{view}
use Rattle.model.specs.Changes.{effective}
use Rattle.model.specs.Try.{is_possible}
use Rattle.trials.specs.declared.changes.Altered.{Altered}
use Rattle.trials.specs.Altered.{Alters}
use Rattle.trials.proofs.AlteredLaws.{first-change}
use Rattle.trials.proofs.TrialLaws.{possible_tries, impossible_tries}
use Rattle.trials.proofs.tries.Start.change.Goals.{then-make, else-make}
use Rattle.trials.proofs.tries.Start.change.Goals as goal

pub returns : goal.returns
returns c =
    let a = c.args in
    let b = a.self.now.beliefs.now in
    let h : Alters b (effective (view b) a.c) c.make.new.self = first-change b c.untouched-altered.result c.make.new.self a.c c.untouched-altered.ensures c.make.ensures.made in
    let possible : c.make.result ≡ is_possible (view b) a.c
    = c.make.ensures.possible ∙ ap (λ (t : Altered). is_possible (view t.table) a.c) c.untouched-altered.ensures in
    elim c.if-make.branch [
      | then-make w ↦ rw w.outcome-is (possible_tries b a.self.now.env a.c c.make.new.self h (sym possible ∙ w.if-make.true))
      | else-make w ↦ rw w.outcome-is (impossible_tries b a.self.now.env a.c c.make.new.self h (sym possible ∙ w.if-make.false))
    ]
