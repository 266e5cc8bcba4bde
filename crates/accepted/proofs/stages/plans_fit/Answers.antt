-- `accepted::stages::plans_fit` meets its contract: each plan of the range is tested.
use borrow.Author.Rules.{rules}
use borrow.Author.Tests.{tests}
use native.Mathlib.Omega.{arith}
use mathlib.Core.Path.{refl, ◌∙◌}
use Rattle.std.proofs.lemmas.Iterator.{YieldsList-from_range}
use Rattle.std.proofs.lemmas.Iterator.Search.{all_from_yields_List}
use Rattle.accepted.specs.Refusal.{plan_fits}
use Rattle.accepted.proofs.StageLaws.{plans_whole}
use Rattle.accepted.proofs.stages.plans_fit.Goals as goal

pub returns : goal.returns
returns c =
    let bytes = c.args.library.now in
    let plans = c.plan_count-plans in
    all_from_yields_List (plan_fits bytes) _ _ _ c.all.ensures.ran (YieldsList-from_range 0 plans.result plans.result refl (omega arith)) (λ x b q k. search (rules, tests))
    ∙ plans_whole bytes _ plans.ensures
