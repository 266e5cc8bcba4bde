-- `formed::Tested::has_goal` meets its contract: no goal is needed, or the queue has it.
use borrow.Author.Rules.{rules}
use borrow.Author.Tests.{tests}
use mathlib.Core.Path.{◌≡◌, sym, ◌∙◌}
use mathlib.Core.Bool.{not}
use Rattle.library.specs.Layout.{library_of}
use Rattle.std.proofs.lemmas.Iterator.{YieldsList-from_slice}
use Rattle.std.proofs.lemmas.Iterator.Search.{any_from_yields_List}
use Rattle.model.specs.Instance.{is_suspended}
use Rattle.model.specs.WellFormed.{is_goal_for, has_goal}
use Rattle.formed.proofs.Tested.has_goal.Goals as goal

pub returns-else-ne : goal.returns-else-ne
unfolding has_goal
returns-else-ne c =
    let x = c.args.job.now.instance in
    let awake : c.ne.result ≡ not (is_suspended x.status) = search rules in
    let queued = any_from_yields_List (is_goal_for (library_of c.args.self.now.library.now) x) _ _ c.any.result c.any.ensures.ran
    (YieldsList-from_slice c.args.self.now.queue.now cc) (λ x b q k. search (rules, tests)) in
    rw (sym awake ∙ c.if-ne.false) queued
