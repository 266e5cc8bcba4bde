-- `formed::Tested::has_poster` meets its contract: no poster is needed, or some instance is it.
use borrow.Author.Rules.{rules}
use borrow.Author.Tests.{tests}
use mathlib.Core.Path.{sym, ◌∙◌}
use Rattle.std.proofs.lemmas.Iterator.{YieldsList-from_slice}
use Rattle.std.proofs.lemmas.Iterator.Search.{any_from_yields_List}
use Rattle.lists.proofs.MapLaws.{any-mapped}
use Rattle.model.specs.WellFormed.{is_posted, has_poster}
use Rattle.jobs.specs.Jobs.{job_of}
use Rattle.formed.proofs.Tested.has_poster.Goals as goal

pub returns-then-not-is_goal : goal.returns-then-not-is_goal
unfolding has_poster
returns-then-not-is_goal c = rw (sym c.is_goal.ensures ∙ c.if-not-is_goal.true, c.if-not-is_goal.true)

pub returns-else-not-is_goal : goal.returns-else-not-is_goal
unfolding has_poster
returns-else-not-is_goal c =
    let posted = any_from_yields_List (λ k. is_posted c.args.event.now.origin (job_of k)) _ _ c.any.result c.any.ensures.ran
    (YieldsList-from_slice c.args.self.now.jobs.now cc) (λ x b q k. search (rules, tests)) ∙ sym (any-mapped job_of (is_posted c.args.event.now.origin) c.args.self.now.jobs.now) in
    rw (sym c.is_goal.ensures ∙ c.if-not-is_goal.false) posted
