-- `formed::Tested::are_jobs` meets its contract: each is sound, and they differ.
use borrow.Author.Rules.{rules}
use borrow.Author.Tests.{tests}
use mathlib.Core.Path.{sym, ◌∙◌}
use Rattle.library.specs.Layout.{library_of}
use Rattle.std.proofs.lemmas.Iterator.{YieldsList-from_slice}
use Rattle.std.proofs.lemmas.Iterator.Search.{all_from_yields_List}
use Rattle.model.specs.WellFormed.{is_instance}
use Rattle.jobs.specs.Jobs.{job_of}
use Rattle.formed.proofs.Tested.are_jobs.Goals as goal

pub returns-then-all : goal.returns-then-all
returns-then-all c =
    let sound = all_from_yields_List (λ k. is_instance (library_of c.args.self.now.library.now) c.args.self.now.made (job_of k)) _ _ c.all.result c.all.ensures.ran
    (YieldsList-from_slice c.args.self.now.jobs.now cc) (λ x b q k. search (rules, tests)) in
    rw (sym sound ∙ c.if-all.true) c.are_distinct.ensures
