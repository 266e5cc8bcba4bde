-- `state::search::has_sleeper` meets its contract: some stack passes.
use borrow.Author.Rules.{rules}
use borrow.Author.Tests.{tests}
use mathlib.Core.Path.{sym, ◌∙◌}
use Rattle.std.proofs.lemmas.Iterator.{YieldsList-from_slice}
use Rattle.std.proofs.lemmas.Iterator.Search.{any_from_yields_List}
use Rattle.lists.proofs.MapLaws.{any-mapped}
use Rattle.state.specs.Search.{is_asleep}
use Rattle.state.specs.View.{view_stack}
use Rattle.state.proofs.search.has_sleeper.Goals as goal

pub returns : goal.returns
returns c =
    any_from_yields_List (λ k. is_asleep (view_stack k)) _ _ c.any.result c.any.ensures.ran (YieldsList-from_slice c.args.stacks.now cc) (λ x b q k. search (rules, tests))
    ∙ sym (any-mapped view_stack is_asleep c.args.stacks.now)
