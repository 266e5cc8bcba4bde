-- `state::search::poster_place` meets its contract: the first stack that passes.
use borrow.Author.Rules.{rules}
use borrow.Author.Tests.{tests}
use mathlib.Core.Path.{sym, ◌∙◌}
use Rattle.std.proofs.lemmas.Iterator.{YieldsList-from_slice}
use Rattle.std.proofs.lemmas.Iterator.Search.{position_from_yields_List}
use Rattle.lists.proofs.PositionLaws.{found-mapped}
use Rattle.model.specs.Live.{same_origin, is_poster}
use Rattle.state.specs.View.{view_stack}
use Rattle.state.proofs.search.poster_place.Goals as goal

pub returns : goal.returns
unfolding same_origin
returns c =
    position_from_yields_List (λ k. is_poster c.args.origin (view_stack k)) _ _ c.position.result c.position.ensures.ran (YieldsList-from_slice c.args.stacks.now cc) (λ x b q k. search (rules, tests))
    ∙ sym (found-mapped view_stack (is_poster c.args.origin) c.args.stacks.now)
