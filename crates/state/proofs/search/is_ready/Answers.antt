-- `state::search::is_ready` meets its contract: no live instance serves the event, and there is room.
use borrow.Author.Rules.{rules}
use borrow.Author.Tests.{tests}
use mathlib.Core.Path.{sym, ◌∙◌}
use Rattle.std.specs.List.{list_any}
use Rattle.std.proofs.lemmas.Iterator.{YieldsList-from_slice}
use Rattle.std.proofs.lemmas.Iterator.Search.{any_from_yields_List}
use Rattle.model.specs.Live.{jobs_of, serves, is_pending, is_ready}
use Rattle.state.specs.View.{view_stack}
use Rattle.state.proofs.ViewLaws.{live-any}
use Rattle.state.proofs.search.is_ready.Goals as goal

pub returns-then-not-any : goal.returns-then-not-any
unfolding is_ready is_pending
returns-then-not-any c =
    let a = c.args in
    let served = any_from_yields_List (λ k. list_any (serves a.event.origin) (jobs_of (view_stack k))) _ _ c.any.result c.any.ensures.ran
    (YieldsList-from_slice a.stacks.now cc) (λ x b q k. search (rules, tests)) ∙ sym (live-any (serves a.event.origin) a.stacks.now) in
    rw (sym served ∙ c.if-not-any.true) c.has_room.ensures

pub returns-else-not-any : goal.returns-else-not-any
unfolding is_ready is_pending
returns-else-not-any c =
    let a = c.args in
    let served = any_from_yields_List (λ k. list_any (serves a.event.origin) (jobs_of (view_stack k))) _ _ c.any.result c.any.ensures.ran
    (YieldsList-from_slice a.stacks.now cc) (λ x b q k. search (rules, tests)) ∙ sym (live-any (serves a.event.origin) a.stacks.now) in
    rw (sym served ∙ c.if-not-any.false, c.if-not-any.false)
