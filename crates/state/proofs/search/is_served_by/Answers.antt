-- `state::search::is_served_by` meets its contract: the bottom serves the stack's external event, the others the goal of the one below.
use borrow.Author.Rules.{rules}
use mathlib.Core.Path.{◌≡◌, sym, ◌∙◌}
use lib.ListN.{length}
use Rattle.lists.proofs.ArrayLaws.{length-mapped}
use Rattle.model.specs.declared.Origin.TheVariants.{External}
use Rattle.model.specs.Live.{same_origin}
use Rattle.state.proofs.SearchSteps.{served_bottom, served_above}
use Rattle.state.proofs.search.is_served_by.Goals as goal

pub returns-then-eq : goal.returns-then-eq
unfolding same_origin
returns-then-eq c =
    let a = c.args in
    let len : length a.stack.now.below ≡ 7 = search (rules, length-mapped) in
    let same : c.eq.result ≡ same_origin a.origin (External a.stack.now.external) = search rules in
    c.if-eq.true ∙ served_bottom a.origin a.stack.now len (sym same ∙ c.if-eq.true)

pub returns-else-eq : goal.returns-else-eq
unfolding same_origin
returns-else-eq c =
    let a = c.args in
    let len : length a.stack.now.below ≡ 7 = search (rules, length-mapped) in
    let same : c.eq.result ≡ same_origin a.origin (External a.stack.now.external) = search rules in
    c.has_posted.ensures ∙ served_above a.origin a.stack.now len (sym same ∙ c.if-eq.false)
