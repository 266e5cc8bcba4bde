-- `agent::event::with_pushed` meets its contract: the stack has room.
use borrow.Author.Rules.{rules}
use mathlib.Core.Path.{◌≡◌, ap, ◌∙◌}
use lib.ListN.{length}
use Rattle.lists.proofs.ArrayLaws.{length-mapped}
use Rattle.state.specs.View.{view_stack}
use Rattle.state.proofs.StackLaws.{push-view}
use Rattle.agent.proofs.EventLaws.{push_depth}
use Rattle.agent.proofs.event.with_pushed.Goals as goal

pub returns : goal.returns
returns c =
    let a = c.args in
    let e = c.pushed.ensures in
    let len : length a.stack.below ≡ 7 = search (rules, length-mapped) in
    let room = c.requires in
    (ap view_stack e ∙ push-view a.stack a.x len room, push_depth a.stack a.x c.pushed.result room e)
