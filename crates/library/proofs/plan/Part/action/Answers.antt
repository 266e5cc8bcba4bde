-- `library::plan::Part::action` meets its contract: below the number it stands where the definition reads it.
use mathlib.Core.Path.{sym, ◌∙◌}
use Rattle.library.proofs.PartLaws.{action-past, action_is}
use Rattle.library.proofs.plan.Part.action.Goals as goal

pub returns-then-count-place : goal.returns-then-count-place
returns-then-count-place c = c.no_action.ensures ∙ sym (action-past c.args.self.now.bytes.now c.args.self.now.at c.args.place (rw c.count.ensures at c.if-count-place.true))

pub returns : goal.returns
returns c = c.action_at.ensures ∙ sym (action_is c.args.self.now.bytes.now c.args.self.now.at c.args.place (rw c.count.ensures at c.if-count-place.false))
