-- `accepted::refusal` meets its contract: where the contents fit there are few beliefs.
use mathlib.Core.Path.{sym, ◌∙◌}
use Rattle.accepted.proofs.StageLaws.{contents_small}
use Rattle.accepted.proofs.refusal.Goals as goal

pub beliefs_ok-requires : goal.beliefs_ok-requires
beliefs_ok-requires c = (contents_small c.args.library.now (sym c.contents_fit.ensures ∙ c.if-not-contents_fit.false)).1
