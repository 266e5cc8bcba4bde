-- `steps::report::Report::believed` meets its contract: told events change nothing, the others change one literal.
use mathlib.Core.Path.{sym, ◌∙◌}
use Rattle.steps.proofs.ReportLaws.{told_alters}
use Rattle.steps.proofs.report.Report.believed.Goals as goal

pub returns : goal.returns
returns c = told_alters _ _ _ _ (sym c.is_change.ensures ∙ c.if-is_change.false) c.untouched.ensures
