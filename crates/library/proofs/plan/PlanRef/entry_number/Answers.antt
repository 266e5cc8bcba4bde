-- `library::plan::PlanRef::entry_number` meets its contract: an entry past the end reads as 0.
use mathlib.Core.Path.{sym}
use Rattle.library.proofs.PartLaws.{entry_past}
use Rattle.library.proofs.plan.PlanRef.entry_number.Goals as goal

pub returns-then-self : goal.returns-then-self
returns-then-self c = let plan = c.args.self.now in sym (entry_past plan.library.now plan.number c.args.place c.if-self.true)
