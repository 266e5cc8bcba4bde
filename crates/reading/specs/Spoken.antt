-- What the code answers for a line, as one of the model's calls (document 01, "Journal").
use Rattle.std.specs.Prelude.{Option, None, Some}
use Rattle.model.specs.State.{Call, report, cycle, outcome}
use Rattle.reading.specs.declared.Spoken.{Spoken}
use Rattle.reading.specs.declared.Spoken.TheVariants.{Report, Cycle, Outcome}

abbrev pub meaning : Option Spoken → Option Call
meaning None = None
meaning (Some (Report kind literal)) = Some (report kind literal)
meaning (Some Cycle) = Some cycle
meaning (Some (Outcome id worked)) = Some (outcome id worked)
