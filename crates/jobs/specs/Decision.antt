-- What the code's decision means: the model's Move (document 01, "Cycle", 1 to 4).
use Rattle.model.specs.Turn.{Move, fails, succeeds, tries}
use Rattle.jobs.specs.declared.decision.Decision.{Decision}
use Rattle.jobs.specs.declared.decision.Decision.TheVariants.{Fail, Succeed, Attempt}

abbrev pub view_decision : Decision → Move
view_decision Fail = fails
view_decision Succeed = succeeds
view_decision (Attempt b) = tries b
