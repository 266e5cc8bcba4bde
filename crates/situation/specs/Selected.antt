-- The choice of a plan as the code answers it (document 01, "Cycle", and the required form of the plan search).
use Rattle.std.specs.Prelude.{Option, None, Some}
use Rattle.literal.specs.Environment.{empty_env}
use Rattle.situation.specs.declared.Selected.{Selected}
use Rattle.situation.specs.Applicable.{Chosen}

-- the answer that states a choice: where no plan applies, its environment is the empty one
abbrev pub selected : Option Chosen → Selected
selected None = record { choice = None; env = empty_env }
selected (Some chosen) = record { choice = Some chosen.plan; env = chosen.env }
