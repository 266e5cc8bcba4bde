-- What the change call gives: the whole table, every place of its array (document 01, "The three calls", Change call).
use Rattle.std.specs.Prelude.{Bool, true, false, Result, Ok, Err}
use mathlib.Core.List.{List, foldl}
use Rattle.refusals.specs.declared.Refusal.{Refusal}
use Rattle.refusals.specs.declared.Refusal.TheVariants.{NotFormed}
use Rattle.literal.specs.declared.Literal.{Literal}
use Rattle.literal.specs.Literal.{is_ground}
use Rattle.belief.specs.declared.Beliefs.{Beliefs}
use Rattle.belief.specs.declared.Change.{Change}
use Rattle.belief.specs.Table.{add, remove, is_table}

-- one change, by whether its literal is ground and whether it removes. A literal that is not ground is passed over here;
-- an add of a held literal, or one to 64 beliefs that takes no opposite out, and a removal of an absent one leave the table as it is
-- (belief/specs/Table)
abbrev pub step_by : Bool → Bool → Beliefs → Literal → Beliefs
step_by false removes table l = table
step_by true true table l = (remove table l).table
step_by true false table l = (add table l).table

unfoldable pub step : Beliefs → Change → Beliefs
step table c = step_by (is_ground c.literal) c.removes table c.literal

-- a list of changes, in order
unfoldable pub steps : Beliefs → List Change → Beliefs
steps table changes = foldl step table changes

-- by whether the table keeps the rules for beliefs: one that breaks them is refused, and there is no table after it
abbrev pub changed_by : Bool → Beliefs → List Change → Result Beliefs Refusal
changed_by true table changes = Ok (steps table changes)
changed_by false table changes = Err NotFormed

-- what the change call gives
unfoldable pub changed : Beliefs → List Change → Result Beliefs Refusal
changed table changes = changed_by (is_table table) table changes
