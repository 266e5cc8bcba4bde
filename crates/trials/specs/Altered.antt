-- What a list of actions and a change make of the belief table (document 01, "The three calls": effective changes, action lists).
use Rattle.std.specs.Prelude.{min, ◌+◌, ◌≤◌, ◌≡◌, true, false, cond, List, [], ◌∷◌, ◌++◌, take, set, replicate}
use Rattle.literal.specs.declared.Literal.{Literal}
use Rattle.literal.specs.Literal.{opposite}
use Rattle.belief.specs.declared.Beliefs.{Beliefs}
use Rattle.belief.specs.declared.Change.{Change}
use Rattle.belief.specs.declared.Applied.{Applied}
use Rattle.belief.specs.Beliefs.{most_beliefs, view, replay}
use Rattle.belief.specs.Table.{fitted, changed, cleared}
use Rattle.library.specs.declared.Action.{Action}
use Rattle.library.specs.Plan.{Plan, no_literal}
use Rattle.model.specs.State.{most_changes}
use Rattle.model.specs.Changes.{when, effective}
use Rattle.model.specs.Try.{is_possible}
use Rattle.trials.specs.declared.changes.Altered.{Altered}
use Rattle.trials.specs.declared.changes.Ending.{Ending}
use Rattle.trials.specs.declared.changes.Ending.TheVariants.{Success, Failure}

-- what stands where no change is
abbrev pub no_change : Change
no_change = record { removes = false; literal = no_literal }

-- the changes in use
abbrev pub changes_of : Altered → List Change
changes_of a = take (min a.count most_changes) a.changes

-- a table with no change yet
abbrev pub untouched : Beliefs → Altered
untouched beliefs = record { table = beliefs; changes = replicate most_changes no_change; count = 0 }

-- one change more is noted
abbrev pub noted_one : Altered → Change → Altered
noted_one t c = record { table = t.table; changes = set t.changes t.count c; count = t.count + 1 }

-- the table is that of the beliefs after the changes, and those are the changes noted; a count that fits still does,
-- and there are no more changes than places for them
pub record Alters (beliefs : Beliefs) (changes : List Change) (a : Altered) : Type 0 where
  pub noted : changes_of a ≡ changes
  pub table : view a.table ≡ replay (view beliefs) changes
  pub few : beliefs.count ≤ most_beliefs → a.table.count ≤ most_beliefs
  pub count : a.count ≤ most_changes

-- both counts are within their arrays
pub record Within (a : Altered) : Type 0 where
  pub table : a.table.count ≤ most_beliefs
  pub changes : a.count ≤ most_changes

-- the same, from a table with some changes already
pub record Extends (t : Altered) (changes : List Change) (a : Altered) : Type 0 where
  pub noted : changes_of a ≡ changes_of t ++ changes
  pub table : view a.table ≡ replay (view t.table) changes
  pub few : t.table.count ≤ most_beliefs → a.table.count ≤ most_beliefs
  pub count : a.count ≤ t.count + 2

-- the removal of a literal
abbrev pub removal : Literal → Change
removal l = record { removes = true; literal = l }

-- the changes that an add or a removal made: the change itself, behind that of the opposite
abbrev pub made_by : Change → Applied → List Change
made_by c r = cond (changed r.effect) (when (cleared r.effect) (removal (opposite c.literal)) ++ (c ∷ [])) []

-- one change: whether it was possible, whether it took effect, and the table after it
pub record Changed (beliefs : Beliefs) (c : Change) (r : Applied) : Type 0 where
  pub possible : fitted r.effect ≡ is_possible (view beliefs) c
  pub effect : made_by c r ≡ effective (view beliefs) c
  pub table : view r.table ≡ replay (view beliefs) (effective (view beliefs) c)
  pub few : beliefs.count ≤ most_beliefs → r.table.count ≤ most_beliefs

-- a plan's success or failure list; no accepted library has a longer one than there is room for changes
abbrev pub list_of : Ending → Plan → List Action
list_of Success plan = plan.success
list_of Failure plan = plan.failure
