-- A list of changes, one taken off after the other.
use Prim.Native.Nat.{ℕ, ◌+◌, ◌<◌, ◌≤◌}
use native.Mathlib.Numerals.{add-one}
use mathlib.Core.Path.{◌≡◌}
use mathlib.Core.Bool.{false}
use mathlib.Core.List.{List}
use lib.ListN.{length, get_or, drop, drop_of_length-le}
use lib.Seq.{drop-cons}
use Rattle.literal.specs.Literal.{is_ground}
use Rattle.belief.specs.declared.Beliefs.{Beliefs}
use Rattle.belief.specs.declared.Change.{Change}
use Rattle.change.specs.Changes.{step_by, step, steps}

-- what stands where no change is
abbrev pub no_change : Change
no_change = record { removes = false; literal = record { head = 0; first = 0; second = 0; third = 0 } }

-- one change is taken off the list
pub steps_next : (changes : List Change) (i : ℕ) (table next : Beliefs) → i < length changes
    → (let c = get_or changes i no_change in next ≡ step_by (is_ground c.literal) c.removes table c.literal)
    → steps next (drop (i + 1) changes) ≡ steps table (drop i changes)
unfolding step steps
steps_next changes i table next h e = rw (e, add-one, drop-cons changes i no_change)

-- none is left
pub steps_done : (changes : List Change) (i : ℕ) (table : Beliefs) → length changes ≤ i → steps table (drop i changes) ≡ table
unfolding steps
steps_done changes i table h = rw (drop_of_length-le changes h)
