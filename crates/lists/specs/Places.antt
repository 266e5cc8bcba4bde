-- The first element that passes a test, with its place; a list with that element changed.
use Rattle.std.specs.Prelude.{ℕ, Bool, List, set, slice_get, Option, None, Some}
use Rattle.lists.specs.Search.{position}

-- an element and its place
pub record Placed (A : Type 0) : Type 0 where
  pub place : ℕ
  pub it : A

module _ {A : Type 0} where
  abbrev pub placed_at : ℕ → Option A → Option (Placed A)
  placed_at i None = None
  placed_at i (Some x) = Some (record { place = i; it = x })

  -- the first element that passes, with its place; none where none passes
  unfoldable pub first : (A → Bool) → List A → Option (Placed A)
  first test xs = placed_at (position test xs) (slice_get xs (position test xs))

  -- the list with that element changed; as it is where there is none
  unfoldable pub change_at : (A → A) → List A → Option (Placed A) → List A
  change_at change xs None = xs
  change_at change xs (Some p) = set xs p.place (change p.it)
