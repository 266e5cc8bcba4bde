-- A list in the first `count` places of a longer one, as an array with a count holds it. A count past the end means all of it.
use Rattle.std.specs.Prelude.{ℕ, min, List, length}

-- how many places are in use
abbrev pub in_use : {A : Type 0} → ℕ → List A → ℕ
in_use count xs = min count (length xs)
