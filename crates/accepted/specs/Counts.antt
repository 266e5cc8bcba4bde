-- How often the branches of a body lead to each state, counted in one pass: two stands for all above one.
-- Private vocabulary: no public contract rests on this file.
use Rattle.std.specs.Prelude.{ℕ, ◌+◌, cond, List, [], ◌∷◌, get_or, set, ltb}
use Rattle.library.specs.declared.Branch.{Branch}

-- one time more, up to two
abbrev pub more : ℕ → ℕ
more times = cond (ltb times 2) (times + 1) times

-- the counts after one more branch to a state; a state past their end changes nothing
unfoldable pub entered : List ℕ → ℕ → List ℕ
entered counts state = set counts state (more (get_or counts state 0))

-- after the branches of a state
unfoldable pub counted_in : List ℕ → List Branch → List ℕ
counted_in counts [] = counts
counted_in counts (branch ∷ rest) = counted_in (entered counts branch.next) rest

-- after those of all the states
unfoldable pub counted : List ℕ → List (List Branch) → List ℕ
counted counts [] = counts
counted counts (branches ∷ rest) = counted (counted_in counts branches) rest
