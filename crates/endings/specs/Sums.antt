-- Over all lengths together: how many lists succeed and fail, and how many ends and inner states a body has (document 02, request 10).
use Rattle.std.specs.Prelude.{◌+◌, Bool, true, false, not, List, [], ◌∷◌, map}
use Rattle.lists.specs.Counts.{total, count}
use Rattle.library.specs.declared.Branch.{Branch}
use Rattle.accepted.specs.Rules.{numbers}
use Rattle.endings.specs.declared.Counts.{Counts}
use Rattle.endings.specs.Answers.{most_answers, both_of, endings}

abbrev pub summed : List Counts → Counts
summed counts = both_of (total (λ c. c.succeeded) counts) (total (λ c. c.failed) counts)

-- over every length from 0 to 15
abbrev pub all_endings : List (List Branch) → Counts
all_endings states = summed (map (λ n. endings states 0 0 n) (numbers (most_answers + 1) 0))

module _ {A : Type 0} where
  -- a state without branches
  abbrev pub is_end : List A → Bool
  is_end [] = true
  is_end (branch ∷ branches) = false

  -- how many states are ends, and how many are not
  abbrev pub ends_of : List (List A) → Counts
  ends_of states = both_of (count is_end states) (count (λ branches. not (is_end branches)) states)
