-- The set of an event's failed plans as the bits of a number (document 01, "State", and the required form of the failed set).
use Rattle.std.specs.Prelude.{ℕ, zero, suc, ◌+◌, ◌/◌, ◌%◌, ◌^◌, Bool, cond, ltb, eqb}
use Rattle.std.specs.Int.Count.{ones}

-- the plan is in the set
unfoldable pub has : ℕ → ℕ → Bool
has set plan = eqb (set / 2 ^ plan % 2) 1

-- the set with one plan more
unfoldable pub insert : ℕ → ℕ → ℕ
insert set plan = cond (has set plan) set (set + 2 ^ plan)

-- plan numbers are below this one
abbrev pub most_plans : ℕ
most_plans = 32

-- the same for every number: one that no plan has changes nothing
unfoldable pub with_plan : ℕ → ℕ → ℕ
with_plan set plan = cond (ltb plan most_plans) (insert set plan) set

-- how many plans are in the set
unfoldable pub size_of : ℕ → ℕ
size_of set = ones set

-- how many of the numbers below n are in the set, counted one by one
unfoldable pub count_below : ℕ → ℕ → ℕ
count_below set zero = 0
count_below set (suc n) = count_below set n + cond (has set n) 1 0
