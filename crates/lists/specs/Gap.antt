-- A list without one of its elements, and an array whose gap is closed in place.
use Rattle.std.specs.Prelude.{ℕ, suc, ◌-◌, List, ◌++◌, take, drop}

module _ {A : Type 0} where
  -- the others, in their order; the whole list where it has no place i
  abbrev pub remove_at : ℕ → List A → List A
  remove_at i xs = take i xs ++ drop (suc i) xs

  -- before i as it was, from i up to n the next one's element, from n on as it was
  abbrev pub close_gap : ℕ → ℕ → List A → List A
  close_gap i n xs = (take i xs ++ take (n - i) (drop (suc i) xs)) ++ drop n xs
