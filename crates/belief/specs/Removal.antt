-- What a removal leaves at every place of the array, those past the count too (document 01, "Literals and matching").
use Rattle.std.specs.Prelude.{ℕ, suc, ◌+◌, ◌≤◌, ◌<◌, ◌≡◌, length, get_or}
use Rattle.literal.specs.declared.Literal.{Literal}
use Rattle.belief.specs.declared.Beliefs.{Beliefs}
use Rattle.belief.specs.Beliefs.{size}

-- the second table is the first with its gap closed; a place that the array has not is read as d
pub record Closed (gap : ℕ) (b next : Beliefs) (d : Literal) : Type 0 where
  pub places : length next.items ≡ length b.items
  pub one_less : next.count + 1 ≡ size b
  -- before the gap as it was
  pub before : (j : ℕ) → j < gap → get_or next.items j d ≡ get_or b.items j d
  -- from the gap up to the new count the next one's literal
  pub within : (j : ℕ) → gap ≤ j → j < next.count → get_or next.items j d ≡ get_or b.items (suc j) d
  -- from the new count on as it was
  pub behind : (j : ℕ) → next.count ≤ j → get_or next.items j d ≡ get_or b.items j d
