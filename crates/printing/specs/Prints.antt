-- What printing a result or two numbers does to a lent buffer (document 01, "Journal").
use Rattle.std.specs.Prelude.{ℕ, ◌+◌, ◌≤◌, ◌<◌, ◌≡◌, true, List, length}
use Rattle.writing.specs.Writing.{Wrote}
use Rattle.model.specs.State.{Result}
use Rattle.printing.specs.LineText.{result_text, most_line, fits, pair_text, most_pair}

-- what printing a result does to the buffer, and the place past what was written
pub record Prints (before after : List ℕ) (at next : ℕ) (result : Result) : Type 0 where
  -- where there is room for the longest line, the result's text is written
  pub line : at + most_line ≤ length before → Wrote most_line before after at next (result_text result)
  -- and its literals have heads of 16 bits, so that no other result has this text
  pub fit : at + most_line ≤ length before → fits result ≡ true
  -- else nothing is written
  pub unwritten : length before < at + most_line → after ≡ before
  pub unmoved : length before < at + most_line → next ≡ at

-- what printing two numbers does to the buffer, and the place past what was written
pub record PrintsPair (before after : List ℕ) (at next first second : ℕ) : Type 0 where
  -- where there is room for the longest such line, theirs is written
  pub line : at + most_pair ≤ length before → Wrote most_pair before after at next (pair_text first second)
  -- else nothing is
  pub unwritten : length before < at + most_pair → after ≡ before
  pub unmoved : length before < at + most_pair → next ≡ at
