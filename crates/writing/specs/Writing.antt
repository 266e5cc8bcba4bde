-- What writing a text into a lent buffer makes of it (document 01, "Journal").
use Rattle.std.specs.Prelude.{ℕ, ◌+◌, ◌≤◌, ◌≡◌, List, length}
use Rattle.std.proofs.lemmas.List.Edits.{sets}

-- the text, of at most `most` bytes, stands from `at` up to `next`, and every other byte is as it was
pub record Wrote (most : ℕ) (before after : List ℕ) (at next : ℕ) (text : List ℕ) : Type 0 where
  pub bytes : after ≡ sets before at text
  pub past : next ≡ at + length text
  pub within : next ≤ at + most
