-- The line so far, as it is held between chunks (document 01, "Journal"): its bytes, or that it is too long to be read.
use Rattle.std.specs.Prelude.{ℕ, ◌≡◌, cond, List, ◌++◌, leb, length, take, Option, None, Some}
use Rattle.literal.specs.Match.{and_then}
use Rattle.model.specs.State.{Call}
use Rattle.reading.specs.Call.{most_line, call_of}
use Rattle.stream.specs.declared.Carry.{Carry}

-- a line that is too long to be read is not kept
unfoldable pub kept : List ℕ → Option (List ℕ)
kept line = cond (leb (length line) most_line) (Some line) None

-- what a carry holds; none: a line that is too long
unfoldable pub begun : Carry → Option (List ℕ)
begun carry = cond (leb carry.count most_line) (Some (take carry.count carry.bytes)) None

-- the carry stands for this line so far
abbrev pub Holds : Carry → List ℕ → Type 0
Holds carry line = begun carry ≡ kept line

-- the line so far with further bytes
abbrev pub more : Option (List ℕ) → List ℕ → Option (List ℕ)
more held bytes = and_then held (λ line. kept (line ++ bytes))

-- what the line says where it ends here
abbrev pub said : Option (List ℕ) → Option Call
said held = and_then held call_of
