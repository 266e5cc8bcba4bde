-- What an input says, line by line, from a line so far on (document 01, "Journal"); and what the code answers for a chunk.
use Rattle.std.specs.Prelude.{ℕ, ◌+◌, ◌-◌, cond, List, [], ◌∷◌, ltb, length, take, drop, Option, None, Some}
use Rattle.std.specs.List.{position_or_len}
use Rattle.model.specs.State.{Call}
use Rattle.reading.specs.Call.{call_of}
use Rattle.reading.specs.declared.Spoken.{Spoken}
use Rattle.reading.specs.Spoken.{meaning}
use Rattle.stream.specs.declared.Line.{Line}
use Rattle.stream.specs.Lines.{is_newline}
use Rattle.stream.specs.Carried.{more, said}

-- ---- The whole rest of an input

-- at the input's end a line that has begun is a line
abbrev pub at_end : Option (List ℕ) → List (Option Call)
at_end None = None ∷ []
at_end (Some []) = []
at_end (Some (b ∷ line)) = call_of (b ∷ line) ∷ []

-- a call, or none, for each line of the input that is left, the first of which has begun
abbrev pub calls_from : Option (List ℕ) → List ℕ → List (Option Call)
calls_from held [] = at_end held
calls_from held (b ∷ bytes) = cond (is_newline b) (said held ∷ calls_from (Some []) bytes) (calls_from (more held (b ∷ [])) bytes)

-- the line so far behind some bytes
abbrev pub line_after : Option (List ℕ) → List ℕ → Option (List ℕ)
line_after held [] = held
line_after held (b ∷ bytes) = cond (is_newline b) (line_after (Some []) bytes) (line_after (more held (b ∷ [])) bytes)

-- ---- A chunk of it, from a place on

-- where the line that stands there ends: at its newline, or with the chunk
abbrev pub line_end : List ℕ → ℕ → ℕ
line_end chunk at = at + position_or_len is_newline (drop at chunk)

-- the bytes from a place up to another
abbrev pub part : List ℕ → ℕ → ℕ → List ℕ
part chunk at stop = take (stop - at) (drop at chunk)

-- the call of a line that ended, and where the next one begins
pub record Ended : Type 0 where
  pub call : Option Call
  pub next : ℕ

abbrev pub ended_at : List ℕ → ℕ → ℕ → Option (List ℕ) → Ended
ended_at chunk at stop held = record { call = said (more held (part chunk at stop)); next = stop + 1 }

-- the line that ends in the chunk; none where the chunk is used up before
unfoldable pub next_line : List ℕ → ℕ → Option (List ℕ) → Option Ended
next_line chunk at held = cond (ltb (line_end chunk at) (length chunk)) (Some (ended_at chunk at (line_end chunk at) held)) None

-- ---- What the code answers

abbrev pub shown : Option Line → Option Ended
shown None = None
shown (Some line) = Some (record { call = meaning line.call; next = line.at })

abbrev pub shown_last : Option (Option Spoken) → List (Option Call)
shown_last None = []
shown_last (Some call) = meaning call ∷ []
