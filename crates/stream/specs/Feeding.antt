-- An input that comes in chunks (document 01, "Journal"): answers, each of which its contract ensures of the carry and the place before it.
use Rattle.std.specs.Prelude.{ℕ, ◌≡◌, List, [], ◌∷◌, drop, Option, None, Some}
use Rattle.lists.specs.Counts.{each}
use Rattle.model.specs.State.{Call}
use Rattle.reading.specs.declared.Spoken.{Spoken}
use Rattle.reading.specs.Spoken.{meaning}
use Rattle.stream.specs.declared.Carry.{Carry}
use Rattle.stream.specs.declared.Line.{Line}
use Rattle.stream.specs.Carried.{begun, more}
use Rattle.stream.specs.Calls.{at_end, next_line, shown, shown_last}

abbrev pub joined : List (List ℕ) → List ℕ
joined chunks = each (λ chunk. chunk) chunks

-- from a carry and a place in a chunk, with the chunks to come, to the calls that come out
pub data Feeding : Carry → List ℕ → ℕ → List (List ℕ) → List (Option Call) → Type 0 where
  -- `next_line` tells a line: its call comes out, and the next line begins
  ends : {carry fresh : Carry} {chunk : List ℕ} {at : ℕ} {chunks : List (List ℕ)} {calls : List (Option Call)}
      (line : Line)
      → shown (Some line) ≡ next_line chunk at (begun carry) → begun fresh ≡ Some []
      → Feeding fresh chunk line.at chunks calls → Feeding carry chunk at chunks (meaning line.call ∷ calls)
  -- it tells none, `carried` holds the line so far, and another chunk comes
  further : {carry held : Carry} {chunk another : List ℕ} {at : ℕ} {chunks : List (List ℕ)} {calls : List (Option Call)}
      → shown None ≡ next_line chunk at (begun carry) → begun held ≡ more (begun carry) (drop at chunk)
      → Feeding held another 0 chunks calls → Feeding carry chunk at (another ∷ chunks) calls
  -- it tells none, and the input is at its end: what `last_line` tells comes out
  stops : {carry : Carry} {chunk : List ℕ} {at : ℕ}
      (held : Carry) (last : Option (Option Spoken))
      → shown None ≡ next_line chunk at (begun carry) → begun held ≡ more (begun carry) (drop at chunk)
      → shown_last last ≡ at_end (begun held) → Feeding carry chunk at [] (shown_last last)
