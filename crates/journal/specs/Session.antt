-- A whole input (document 01, "Journal"): feeds, each of which its contract ensures of the agent and the line so far before it.
-- So what is said of a session is said of the code, by its contracts alone.
use Rattle.std.specs.Prelude.{ℕ, ◌≡◌, List, [], ◌∷◌, ◌++◌, take, drop, Option, None, Some}
use Rattle.reading.specs.declared.Spoken.{Spoken}
use Rattle.stream.specs.declared.Carry.{Carry}
use Rattle.stream.specs.Carried.{begun}
use Rattle.stream.specs.Calls.{at_end, shown_last}
use Rattle.printing.specs.LineText.{newline}
use Rattle.load.specs.declared.Agent.{Agent}
use Rattle.agent.specs.declared.feed.Fed.{Fed}
use Rattle.agent.specs.Feed.{Feeds}

-- `feed` on a piece of the input, and the bytes that it wrote: the first ones of its output
pub record Writes (a : Agent) (carry : Carry) (piece written : List ℕ) (r : Fed) : Type 0 where
  pub before : List ℕ
  pub after : List ℕ
  pub feeds : Feeds a carry piece before after r
  pub first : written ≡ take r.wrote after

-- from an agent and the line so far, by the input that is left and the output that is written for it, to the last agent
pub data Session : Agent → Carry → List ℕ → List ℕ → Agent → Type 0 where
  -- a piece of the input is fed; what is left of it goes before the rest
  feeds : {a b : Agent} {carry : Carry} {output : List ℕ} (piece rest written : List ℕ) (r : Fed) → Writes a carry piece written r
      → Session r.agent r.carry (drop r.read piece ++ rest) output b → Session a carry (piece ++ rest) (written ++ output) b
  -- the input is at its end, and `last_line` tells that nothing has begun
  stops : {a : Agent} {carry : Carry} → shown_last None ≡ at_end (begun carry) → Session a carry [] [] a
  -- or it tells a line: a newline is fed, which ends it
  ends : {a : Agent} {carry : Carry} (call : Option Spoken) → shown_last (Some call) ≡ at_end (begun carry)
      → (written : List ℕ) (r : Fed) → Writes a carry (newline ∷ []) written r → r.read ≡ 1
      → Session a carry [] written r.agent
