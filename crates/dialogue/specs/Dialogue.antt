-- A turn of the dialogue (document 01, "Journal"): what a read gave is answered from the place reached on. A read of no bytes is the
-- input's end, which ends a line that has begun.
use Rattle.std.specs.Prelude.{ℕ, ◌+◌, ◌≡◌, Bool, true, false, List, [], ◌∷◌, leb, eqb, length, drop, Option, Some}
use Rattle.model.specs.State.{Call}
use Rattle.printing.specs.LineText.{newline}
use Rattle.stream.specs.Carried.{begun}
use Rattle.stream.specs.Calls.{at_end}
use Rattle.load.specs.declared.Agent.{Agent}
use Rattle.agent.specs.declared.feed.Fed.{Fed}
use Rattle.agent.specs.Feed.{Feeds}
use Rattle.dialogue.specs.declared.Dialogue.{Dialogue}
use Rattle.dialogue.specs.declared.Next.{Next}
use Rattle.dialogue.specs.declared.Next.TheVariants.{Read, Answer, End}

-- ---- Where it stands

-- nothing is said to the agent yet
pub record Begins (a : Agent) (r : Dialogue) : Type 0 where
  pub agent : r.agent ≡ a
  pub silent : begun r.carry ≡ Some []
  pub at : r.at ≡ 0
  pub wrote : r.wrote ≡ 0
  pub next : r.next ≡ Read

-- another piece is read, and none of it used: what the program around it does on a read
abbrev pub heard : Dialogue → Dialogue
heard d = record { agent = d.agent; carry = d.carry; at = 0; wrote = d.wrote; next = Answer }

-- ---- A turn

-- a read of no bytes is the input's end
abbrev pub is_end : List ℕ → Bool
is_end piece = eqb (length piece) 0

-- what the input's end adds: a newline where a line has begun, else nothing
unfoldable pub closing : List (Option Call) → List ℕ
closing [] = []
closing (call ∷ more) = newline ∷ []

-- what is fed to the agent, by whether the input is at its end: what it adds, or what is left of the piece
unfoldable pub chunk_by : Bool → Dialogue → List ℕ → List ℕ
chunk_by true d piece = closing (at_end (begun d.carry))
chunk_by false d piece = drop d.at piece

-- what is next after a feed of a piece, by whether the piece is used up: another one is to be read, or the rest of this one answered
unfoldable pub next_in : Bool → Next
next_in true = Read
next_in false = Answer

-- and at the input's end, by whether all that it added is read: the end is answered, or is read once more
unfoldable pub next_at_end : Bool → Next
next_at_end true = End
next_at_end false = Read

-- the dialogue after a feed
unfoldable pub after_by : Bool → Dialogue → List ℕ → Fed → Dialogue
after_by true d piece fed = record {
  agent = fed.agent;
  carry = fed.carry;
  at = d.at;
  wrote = fed.wrote;
  next = next_at_end (eqb fed.read (length (chunk_by true d piece)));
}
after_by false d piece fed = record {
  agent = fed.agent;
  carry = fed.carry;
  at = d.at + fed.read;
  wrote = fed.wrote;
  next = next_in (leb (length piece) (d.at + fed.read));
}

-- a turn is one feed, by the contract of `feed`
pub record TurnsBy (end : Bool) (d : Dialogue) (piece before after : List ℕ) (r : Dialogue) : Type 0 where
  pub fed : Fed
  pub feeds : Feeds d.agent d.carry (chunk_by end d piece) before after fed
  pub gives : r ≡ after_by end d piece fed

abbrev pub Turns : Dialogue → List ℕ → List ℕ → List ℕ → Dialogue → Type 0
Turns d piece = TurnsBy (is_end piece) d piece
