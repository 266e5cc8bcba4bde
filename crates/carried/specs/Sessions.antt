-- A journal over several shifts (document 02, request 3; document 01, "Journal"). The input comes in parts, each of which ends where a line
-- ends. Each part is a session of its own (journal/specs/Session), on the agent restored from what was saved at the end of the one before.
use Rattle.std.specs.Prelude.{ℕ, ◌≡◌, List, [], ◌++◌, Option, Some}
use Rattle.model.specs.State.{Call}
use Rattle.stream.specs.declared.Carry.{Carry}
use Rattle.stream.specs.Carried.{begun}
use Rattle.stream.specs.Calls.{line_after}
use Rattle.load.specs.declared.Agent.{Agent}
use Rattle.agent.specs.Feed.{Journal}
use Rattle.journal.specs.Session.{Session}
use Rattle.carried.specs.Alike.{Alike}
use Rattle.carried.specs.Shifts.{CarriedOver}

-- what lines say, run by the calls of one agent without any save or restore, to an agent that is alike another
pub record UnbrokenJournal (a : Agent) (calls : List (Option Call)) (text : List ℕ) (b : Agent) : Type 0 where
  pub end : Agent
  pub journal : Journal a calls text end
  pub alike : Alike end b

-- no line has begun behind these bytes: there are none, or the last is a newline
abbrev pub EndsLine : List ℕ → Type 0
EndsLine part = line_after (Some []) part ≡ Some []

-- from an agent, by an input and the output that is written for it, to the last agent
pub data Sessions : Agent → List ℕ → List ℕ → Agent → Type 0 where
  last : {a b : Agent} {carry : Carry} {input output : List ℕ} → begun carry ≡ Some [] → Session a carry input output b
      → Sessions a input output b
  carried : {a b c : Agent} {carry : Carry} {input output : List ℕ} (part written : List ℕ) → EndsLine part
      → begun carry ≡ Some [] → Session a carry part written b → (restored : Agent) → CarriedOver b restored
      → Sessions restored input output c → Sessions a (part ++ input) (written ++ output) c
