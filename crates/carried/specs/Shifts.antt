-- Carrying a shift over (document 02, request 3): calls and answers, as in a chain (agent/specs/Chain), where before and after every call
-- the agent may be saved and the restored one goes on, any number of times.
-- So what is said of shifts is said of the code, by the contracts of the calls, of save and of restore alone.
use Rattle.std.specs.Prelude.{ℕ, ◌≡◌, List, [], ◌∷◌, take, Ok}
use Rattle.load.specs.declared.Agent.{Agent}
use Rattle.image.specs.Saves.{Saves}
use Rattle.image.specs.Restores.{Restores}
use Rattle.agent.specs.Calls.{Calls}
use Rattle.agent.specs.Chain.{Link, Chain, entries_of}
use Rattle.carried.specs.Alike.{Alike}

-- an agent is saved, in a buffer of any bytes that has room, and another is restored from the bytes that were written and no others
pub record CarriedOver (a restored : Agent) : Type 0 where
  pub before : List ℕ
  pub after : List ℕ
  pub size : ℕ
  pub saves : Saves a before after (Ok size)
  pub restores : Restores (take size after) (Ok restored)

-- from an agent, by calls and answers with saves and restores among them, to the agent after them
pub data Shifts : Agent → List Link → Agent → Type 0 where
  start : {a : Agent} → Shifts a [] a
  then : {a b : Agent} {links : List Link} (link : Link) → Calls a link.call link.given → Shifts link.given.agent links b
      → Shifts a (link ∷ links) b
  carried : {a b : Agent} {links : List Link} (restored : Agent) → CarriedOver a restored → Shifts restored links b
      → Shifts a links b

-- the same calls from the same agent without any save or restore: they give the same results and states, and an agent that is alike
pub record Unbroken (a : Agent) (links : List Link) (b : Agent) : Type 0 where
  pub unbroken : List Link
  pub last : Agent
  pub chain : Chain a unbroken last
  pub entries : entries_of unbroken ≡ entries_of links
  pub alike : Alike last b
