-- Chains of contracts: calls and answers in which each answer stands in the relation that its call's contract ensures
-- to the agent that the one before returned or left (the demands, 3).
-- So what is said of a chain is said of the code, by its contracts alone.
use Rattle.std.specs.Prelude.{List, [], ◌∷◌, map}
use Rattle.model.specs.State.{Call, view_result}
use Rattle.model.specs.Run.{Entry}
use Rattle.state.specs.View.{view_state}
use Rattle.load.specs.declared.Agent.{Agent}
use Rattle.agent.specs.declared.Replied.{Replied}
use Rattle.agent.specs.Calls.{Calls}

-- a call and what it gave
pub record Link : Type 0 where
  pub call : Call
  pub given : Replied

-- from an agent, by calls and answers, to the agent after them
pub data Chain : Agent → List Link → Agent → Type 0 where
  start : {a : Agent} → Chain a [] a
  then : {a b : Agent} {links : List Link} (link : Link) → Calls a link.call link.given → Chain link.given.agent links b
      → Chain a (link ∷ links) b

-- what a call and its answer mean: the call, its result, and the state after it
abbrev pub entry_of : Link → Entry
entry_of link = record { call = link.call; result = view_result link.given.result; state = view_state link.given.agent.state }

abbrev pub entries_of : List Link → List Entry
entries_of links = map entry_of links

-- the calls alone
abbrev pub calls_of : List Link → List Call
calls_of links = map (λ (link : Link). link.call) links
