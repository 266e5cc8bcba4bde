-- A ledger's own copy of the belief table, kept beside an agent by the change call
-- (document 01, "The three calls", Change call and the paragraph on demand 3).
use Rattle.std.specs.Prelude.{◌≡◌, Bool, List, [], ◌∷◌, Result, Ok, Err, is_ok}
use Rattle.refusals.specs.declared.Refusal.{Refusal}
use Rattle.lists.specs.Counts.{each}
use Rattle.belief.specs.declared.Beliefs.{Beliefs}
use Rattle.belief.specs.declared.Change.{Change}
use Rattle.belief.specs.Beliefs.{view}
use Rattle.model.specs.State.{view_result}
use Rattle.load.specs.declared.Agent.{Agent}
use Rattle.agent.specs.Chain.{Link}
use Rattle.change.specs.Changes.{changed}

-- the changes that a call's result carries
abbrev pub changes_of : Link → List Change
changes_of link = (view_result link.given.result).changes

-- the changes that the results of a chain of calls report, in order
abbrev pub reported : List Link → List Change
reported links = each changes_of links

-- the table after a change call: a refused one leaves it as it was
abbrev pub after : Beliefs → Result Beliefs Refusal → Beliefs
after table (Ok changed) = changed
after table (Err e) = table

-- a table kept call by call: after each call, what the change call's contract says of the changes of its result
pub data Copied : Beliefs → List Link → List (Result Beliefs Refusal) → Beliefs → Type 0 where
  start : {table : Beliefs} → Copied table [] [] table
  then : {table last : Beliefs} {links : List Link} {answers : List (Result Beliefs Refusal)} (link : Link)
      (answer : Result Beliefs Refusal) → answer ≡ changed table (changes_of link) → Copied (after table answer) links answers last
      → Copied table (link ∷ links) (answer ∷ answers) last

-- the change call was not refused
abbrev pub is_accepted : Result Beliefs Refusal → Bool
is_accepted answer = is_ok answer

-- the table has the agent's beliefs ("the tables are equal as lists")
abbrev pub Agrees : Beliefs → Agent → Type 0
Agrees table agent = view table ≡ view agent.state.beliefs
