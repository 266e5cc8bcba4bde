-- A list of calls from a state, each on the state that the one before it returned or left (document 01, demand 3).
use Rattle.std.specs.Prelude.{◌≡◌, List, [], ◌∷◌}
use Rattle.library.specs.Plan.{Library}
use Rattle.model.specs.State.{AgentState, Call, Result, Reply}
use Rattle.model.specs.Calls.{call}

-- a call, its result, and the state after it
pub record Entry : Type 0 where
  pub call : Call
  pub result : Result
  pub state : AgentState

-- what a call's reply enters
abbrev pub entry : Call → Reply → Entry
entry c r = record { call = c; result = r.result; state = r.state }

-- the entries of a list of calls
unfoldable pub run : Library → AgentState → List Call → List Entry
run library s [] = []
run library s (c ∷ calls) = entry c (call library s c) ∷ run library (call library s c).state calls

-- the state after a list of entries
unfoldable pub final_of : AgentState → List Entry → AgentState
final_of s [] = s
final_of s (e ∷ entries) = final_of e.state entries

-- entries each of which is what its call gives on the state before it
abbrev pub IsChain : Library → AgentState → List Entry → Type 0
IsChain library s [] = Unit {0}
IsChain library s (e ∷ entries) = (e ≡ entry e.call (call library s e.call)) × IsChain library e.state entries
