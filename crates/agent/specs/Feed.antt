-- A chunk of the journal: its lines, run one after the other (document 01, "Journal").
-- The public contract is Feeds. Private vocabulary, on which no public contract rests: refusal_for, Trusted, Responds, Runs, in_state
-- and Progress.
use Rattle.std.specs.Prelude.{ℕ, ◌+◌, ◌≤◌, ◌<◌, ◌≡◌, Bool, true, ◌⊎◌, List, [], ◌∷◌, ◌++◌, length, take, drop, Option, None, Some}
use Rattle.library.specs.Plan.{Library}
use Rattle.library.specs.Layout.{library_of}
use Rattle.model.specs.declared.Answer.TheVariants.{Refused}
use Rattle.model.specs.State.{most_changes, AgentState, Call, Result, Reply, view_result, refuse}
use Rattle.model.specs.Calls.{is_refusal, call_by}
use Rattle.state.specs.declared.State.{State}
use Rattle.state.specs.View.{view_state, counts_fit}
use Rattle.printing.specs.LineText.{result_text, most_line, fits}
use Rattle.writing.specs.Writing.{Wrote}
use Rattle.stream.specs.declared.Carry.{Carry}
use Rattle.stream.specs.Carried.{begun}
use Rattle.stream.specs.Calls.{calls_from, line_after}
use Rattle.steps.specs.declared.Acted.{Acted}
use Rattle.load.specs.declared.Agent.{Agent}
use Rattle.agent.specs.declared.Replied.{Replied}
use Rattle.agent.specs.declared.feed.Fed.{Fed}
use Rattle.steps.specs.View.{view_acted}
use Rattle.formed.specs.Formed.{WellFormedState}
use Rattle.agent.specs.Calls.{Calls}

-- ---- One line

-- the reply to what a line says, by whether the state is well formed: 0 where the line cannot be read
unfoldable pub respond_by : Bool → Library → AgentState → Option Call → Reply
respond_by formed library s None = refuse 0 s
respond_by formed library s (Some call) = call_by formed library s call

-- the result of a line that cannot be read
abbrev pub unreadable : Result
unreadable = record { answer = Refused 0; changes = [] }

-- what a line is refused with where the state is not well formed
abbrev pub refusal_for : Option Call → ℕ
refusal_for None = 0
refusal_for (Some call) = 10

-- where it is said that the state is well formed, it is
abbrev pub Trusted : Bool → List ℕ → State → Type 0
Trusted formed bytes s = formed ≡ true → WellFormedState bytes s

-- the state after a line, and its result
pub record Responds (bytes : List ℕ) (formed : Bool) (s : State) (call : Option Call) (r : Acted) : Type 0 where
  pub means : view_acted r ≡ respond_by formed (library_of bytes) (view_state s) call
  -- a refusal leaves every place of the state as it was
  pub refused : is_refusal r.result.answer ≡ true → r.state ≡ s
  -- every count stays within its array
  pub fit : formed ≡ true → counts_fit r.state ≡ true
  pub count : r.result.count ≤ most_changes

-- what lines say, run one after the other on a state: the text of the results, and the state after them
pub data Runs (bytes : List ℕ) (formed : Bool) (s : State) : List (Option Call) → List ℕ → State → Type 0 where
  none_yet : Runs bytes formed s [] [] s
  then : {calls : List (Option Call)} {text : List ℕ} {t : State} → Runs bytes formed s calls text t
      → (call : Option Call) (r : Acted) → Responds bytes formed t call r → fits (view_result r.result) ≡ true
      → Runs bytes formed s (calls ++ (call ∷ [])) (text ++ result_text (view_result r.result)) r.state

-- ---- An agent

-- the agent in another state
abbrev pub in_state : Agent → State → Agent
in_state a s = record { library = a.library; length = a.length; state = s }

-- what lines say, run one after the other on an agent by the contracts of its calls: the text of the results, and the agent after them
pub data Journal (a : Agent) : List (Option Call) → List ℕ → Agent → Type 0 where
  start : Journal a [] [] a
  -- a line that cannot be read changes nothing
  unread : {calls : List (Option Call)} {text : List ℕ} {b : Agent} → Journal a calls text b
      → Journal a (calls ++ (None ∷ [])) (text ++ result_text unreadable) b
  -- another is a call; no other result has the text of its result
  answered : {calls : List (Option Call)} {text : List ℕ} {b : Agent} → Journal a calls text b
      → (c : Call) (r : Replied) → Calls b c r → fits (view_result r.result) ≡ true
      → Journal a (calls ++ (Some c ∷ [])) (text ++ result_text (view_result r.result)) r.agent

-- ---- A chunk

-- the text of some results: the last one began where the output had room for the longest line, and so did those before it
pub data Roomy (size : ℕ) : List ℕ → Type 0 where
  silent : Roomy size []
  roomy : (text : List ℕ) (result : Result) → length text + most_line ≤ size → Roomy size (text ++ result_text result)

-- nothing is read yet, or what is read ends with a line
abbrev pub Between : Carry → Carry → ℕ → Type 0
Between carry held read = ((read ≡ 0) × (held ≡ carry)) ⊎ (begun held ≡ Some [])

-- by some of a chunk from a state and a line so far to those after it: what the input says is what the lines run have said,
-- and then what is left of it; the text of their results stands at the output's start, and every other byte is as it was
pub record Progress (bytes : List ℕ) (formed : Bool) (s : State) (carry : Carry) (chunk before after : List ℕ)
    (t : State) (held : Carry) (read wrote : ℕ) : Type 0 where
  pub calls : List (Option Call)
  pub text : List ℕ
  pub said : (rest : List ℕ) → calls_from (begun carry) (chunk ++ rest) ≡ calls ++ calls_from (begun held) (drop read chunk ++ rest)
  pub runs : Runs bytes formed s calls text t
  pub written : Wrote wrote before after 0 wrote text
  pub roomy : Roomy (length before) text
  pub so_far : begun held ≡ line_after (begun carry) (take read chunk)

-- what a chunk gives, by the contracts of the agent's calls: what the input says is what the lines run have said, and then what is
-- left of it; their answers stand at the output's start, and every other byte is as it was.
-- The line so far is the one behind what was read. All of the chunk is read, unless the output has no room for the longest line any more:
-- no line is run without this room, and where it is missing nothing behind the last line run is read
pub record Feeds (a : Agent) (carry : Carry) (chunk before after : List ℕ) (r : Fed) : Type 0 where
  pub calls : List (Option Call)
  pub text : List ℕ
  pub said : (rest : List ℕ)
      → calls_from (begun carry) (chunk ++ rest) ≡ calls ++ calls_from (begun r.carry) (drop r.read chunk ++ rest)
  pub journal : Journal a calls text r.agent
  pub written : Wrote r.wrote before after 0 r.wrote text
  pub roomy : Roomy (length before) text
  pub so_far : begun r.carry ≡ line_after (begun carry) (take r.read chunk)
  pub within : r.read ≤ length chunk
  pub room : r.wrote ≤ length after
  pub whole : r.read < length chunk → length after < r.wrote + most_line
  pub stops : length after < r.wrote + most_line → Between carry r.carry r.read
