-- The lines of an input with their answers (document 01, "One line out for each"): those that are calls form a chain of contracts.
use Rattle.std.specs.Prelude.{ℕ, ◌≡◌, Bool, true, List, [], ◌∷◌, map, Option, None, Some}
use Rattle.lists.specs.Counts.{each, Every}
use Rattle.library.specs.Layout.{beliefs_of}
use Rattle.model.specs.State.{Call, view_result}
use Rattle.model.specs.Promises.{is_not_ten}
use Rattle.model.specs.Demand3.{Demand3}
use Rattle.state.specs.View.{view_state}
use Rattle.printing.specs.LineText.{result_text, fits}
use Rattle.reading.specs.Call.{call_of}
use Rattle.stream.specs.Lines.{lines}
use Rattle.load.specs.declared.Agent.{Agent}
use Rattle.agent.specs.Chain.{Link, Chain, entries_of}
use Rattle.agent.specs.Feed.{unreadable}

-- a line with its answer is a call and what it gave; none: a line that cannot be read
abbrev pub call_in : Option Link → Option Call
call_in None = None
call_in (Some link) = Some link.call

-- what is printed for it
abbrev pub text_of : Option Link → List ℕ
text_of None = result_text unreadable
text_of (Some link) = result_text (view_result link.given.result)

-- no other result has its text
abbrev pub fits_answer : Option Link → Bool
fits_answer None = true
fits_answer (Some link) = fits (view_result link.given.result)

-- the calls among them
abbrev pub links_of : List (Option Link) → List Link
links_of [] = []
links_of (None ∷ answers) = links_of answers
links_of (Some link ∷ answers) = link ∷ links_of answers

-- from an agent, by what lines say and the text of their answers, to the agent after them
pub record Answers (a : Agent) (calls : List (Option Call)) (text : List ℕ) (b : Agent) : Type 0 where
  pub answers : List (Option Link)
  -- one for each line, in order
  pub lines : map call_in answers ≡ calls
  -- the text is theirs, and nothing else
  pub printed : each text_of answers ≡ text
  pub fit : Every fits_answer answers
  pub chain : Chain a (links_of answers) b

-- the output for an input on an agent with a library: it is the answers to the input's lines, demand 3 holds of them, and none is 10
pub record Accounted (bytes : List ℕ) (a : Agent) (input output : List ℕ) (b : Agent) : Type 0 where
  pub answers : Answers a (map call_of (lines input)) output b
  pub demand_3 : Demand3 (beliefs_of bytes) (entries_of (links_of answers.answers)) (view_state b.state)
  pub never_ten : Every is_not_ten (entries_of (links_of answers.answers))
