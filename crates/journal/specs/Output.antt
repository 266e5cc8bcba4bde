-- What the program prints (document 01, "Journal"), computed from the library's bytes and the input.
use Rattle.std.specs.Prelude.{ℕ, cond, List, [], ◌∷◌, ◌++◌, map, ltb, eqb, length, Option}
use Rattle.library.specs.Plan.{Library}
use Rattle.library.specs.Layout.{library_of}
use Rattle.accepted.specs.Refusal.{refusal_of}
use Rattle.model.specs.declared.Answer.TheVariants.{Refused}
use Rattle.model.specs.State.{AgentState, Call, Reply}
use Rattle.model.specs.Calls.{loaded}
use Rattle.model.specs.WellFormed.{is_well_formed}
use Rattle.printing.specs.LineText.{result_text}
use Rattle.reading.specs.Call.{call_of}
use Rattle.stream.specs.Lines.{lines}
use Rattle.agent.specs.Feed.{respond_by}

-- the answers to what lines say, by the reply to each on the state that the one before it left
unfoldable pub answers_by : (AgentState → Option Call → Reply) → AgentState → List (Option Call) → List ℕ
answers_by reply s [] = []
answers_by reply s (said ∷ more) = result_text (reply s said).result ++ answers_by reply (reply s said).state more

-- the reply to what a line says
unfoldable pub reply_to : Library → AgentState → Option Call → Reply
reply_to library s said = respond_by (is_well_formed library s) library s said

-- the answers to the lines of an input, from the loaded state
unfoldable pub output_of : List ℕ → List ℕ → List ℕ
output_of bytes input = answers_by (reply_to (library_of bytes)) (loaded (library_of bytes)) (map call_of (lines input))

-- the longest file of a library
abbrev pub most_file : ℕ
most_file = 65535

-- the refusal of a library's file: 2 where it is too long, else load's; 0 where there is none
unfoldable pub file_refusal : List ℕ → ℕ
file_refusal bytes = cond (ltb most_file (length bytes)) 2 (refusal_of bytes)

-- X and the number where the library is refused
abbrev pub refused_with : ℕ → List ℕ
refused_with number = result_text (record { answer = Refused number; changes = [] })

-- the whole output
unfoldable pub printed_for : List ℕ → List ℕ → List ℕ
printed_for bytes input = cond (eqb (file_refusal bytes) 0) (output_of bytes input) (refused_with (file_refusal bytes))
