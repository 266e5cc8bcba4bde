-- The ten small cases of document 01 ("Small cases, held by proof") as one table: what is asked, and what is wanted.
use Rattle.std.specs.Prelude.{ℕ, true, false, List, [], ◌∷◌, ◌++◌, map}
use Rattle.literal.specs.declared.Literal.{Literal}
use Rattle.literal.specs.declared.Env.{Env}
use Rattle.literal.specs.Environment.{empty_env}
use Rattle.belief.specs.declared.Change.{Change}
use Rattle.library.specs.Plan.{Situation}
use Rattle.library.specs.Layout.{library_of}
use Rattle.accepted.specs.Refusal.{refusal_of}
use Rattle.accepted.specs.Cases.{journal_library}
use Rattle.situation.specs.Solutions.{solutions}
use Rattle.situation.specs.Cases as SituationCases
use Rattle.model.specs.State.{Call, report, cycle, outcome}
use Rattle.model.specs.Calls.{loaded}
use Rattle.model.specs.Run.{run}
use Rattle.model.specs.Lines.{Letter, T, I, N, M, S, B, D, E, F, X, Field, number, e, literal, Line, line_of}

-- a situation to be solved, bytes to be loaded, or calls on the agent loaded from the library of document 01's journal
pub data Case : Type 0 where
  solved : Situation → Case
  load : List ℕ → Case
  journal : List Call → Case

-- the solutions, the refusal's number (0: accepted), or the lines
pub data Seen : Type 0 where
  envs : List Env → Seen
  refusal : ℕ → Seen
  lines : List Line → Seen

unfoldable pub seen : Case → Seen
seen (solved situation) = envs (solutions SituationCases.beliefs situation empty_env)
seen (load bytes) = refusal (refusal_of bytes)
seen (journal calls) =
    lines (map (λ entry. line_of entry.result) (run (library_of journal_library) (loaded (library_of journal_library)) calls))

-- ---- The table

pub record Row : Type 0 where
  pub case : Case
  pub wanted : Seen

abbrev row : Case → Seen → Row
row case wanted = record { case = case; wanted = wanted }

abbrev line : Letter → List Field → List Change → Line
line letter fields changes = record { letter = letter; fields = fields; changes = changes }

-- a positive literal of one term
abbrev lit : ℕ → ℕ → Literal
lit predicate term = record { head = predicate; first = term; second = 0; third = 0 }

-- P, C, C, C, O, C, C, O 1 1; the first outcome worked or not
abbrev calls : Call → List Call
calls first = report 0 (lit 1 5) ∷ cycle ∷ cycle ∷ cycle ∷ first ∷ cycle ∷ cycle ∷ outcome 1 true ∷ []

-- the lines before that outcome, then the others
abbrev begun : List Line → List Line
begun rest =
    line T (number 1 ∷ []) (record { removes = false; literal = lit 1 5 } ∷ [])
    ∷ line M (number 1 ∷ number 0 ∷ e ∷ number 1 ∷ []) []
    ∷ line D (number 1 ∷ number 0 ∷ number 0 ∷ literal (lit 9 5) ∷ []) []
    ∷ line I [] [] ∷ rest

abbrev worked : List Line
worked =
    line S (number 1 ∷ number 0 ∷ number 0 ∷ number 1 ∷ []) []
    ∷ line E (number 1 ∷ []) (record { removes = true; literal = lit 1 5 } ∷ [])
    ∷ line I [] [] ∷ line X (number 8 ∷ []) [] ∷ []

abbrev not_worked : List Line
not_worked =
    line B (number 1 ∷ number 0 ∷ number 0 ∷ []) []
    ∷ line F (number 1 ∷ []) []
    ∷ line N (number 1 ∷ number 1 ∷ []) [] ∷ line X (number 8 ∷ []) [] ∷ []

-- cases 1 to 7, of crate situation
abbrev solving : SituationCases.Case → Row
solving c = row (solved c.situation) (envs c.answer)

-- case 8: load of four zero bytes, of three, of five
abbrev loads : List Row
loads =
    row (load (0 ∷ 0 ∷ 0 ∷ 0 ∷ [])) (refusal 0)
    ∷ row (load (0 ∷ 0 ∷ 0 ∷ [])) (refusal 1)
    ∷ row (load (0 ∷ 0 ∷ 0 ∷ 0 ∷ 0 ∷ [])) (refusal 2)
    ∷ []

-- cases 9 and 10
abbrev journals : List Row
journals =
    row (journal (calls (outcome 1 true))) (lines (begun worked))
    ∷ row (journal (calls (outcome 1 false))) (lines (begun not_worked))
    ∷ []

-- all ten
abbrev pub table : List Row
table = map solving SituationCases.cases ++ (loads ++ journals)
