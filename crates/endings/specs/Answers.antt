-- How the body of a plan may end (document 02, request 10): every tried branch works or not, and maintenance holds.
-- What an instance does at its turn is the model's (move_by).
use Rattle.std.specs.Prelude.{ℕ, zero, suc, ◌+◌, Bool, true, false, cond, List, [], ◌∷◌, ◌++◌, map, get_or}
use Rattle.lists.specs.Counts.{count}
use Rattle.library.specs.declared.Branch.{Branch}
use Rattle.model.specs.Turn.{Move, fails, succeeds, tries, move_by}
use Rattle.endings.specs.declared.Counts.{Counts}

-- how a body stands after a list of answers: it runs on, it has just succeeded or failed, or it had ended before the last of them
pub data Standing : Type 0 where
  running : Standing
  succeeded : Standing
  failed : Standing
  over : Standing

-- after the last answer
abbrev pub standing : Move → Standing
standing fails = failed
standing succeeds = succeeded
standing (tries branch) = running

-- with an answer left: only a body that tries a branch takes it
abbrev pub taking : Move → (Branch → Standing) → Standing
taking fails next = over
taking succeeds next = over
taking (tries branch) next = next branch

-- what the body does in a state of which it has tried some branches
abbrev pub move_at : List (List Branch) → ℕ → ℕ → Move
move_at states state tried = move_by true (get_or states state []) tried

-- the body is run on the answers: a branch that works leads to its next state, none tried; else the state stays, one more tried
unfoldable pub after : List (List Branch) → ℕ → ℕ → List Bool → Standing
after states state tried [] = standing (move_at states state tried)
after states state tried (answer ∷ answers) =
    taking (move_at states state tried)
    (λ branch. cond answer (after states branch.next 0 answers) (after states state (tried + 1) answers))

-- ---- Counting lists

-- lists are of at most this many answers: a body of 16 states has 15 branches
abbrev pub most_answers : ℕ
most_answers = 15

-- every list of n answers
unfoldable pub answers : ℕ → List (List Bool)
answers zero = [] ∷ []
answers (suc n) = map (λ list. true ∷ list) (answers n) ++ map (λ list. false ∷ list) (answers n)

abbrev pub has_succeeded : Standing → Bool
has_succeeded running = false
has_succeeded succeeded = true
has_succeeded failed = false
has_succeeded over = false

abbrev pub has_failed : Standing → Bool
has_failed running = false
has_failed succeeded = false
has_failed failed = true
has_failed over = false

-- how many lists of n answers pass a test of how the body stands after them
unfoldable pub ways : (Standing → Bool) → List (List Branch) → ℕ → ℕ → ℕ → ℕ
ways test states state tried n = count (λ list. test (after states state tried list)) (answers n)

abbrev pub both_of : ℕ → ℕ → Counts
both_of wins losses = record { succeeded = wins; failed = losses }

-- after which it has just succeeded, and just failed
abbrev pub endings : List (List Branch) → ℕ → ℕ → ℕ → Counts
endings states state tried n =
    both_of (ways has_succeeded states state tried n) (ways has_failed states state tried n)
