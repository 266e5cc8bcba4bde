-- Bodies with their counts, worked out by hand, and the libraries that the call refuses (document 02, request 10).
use Rattle.std.specs.Prelude.{ℕ, ◌+◌, List, [], ◌∷◌, map, Result, Ok, Err}
use Rattle.library.specs.declared.Branch.{Branch}
use Rattle.accepted.specs.Cases.{journal_library}
use Rattle.endings.specs.declared.Counts.{Counts}
use Rattle.endings.specs.Answers.{both_of, endings}
use Rattle.endings.specs.Endings.{endings_of}

-- ---- Bodies

-- a branch, of which the counts ask no more than where it leads
abbrev to : ℕ → Branch
to next = record { kind = 2; literal = record { head = 9; first = 65528; second = 0; third = 0 }; next = next }

abbrev pub body : List (List ℕ) → List (List Branch)
body states = map (λ nexts. map to nexts) states

-- a body, and for each length from 0 on how many lists succeed, and how many fail
pub record Row : Type 0 where
  pub states : List (List ℕ)
  pub wanted : List Counts

abbrev row : List (List ℕ) → List Counts → Row
row states wanted = record { states = states; wanted = wanted }

-- what the counts are, for as many lengths from n on as are wanted
unfoldable pub counted : List (List Branch) → ℕ → List Counts → List Counts
counted states n [] = []
counted states n (c ∷ rest) = endings states 0 0 n ∷ counted states (n + 1) rest

-- one state: it has succeeded before any answer. A state with one branch. Two branches, the first to a state with one.
-- Four branches, and two more levels
unfoldable pub table : List Row
table =
    row ([] ∷ []) (both_of 1 0 ∷ both_of 0 0 ∷ [])
    ∷ row ((1 ∷ []) ∷ [] ∷ []) (both_of 0 0 ∷ both_of 1 1 ∷ both_of 0 0 ∷ both_of 0 0 ∷ [])
    ∷ row ((1 ∷ 2 ∷ []) ∷ (3 ∷ []) ∷ [] ∷ [] ∷ []) (both_of 0 0 ∷ both_of 0 0 ∷ both_of 2 2 ∷ both_of 0 0 ∷ [])
    ∷ row ((1 ∷ 2 ∷ 3 ∷ 4 ∷ []) ∷ [] ∷ (5 ∷ []) ∷ [] ∷ [] ∷ (6 ∷ 7 ∷ []) ∷ [] ∷ [] ∷ [])
    (both_of 0 0 ∷ both_of 1 0 ∷ both_of 0 0 ∷ both_of 1 1 ∷ both_of 2 1 ∷ both_of 1 1 ∷ both_of 0 0 ∷ [])
    ∷ []

-- ---- The call

pub record Asked : Type 0 where
  pub bytes : List ℕ
  pub plan : ℕ
  pub n : ℕ
  pub wanted : Result Counts ℕ

abbrev asked : List ℕ → ℕ → ℕ → Result Counts ℕ → Asked
asked bytes plan n wanted = record { bytes = bytes; plan = plan; n = n; wanted = wanted }

abbrev given : ℕ → ℕ → Result Counts ℕ
given succeeded failed = Ok (both_of succeeded failed)

abbrev pub answered : Asked → Result Counts ℕ
answered a = endings_of a.bytes a.plan a.n

-- the plan of the library of 58 bytes has one branch; 1 comes before 11, and 11 before 15
unfoldable pub calls : List Asked
calls =
    asked journal_library 0 0 (given 0 0)
    ∷ asked journal_library 0 1 (given 1 1)
    ∷ asked journal_library 0 2 (given 0 0)
    ∷ asked journal_library 0 3 (given 0 0)
    ∷ asked journal_library 0 16 (Err 15)
    ∷ asked journal_library 1 16 (Err 11)
    ∷ asked [] 1 16 (Err 1)
    ∷ []
