-- The library of 58 bytes (document 01, "Journal"), byte by byte, the plan that it holds, with and without the mark of request 12
-- and the divide of request 11, and a library for each refusal.
use Rattle.std.specs.Prelude.{ℕ, List, [], ◌∷◌, ◌++◌, set, take}
use Rattle.literal.specs.declared.Literal.{Literal}
use Rattle.library.specs.declared.Branch.{Branch}
use Rattle.library.specs.Plan.{Plan}

-- one plan, no beliefs; plan 0 at 8, so many bytes long
abbrev pub journal_contents : ℕ → List ℕ
journal_contents size = 1 ∷ 0 ∷ 0 ∷ 0 ∷ 8 ∷ 0 ∷ size ∷ 0 ∷ []

-- kind 0, +1 V0 0 0
abbrev pub journal_trigger : List ℕ
journal_trigger = 0 ∷ 0 ∷ 1 ∷ 0 ∷ 248 ∷ 255 ∷ 0 ∷ 0 ∷ 0 ∷ 0 ∷ []

-- one empty alternative
abbrev pub journal_situation : List ℕ
journal_situation = 1 ∷ 0 ∷ 0 ∷ 0 ∷ []

-- one action: remove +1 V0 0 0
abbrev pub journal_success : List ℕ
journal_success = 1 ∷ 0 ∷ 1 ∷ 0 ∷ 1 ∷ 0 ∷ 248 ∷ 255 ∷ 0 ∷ 0 ∷ 0 ∷ 0 ∷ []

-- no actions
abbrev pub journal_failure : List ℕ
journal_failure = 0 ∷ 0 ∷ []

-- kind 2, +9 V0 0 0, next 1
abbrev pub journal_branch : List ℕ
journal_branch = 2 ∷ 0 ∷ 9 ∷ 0 ∷ 248 ∷ 255 ∷ 0 ∷ 0 ∷ 0 ∷ 0 ∷ 1 ∷ 0 ∷ []

-- two states: state 0 has that branch, state 1 has none
abbrev pub journal_states : List ℕ
journal_states = 2 ∷ 0 ∷ 1 ∷ 0 ∷ (journal_branch ++ (0 ∷ 0 ∷ []))

-- the plan with some states, in a library
abbrev pub journal_with : ℕ → List ℕ → List ℕ
journal_with size states =
    journal_contents size
    ++ (journal_trigger ++ (journal_situation ++ (journal_situation ++ (journal_success ++ (journal_failure ++ states)))))

unfoldable pub journal_library : List ℕ
journal_library = journal_with 50 journal_states

-- a positive literal on V0 alone
abbrev pub on_v0 : ℕ → Literal
on_v0 predicate = record { head = predicate; first = 65528; second = 0; third = 0 }

-- the plan with a trigger kind, which variable's least value chooses, and its branch
abbrev pub journal_plan_by : ℕ → ℕ → Branch → Plan
journal_plan_by kind least branch =
    record {
      kind = kind;
      least = least;
      trigger = on_v0 1;
      context = [] ∷ [];
      maintenance = [] ∷ [];
      success = record { kind = 1; literal = on_v0 1 } ∷ [];
      failure = [];
      states = (branch ∷ []) ∷ [] ∷ [];
    }

-- action 9 with V0
abbrev pub acts_outside : Branch
acts_outside = record { kind = 2; literal = on_v0 9; next = 1 }

-- V0 divided by 5 into V2 and V1: 2 + 8 × 1
abbrev pub divides : Branch
divides = record { kind = 5; literal = record { head = 10; first = 65528; second = 5; third = 0 }; next = 1 }

abbrev pub journal_plan : Plan
journal_plan = journal_plan_by 0 0 acts_outside

-- ---- A library for each refusal (document 01, "Who may cause which refusal"; the rows of zero bytes alone are small case 8)

pub record RefusalCase : Type 0 where
  pub bytes : List ℕ
  pub refused : ℕ

abbrev pub refused_with : ℕ → List ℕ → RefusalCase
refused_with refused bytes = record { bytes = bytes; refused = refused }

-- the library of 58 bytes with another byte at an offset
abbrev pub changed : ℕ → ℕ → List ℕ
changed at byte = set journal_library at byte

-- the branch divides V0, with a predicate field below 256
abbrev pub dividing : ℕ → List ℕ
dividing field = set (changed 44 5) 46 field

unfoldable pub divide_library : List ℕ
divide_library = set (dividing 10) 50 5

-- kind 4 with the mark of V7: 4 + 16 × 8
unfoldable pub marked_library : List ℕ
marked_library = changed 8 132

unfoldable pub refusal_cases : List RefusalCase
refusal_cases =
    refused_with 0 (0 ∷ 0 ∷ 0 ∷ 0 ∷ [])
    -- 0: kind 0 with the mark of V0, kind 4 with that of V7
    ∷ refused_with 0 (changed 8 16)
    ∷ refused_with 0 (changed 8 132)
    -- 0: a divide into V2 and V1, into V6 and V7, and into V0, its own input, and V1
    ∷ refused_with 0 (dividing 10)
    ∷ refused_with 0 (dividing 62)
    ∷ refused_with 0 (dividing 8)
    -- 1: three bytes; 33 plans; 65 beliefs; an entry past the end; a belief past the end
    ∷ refused_with 1 (0 ∷ 0 ∷ 0 ∷ [])
    ∷ refused_with 1 (33 ∷ 0 ∷ 0 ∷ 0 ∷ [])
    ∷ refused_with 1 (0 ∷ 0 ∷ 65 ∷ 0 ∷ [])
    ∷ refused_with 1 (1 ∷ 0 ∷ 0 ∷ 0 ∷ [])
    ∷ refused_with 1 (0 ∷ 0 ∷ 1 ∷ 0 ∷ [])
    -- 2: a byte too many; an offset, a length and an end that packing does not give
    ∷ refused_with 2 (0 ∷ 0 ∷ 0 ∷ 0 ∷ 0 ∷ [])
    ∷ refused_with 2 (changed 4 9)
    ∷ refused_with 2 (changed 6 49)
    ∷ refused_with 2 (take 57 journal_library)
    -- 3: a belief with V0; a belief twice; a belief and its opposite
    ∷ refused_with 3 (0 ∷ 0 ∷ 1 ∷ 0 ∷ 1 ∷ 0 ∷ 248 ∷ 255 ∷ 0 ∷ 0 ∷ 0 ∷ 0 ∷ [])
    ∷ refused_with 3
    (0 ∷ 0 ∷ 2 ∷ 0 ∷ 1 ∷ 0 ∷ 5 ∷ 0 ∷ 0 ∷ 0 ∷ 0 ∷ 0 ∷ 1 ∷ 0 ∷ 5 ∷ 0 ∷ 0 ∷ 0 ∷ 0 ∷ 0 ∷ [])
    ∷ refused_with 3
    (0 ∷ 0 ∷ 2 ∷ 0 ∷ 1 ∷ 0 ∷ 5 ∷ 0 ∷ 0 ∷ 0 ∷ 0 ∷ 0 ∷ 1 ∷ 128 ∷ 5 ∷ 0 ∷ 0 ∷ 0 ∷ 0 ∷ 0 ∷ [])
    -- 4: a plan of no bytes; trigger kind 5, bare and with the marks of V0 and V7, the mark of a ninth variable, and 256;
    -- five alternatives; action kind 2; no states; five branches; branch kind 6; a negative external action;
    -- next states 0 and 2 of two; a plan of 51 bytes that ends after 50
    ∷ refused_with 4 (1 ∷ 0 ∷ 0 ∷ 0 ∷ 8 ∷ 0 ∷ 0 ∷ 0 ∷ [])
    ∷ refused_with 4 (changed 8 5)
    ∷ refused_with 4 (changed 8 21)
    ∷ refused_with 4 (changed 8 133)
    ∷ refused_with 4 (changed 8 144)
    ∷ refused_with 4 (changed 9 1)
    ∷ refused_with 4 (changed 18 5)
    ∷ refused_with 4 (changed 28 2)
    ∷ refused_with 4 (changed 40 0)
    ∷ refused_with 4 (changed 42 5)
    ∷ refused_with 4 (changed 44 6)
    ∷ refused_with 4 (changed 47 128)
    ∷ refused_with 4 (changed 54 0)
    ∷ refused_with 4 (changed 54 2)
    ∷ refused_with 4 (changed 6 51 ++ (0 ∷ []))
    -- 4, a divide: into V1 twice, into V7 twice, into a ninth variable, with a sign, with a third term
    ∷ refused_with 4 (dividing 9)
    ∷ refused_with 4 (dividing 63)
    ∷ refused_with 4 (dividing 64)
    ∷ refused_with 4 (set (dividing 8) 47 128)
    ∷ refused_with 4 (set (dividing 8) 52 1)
    -- 4, the tree: of two states no branch leads to state 1; two do
    ∷ refused_with 4 (journal_with 38 (2 ∷ 0 ∷ 0 ∷ 0 ∷ 0 ∷ 0 ∷ []))
    ∷ refused_with 4 (journal_with 62 (2 ∷ 0 ∷ 2 ∷ 0 ∷ (journal_branch ++ (journal_branch ++ (0 ∷ 0 ∷ [])))))
    ∷ []
