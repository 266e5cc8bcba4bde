-- A plan's layout as a parser, in the page's own order (document 01, "Library", the list of a plan's parts).
-- A parser takes bytes to a value and the bytes that are left, or says that they are off the layout.
use Rattle.std.specs.Prelude.{ℕ, zero, suc, ◌+◌, ◌*◌, Bool, true, cond, ◌&&◌, List, [], ◌∷◌, length, leb, ltb}
use Rattle.std.specs.List.{list_all}
use Rattle.literal.specs.declared.Literal.{Literal}
use Rattle.library.specs.declared.Action.{Action}
use Rattle.library.specs.declared.Branch.{Branch}
use Rattle.library.specs.Plan.{Situation, Plan}
use Rattle.library.specs.Layout.{kind_in, least_in}
use Rattle.accepted.specs.Rules.{literal_ok, is_tree, trigger_ok}

pub data Parsed (A : Type 0) : Type 0 where
  parsed : A → List ℕ → Parsed A
  off_layout : Parsed A

-- ---- Putting parsers together

abbrev pub and_then : {A B : Type 0} → Parsed A → (A → List ℕ → Parsed B) → Parsed B
and_then (parsed value rest) next = next value rest
and_then off_layout next = off_layout

-- a value that passes a test
abbrev pub given : {A : Type 0} → Bool → A → List ℕ → Parsed A
given test value rest = cond test (parsed value rest) off_layout

-- n of them
unfoldable pub many : {A : Type 0} → (List ℕ → Parsed A) → ℕ → List ℕ → Parsed (List A)
many parser zero bytes = parsed [] bytes
many parser (suc n) bytes =
    and_then (parser bytes) (λ value one. and_then (many parser n one) (λ values rest. parsed (value ∷ values) rest))

-- ---- Numbers and literals

-- 16 bits, low byte first
unfoldable pub number : List ℕ → Parsed ℕ
number [] = off_layout
number (low ∷ []) = off_layout
number (low ∷ high ∷ rest) = parsed (low + 256 * high) rest

unfoldable pub number_up_to : ℕ → List ℕ → Parsed ℕ
number_up_to most bytes = and_then (number bytes) (λ n rest. given (leb n most) n rest)

-- their number, 0..4, and them
unfoldable pub up_to_four : {A : Type 0} → (List ℕ → Parsed A) → List ℕ → Parsed (List A)
up_to_four parser bytes = and_then (number_up_to 4 bytes) (λ n rest. many parser n rest)

-- the predicate with its sign, then three terms
unfoldable pub literal : List ℕ → Parsed Literal
literal bytes =
    and_then (number bytes)
    (λ head one. and_then (number one)
    (λ first two. and_then (number two)
    (λ second three. and_then (number three)
    (λ third rest. parsed (record { head = head; first = first; second = second; third = third }) rest))))

-- ---- The parts of a plan

-- number of alternatives, each its number of literals and them
unfoldable pub situation : List ℕ → Parsed Situation
situation bytes = up_to_four (up_to_four literal) bytes

-- 0 (add) or 1 (remove) and a literal
unfoldable pub action : List ℕ → Parsed Action
action bytes =
    and_then (number_up_to 1 bytes)
    (λ kind one. and_then (literal one) (λ l rest. parsed (record { kind = kind; literal = l }) rest))

-- number of actions 0..4, and them
unfoldable pub actions : List ℕ → Parsed (List Action)
actions bytes = up_to_four action bytes

-- a kind 0..5, a literal (positive for kind 2, two variables and two lengths for kind 5) and the next state
unfoldable pub branch : List ℕ → Parsed Branch
branch bytes =
    and_then (number_up_to 5 bytes)
    (λ kind one. and_then (literal one)
    (λ l two. and_then (number two)
    (λ next rest. given (literal_ok kind l) (record { kind = kind; literal = l; next = next }) rest)))

-- number of branches 0..4, and them
unfoldable pub state : List ℕ → Parsed (List Branch)
state bytes = up_to_four branch bytes

-- a next state that is above the branch's own state and exists
abbrev pub leads : ℕ → ℕ → Branch → Bool
leads count state branch = ltb state branch.next && ltb branch.next count

-- so for every branch of the states from a number on
unfoldable pub leads_up : ℕ → ℕ → List (List Branch) → Bool
leads_up count state [] = true
leads_up count state (branches ∷ rest) = list_all (leads count state) branches && leads_up count (state + 1) rest

-- every next state is in 1..S - 1, and each state but 0 is the next state of exactly one branch, of a lower-numbered state
unfoldable pub form_tree : List (List Branch) → Bool
form_tree states = leads_up (length states) 0 states && is_tree states

-- number of states S, 1..16, and them; they form a tree
unfoldable pub states : List ℕ → Parsed (List (List Branch))
states bytes =
    and_then (number bytes)
    (λ count one. cond (leb 1 count && leb count 16)
    (and_then (many state count one) (λ ss rest. given (form_tree ss) ss rest)) off_layout)

-- ---- A plan

-- a kind 0..4, with 16 × (v + 1) added where the least value of Vv chooses
unfoldable pub trigger : List ℕ → Parsed ℕ
trigger bytes = and_then (number bytes) (λ field rest. given (trigger_ok (kind_in field) (least_in field)) field rest)

-- trigger kind and literal; context, then maintenance; success list, then failure list; states
unfoldable pub plan : List ℕ → Parsed Plan
plan bytes =
    and_then (trigger bytes)
    (λ field one. and_then (literal one)
    (λ l two. and_then (situation two)
    (λ context three. and_then (situation three)
    (λ maintenance four. and_then (actions four)
    (λ success five. and_then (actions five)
    (λ failure six. and_then (states six)
    (λ ss rest. parsed
    (record {
      kind = kind_in field;
      least = least_in field;
      trigger = l;
      context = context;
      maintenance = maintenance;
      success = success;
      failure = failure;
      states = ss;
    })
    rest)))))))
