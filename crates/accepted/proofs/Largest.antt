-- A library of 19,332 bytes that is accepted: 32 plans of 584 bytes after 64 beliefs. So the bound of Size is reached.
use Prim.Native.Nat.{ℕ, zero, suc, ◌+◌, ◌*◌, ◌-◌, ◌/◌, ◌%◌, ◌<◌, ◌≤◌}
use mathlib.Core.Path.{◌≡◌, refl, ap, sym, ◌∙◌}
use mathlib.Core.Bool.{Bool, true, ◌&&◌}
use mathlib.Core.List.{List, [], ◌∷◌, ◌++◌, append_assoc}
use native.Mathlib.Nat.{zero-add, suc-add, mul-suc}
use native.Mathlib.Omega.{arith}
use borrow.Author.Tests.{eq-eqb, eqb-true}
use lib.ListN.{length, length-append}
use lib.Dec.{eqb, ltb}
use Rattle.std.specs.List.{list_all}
use Rattle.lists.specs.Search.{distinct}
use Rattle.lists.proofs.BoolLaws.{and_parts, and_both}
use Rattle.literal.specs.Literal.{is_ground, same, opposite}
use Rattle.library.specs.Bytes.{u16_at, items, rows, rows_end}
use Rattle.library.specs.Layout.{situation_at, situation_end, actions_at, actions_end, states_at, states_end, maintenance_off, success_off, failure_off, states_off, plan_end, plan_at, plan_count, belief_count, plans_off, beliefs_of, entry_off, entry_length}
use Rattle.accepted.specs.Rules.{situation_ok, actions_ok, branch_ok, state_ok, states_from, entries_in, entries, is_tree, states_ok, plan_ok, numbers, beliefs_ok}
use Rattle.accepted.specs.Refusal.{contents_fit, packed_from, is_packed, plan_fits_at, plan_fits, plans_fit, refusal_of, most_bytes, Accepted}
use Rattle.library.proofs.RowLaws.{range_at, range_all}
use Rattle.accepted.proofs.Shift.{fits_shift}

-- ---- The largest plan

-- a number, low byte first
abbrev pub number_bytes : ℕ → List ℕ
number_bytes n = n % 256 ∷ n / 256 ∷ []

-- something n times over
unfoldable pub times : ℕ → List ℕ → List ℕ
times zero xs = []
times (suc n) xs = xs ++ times n xs

-- four rows, each of n zero bytes
unfoldable pub four_of : ℕ → List ℕ
four_of n = number_bytes 4 ++ times 4 (times n (0 ∷ []))

unfoldable pub full_situation : List ℕ
full_situation = number_bytes 4 ++ times 4 (four_of 8)

-- a chain of states: each of n leads to the next one, and the last is an end
unfoldable pub chain : ℕ → ℕ → List ℕ
chain zero next = number_bytes 0
chain (suc n) next = number_bytes 1 ++ (number_bytes 0 ++ (times 8 (0 ∷ []) ++ (number_bytes next ++ chain n (next + 1))))

unfoldable pub full_states : List ℕ
full_states = number_bytes 16 ++ chain 15 1

unfoldable pub full_plan : List ℕ
full_plan = times 10 (0 ∷ []) ++ (full_situation ++ (full_situation ++ (four_of 10 ++ (four_of 10 ++ full_states))))

full_plan-length : length full_plan ≡ 584
unfolding full_plan full_states chain full_situation four_of times
full_plan-length = refl

full_plan-fits : (rest : List ℕ) → plan_fits_at (full_plan ++ rest) 0 584 ≡ true
unfolding full_plan full_states chain full_situation four_of times plan_fits_at u16_at items rows rows_end situation_at situation_end actions_at actions_end states_at states_end maintenance_off success_off failure_off states_off plan_end plan_at situation_ok actions_ok branch_ok state_ok states_from entries_in entries is_tree states_ok plan_ok
full_plan-fits rest = refl

-- ---- The largest library

-- n entries from the plan i on: 584 bytes each, the first at 644
unfoldable pub entry_bytes : ℕ → ℕ → List ℕ
entry_bytes zero i = []
entry_bytes (suc n) i = number_bytes (644 + 584 * i) ++ (number_bytes 584 ++ entry_bytes n (i + 1))

-- n beliefs, their predicates from i on
unfoldable pub belief_bytes : ℕ → ℕ → List ℕ
belief_bytes zero i = []
belief_bytes (suc n) i = number_bytes i ++ (times 6 (0 ∷ []) ++ belief_bytes n (i + 1))

unfoldable pub header : List ℕ
header = number_bytes 32 ++ (number_bytes 64 ++ (entry_bytes 32 0 ++ belief_bytes 64 0))

unfoldable pub largest : List ℕ
largest = header ++ times 32 full_plan

-- what stands in the header, whatever follows it

header-length : length header ≡ 644
unfolding header entry_bytes belief_bytes times
header-length = refl

module _ (rest : List ℕ) where
  plans_32 : plan_count (header ++ rest) ≡ 32
  unfolding header plan_count u16_at
  plans_32 = refl

  beliefs_64 : belief_count (header ++ rest) ≡ 64
  unfolding header belief_count u16_at
  beliefs_64 = refl

  abbrev entry_right : ℕ → Bool
  entry_right i = eqb (entry_off (header ++ rest) i) (644 + 584 * i) && eqb (entry_length (header ++ rest) i) 584

  entries_right : list_all entry_right (numbers 32 0) ≡ true
  unfolding header entry_bytes u16_at items
  entries_right = refl

  beliefs_right : beliefs_ok (beliefs_of (header ++ rest)) ≡ true
  unfolding header entry_bytes belief_bytes times u16_at distinct items beliefs_ok beliefs_of plan_count belief_count is_ground same opposite
  beliefs_right = refl

-- ---- Its length

times-length : (n : ℕ) (xs : List ℕ) → length (times n xs) ≡ length xs * n
unfolding times
times-length zero xs = omega arith
times-length (suc n) xs = length-append xs (times n xs) ∙ rw (times-length n xs) (simp mul-suc (omega arith))

before_length : (i : ℕ) → length (header ++ times i full_plan) ≡ 644 + 584 * i
before_length i = length-append header (times i full_plan) ∙ rw (header-length, times-length i full_plan, full_plan-length)

pub largest-length : length largest ≡ most_bytes
unfolding largest
largest-length = before_length 32

-- ---- Its stages

module _ (bytes : List ℕ) (plans : plan_count bytes ≡ 32) (beliefs : belief_count bytes ≡ 64) (size : length bytes ≡ 19332) where
  contents_fit_lem : contents_fit bytes ≡ true
  unfolding contents_fit plans_off
  contents_fit_lem = rw (plans, beliefs, size)

  module _ (entry : (i : ℕ) → i < 32 → (entry_off bytes i ≡ 644 + 584 * i) × (entry_length bytes i ≡ 584)) where
    packed_on : (n i at : ℕ) → i + n ≡ 32 → at ≡ 644 + 584 * i → packed_from bytes n i at ≡ true
    unfolding packed_from
    packed_on zero i at h e = eq-eqb at (length bytes) (omega arith)
    packed_on (suc n) i at h e =
        let here = entry i (omega arith) in
        let off = eq-eqb (entry_off bytes i) at (here.0 ∙ sym e) in
        rw off (packed_on n (i + 1) (at + entry_length bytes i) (omega arith) (omega arith))

    is_packed_lem : is_packed bytes ≡ true
    unfolding is_packed plans_off
    is_packed_lem = rw (plans, beliefs) (packed_on 32 0 644 refl refl)

times_split : (i n : ℕ) (xs : List ℕ) → times (i + suc n) xs ≡ times i xs ++ (xs ++ times n xs)
unfolding times
times_split zero n xs = rw zero-add
times_split (suc i) n xs = rw suc-add (ap (λ (ys : List ℕ). xs ++ ys) (times_split i n xs) ∙ sym (append_assoc xs (times i xs) (xs ++ times n xs)))

-- the plan with a number stands past the header and the plans before it
fits_at : (i n : ℕ) → i + suc n ≡ 32 → plan_fits_at largest (644 + 584 * i) 584 ≡ true
unfolding largest
fits_at i n h =
    let split = ap (λ (ys : List ℕ). header ++ ys) (ap (λ (k : ℕ). times k full_plan) (sym h) ∙ times_split i n full_plan) ∙ sym (append_assoc header (times i full_plan) (full_plan ++ times n full_plan)) in
    let place : length (header ++ times i full_plan) + 0 ≡ 644 + 584 * i = omega (arith, before_length i) in
    ap (λ (bytes : List ℕ). plan_fits_at bytes (644 + 584 * i) 584) split
    ∙ ap (λ (off : ℕ). plan_fits_at ((header ++ times i full_plan) ++ (full_plan ++ times n full_plan)) off 584) (sym place)
    ∙ fits_shift (header ++ times i full_plan) (full_plan ++ times n full_plan) 0 584
    ∙ full_plan-fits (times n full_plan)

entry_right_lem : (i : ℕ) → i < 32 → (entry_off largest i ≡ 644 + 584 * i) × (entry_length largest i ≡ 584)
unfolding largest
entry_right_lem i h =
    let rest = times 32 full_plan in
    let both = rw zero-add at (range_at (entry_right rest) 32 0 i (entries_right rest) h) in
    let parts = and_parts (eqb (entry_off (header ++ rest) i) (644 + 584 * i)) _ both in
    (eqb-true _ _ parts.0, eqb-true _ _ parts.1)

largest_plans : plan_count largest ≡ 32
unfolding largest
largest_plans = plans_32 (times 32 full_plan)

largest-beliefs : belief_count largest ≡ 64
unfolding largest
largest-beliefs = beliefs_64 (times 32 full_plan)

beliefs_fit : beliefs_ok (beliefs_of largest) ≡ true
unfolding largest
beliefs_fit = beliefs_right (times 32 full_plan)

plans_fit_lem : plans_fit largest ≡ true
unfolding plans_fit
plans_fit_lem = rw largest_plans (range_all (plan_fits largest) 32 0 fits)
  where
    fits : (i : ℕ) → 0 ≤ i → i < 0 + 32 → plan_fits largest i ≡ true
    fits i low high =
        let entry = entry_right_lem i (omega arith) in
        let left : i + suc (31 - i) ≡ 32 = omega arith in
        rw (entry.0, entry.1) (fits_at i (31 - i) left)

pub largest-accepted : Accepted largest
unfolding refusal_of
largest-accepted =
    let contents = contents_fit_lem largest largest_plans largest-beliefs largest-length in
    let packed = is_packed_lem largest largest_plans largest-beliefs largest-length entry_right_lem in
    rw (contents, packed, beliefs_fit, plans_fit_lem)

-- ---- Its bytes

abbrev is_byte : ℕ → Bool
is_byte b = ltb b 256

all_append : (xs ys : List ℕ) → list_all is_byte xs ≡ true → list_all is_byte ys ≡ true → list_all is_byte (xs ++ ys) ≡ true
all_append [] ys p q = q
all_append (x ∷ xs) ys p q =
    let parts = and_parts (is_byte x) (list_all is_byte xs) p in
    and_both (is_byte x) (list_all is_byte (xs ++ ys)) parts.0 (all_append xs ys parts.1 q)

times-bytes : (n : ℕ) (xs : List ℕ) → list_all is_byte xs ≡ true → list_all is_byte (times n xs) ≡ true
unfolding times
times-bytes zero xs p = refl
times-bytes (suc n) xs p = all_append xs (times n xs) p (times-bytes n xs p)

header-bytes : list_all is_byte header ≡ true
unfolding header entry_bytes belief_bytes times
header-bytes = refl

plan-bytes : list_all is_byte full_plan ≡ true
unfolding full_plan full_states chain full_situation four_of times
plan-bytes = refl

-- each of them is a byte
pub largest-bytes : list_all is_byte largest ≡ true
unfolding largest
largest-bytes = all_append header (times 32 full_plan) header-bytes (times-bytes 32 full_plan plan-bytes)
