-- What acceptance of a library gives, at an index.
use Prim.Native.Nat.{ℕ, zero, suc, ◌+◌, ◌-◌, ◌*◌, ◌<◌, ◌≤◌}
use mathlib.Core.Path.{◌≡◌, refl}
use mathlib.Core.Bool.{Bool, true, false, cond}
use mathlib.Core.List.{List, []}
use native.Mathlib.Nat.{add-zero, zero-add, add-sub_cancel_left}
use native.Mathlib.Omega.{arith}
use borrow.Author.Tests.{ltb-true, eqb-true, eqb-false, eq-eqb, ne_eqb, le-leb}
use lib.ListN.{length, get_or, take, drop}
use lib.Dec.{ltb, eqb}
use Rattle.std.specs.List.{list_all}
use Rattle.lists.specs.Search.{distinct}
use Rattle.lists.proofs.BoolLaws.{and_parts, both_ways}
use Rattle.lists.proofs.AllLaws.{all_at, distinct_at}
use Rattle.literal.specs.Literal.{negative, is_ground, same}
use Rattle.literal.specs.Divide.{quotient_in, remainder_in, variable_pairs}
use Rattle.literal.proofs.LiteralLaws.{equal_same}
use Rattle.library.specs.declared.Branch.{Branch}
use Rattle.library.specs.Plan.{no_literal, no_branch}
use Rattle.library.specs.Bytes.{u16_at, items}
use Rattle.accepted.proofs.StageLaws.{contents_small}
use Rattle.library.specs.Layout.{plan_count, belief_count, plans_off, entry_off, entry_length, beliefs_of, plan_at, plan_of, plan_end, library_of}
use Rattle.accepted.specs.Rules.{branch_ok, plan_ok, beliefs_ok, library_ok}
use Rattle.accepted.specs.Refusal.{contents_fit, packed_from, is_packed, plan_fits_at, plan_fits, plans_fit, refusal_of, Accepted, part_refusal_of, part_of}
use Rattle.library.proofs.FieldLaws.{field_is}
use Rattle.library.proofs.RowLaws.{length-items, items-all, range_at}
use Rattle.library.proofs.PartLaws.{length-beliefs}
use Rattle.accepted.proofs.RuleFacts.{KeepsRules, keeps_rules, branch_ok_lem, kind_in_lem, positive, division, next_above, next_below}

-- ---- Every stage passed

stages : (a b c d : Bool) → ◌≡◌ {A = ℕ} (cond a (cond b (cond c (cond d 0 4) 3) 2) 1) 0 → (a ≡ true) × (b ≡ true) × (c ≡ true) × (d ≡ true)
stages true true true true e = (refl, refl, refl, refl)
stages true true true false e = absurd (omega arith)
stages true true false d e = absurd (omega arith)
stages true false c d e = absurd (omega arith)
stages false b c d e = absurd (omega arith)

-- n entries that are packed end within the bytes
packed_on : (bytes : List ℕ) (n entry at : ℕ) → packed_from bytes n entry at ≡ true → at ≤ length bytes
unfolding packed_from
packed_on bytes zero entry at e = omega (arith, eqb-true at (length bytes) e)
packed_on bytes (suc n) entry at e =
    let both = and_parts (eqb (entry_off bytes entry) at) (packed_from bytes n (entry + 1) (at + entry_length bytes entry)) e in
    omega (arith, packed_on bytes n (entry + 1) (at + entry_length bytes entry) both.1)

packed_at : (bytes : List ℕ) (n entry at i : ℕ) → packed_from bytes n entry at ≡ true → i < n → entry_off bytes (entry + i) + entry_length bytes (entry + i) ≤ length bytes
unfolding packed_from
packed_at bytes zero entry at i e h = absurd (omega arith)
packed_at bytes (suc n) entry at zero e h =
    let both = and_parts (eqb (entry_off bytes entry) at) (packed_from bytes n (entry + 1) (at + entry_length bytes entry)) e in
    let here = eqb-true (entry_off bytes entry) at both.0 in
    let rest = packed_on bytes n (entry + 1) (at + entry_length bytes entry) both.1 in
    rw add-zero (omega arith)
packed_at bytes (suc n) entry at (suc i) e h =
    let both = and_parts (eqb (entry_off bytes entry) at) (packed_from bytes n (entry + 1) (at + entry_length bytes entry)) e in
    let rest = packed_at bytes n (entry + 1) (at + entry_length bytes entry) i both.1 (omega arith) in
    let place : entry + 1 + i ≡ entry + suc i = omega arith in
    rw place at rest

module _ (bytes : List ℕ) (accepted : Accepted bytes) where
  pub passed : (contents_fit bytes ≡ true) × (is_packed bytes ≡ true) × (beliefs_ok (beliefs_of bytes) ≡ true) × (plans_fit bytes ≡ true)
  unfolding refusal_of
  passed = stages (contents_fit bytes) (is_packed bytes) (beliefs_ok (beliefs_of bytes)) (plans_fit bytes) accepted

  pub contents : (plan_count bytes ≤ 32) × (belief_count bytes ≤ 64)
  contents = contents_small bytes passed.0

  -- ---- Beliefs

  pub few-beliefs : length (beliefs_of bytes) ≤ 64
  few-beliefs = rw (length-beliefs bytes) contents.1

  pub beliefs_ground : list_all is_ground (beliefs_of bytes) ≡ true
  unfolding beliefs_ok
  beliefs_ground = (and_parts (list_all is_ground (beliefs_of bytes)) _ passed.2).0

  pub beliefs-distinct : distinct same (beliefs_of bytes) ≡ true
  unfolding beliefs_ok
  beliefs-distinct = (and_parts (distinct same (beliefs_of bytes)) _ (and_parts (list_all is_ground (beliefs_of bytes)) _ passed.2).1).0

  pub belief_ground : (i : ℕ) → i < length (beliefs_of bytes) → is_ground (get_or (beliefs_of bytes) i no_literal) ≡ true
  belief_ground i h = all_at is_ground (beliefs_of bytes) i no_literal beliefs_ground h

  pub belief_once : (i j : ℕ) → i < j → j < length (beliefs_of bytes) → get_or (beliefs_of bytes) i no_literal ≡ get_or (beliefs_of bytes) j no_literal → ⊥
  belief_once i j low high e = both_ways (equal_same _ _ e) (distinct_at same (beliefs_of bytes) i j no_literal beliefs-distinct low high)

  -- ---- Plans

  pub few_plans : plan_count bytes ≤ 32
  few_plans = contents.0

  module _ (plan : ℕ) (there : plan < plan_count bytes) where
    pub entry_within : entry_off bytes plan + entry_length bytes plan ≤ length bytes
    unfolding is_packed
    entry_within = rw zero-add at (packed_at bytes (plan_count bytes) 0 (plans_off bytes) plan passed.1 there)

    pub plan_fits_lem : plan_fits bytes plan ≡ true
    unfolding plans_fit
    plan_fits_lem = rw zero-add at (range_at (plan_fits bytes) (plan_count bytes) 0 plan passed.3 there)

    -- a plan keeps the rules
    pub plan_ok_lem : plan_ok (plan_of bytes plan) ≡ true
    unfolding plan_fits_at
    plan_ok_lem = (and_parts (plan_ok (plan_of bytes plan)) _ plan_fits_lem).0

    pub keeps : KeepsRules (plan_of bytes plan)
    keeps = keeps_rules (plan_of bytes plan) plan_ok_lem

    -- its trigger's field is a kind 0..4, with 16 × (v + 1) added for a variable V0..V7 or with nothing
    pub plan-field : (u16_at bytes (entry_off bytes plan) ≡ (plan_of bytes plan).kind + 16 * (plan_of bytes plan).least)
        × ((plan_of bytes plan).kind ≤ 4) × ((plan_of bytes plan).least ≤ 8)
    unfolding plan_at
    plan-field = (field_is (u16_at bytes (entry_off bytes plan)), keeps.kind, keeps.least)

    -- it ends where its entry says
    pub plan_end_lem : plan_end bytes (entry_off bytes plan) ≡ entry_off bytes plan + entry_length bytes plan
    unfolding plan_fits_at
    plan_end_lem = eqb-true _ _ (and_parts (plan_ok (plan_of bytes plan)) _ plan_fits_lem).1

    -- a branch of a state: its kind, its literal, and a next state above its own that exists
    module _ (state i : ℕ) (in-states : state < length (plan_of bytes plan).states) (in-state : i < length (get_or (plan_of bytes plan).states state [])) where
      abbrev pub this_branch : Branch
      this_branch = get_or (get_or (plan_of bytes plan).states state []) i no_branch

      branch_keeps : branch_ok (length (plan_of bytes plan).states) state this_branch ≡ true
      branch_keeps = branch_ok_lem (plan_of bytes plan).states keeps.states state in-states i in-state

      pub branch_kind : this_branch.kind ≤ 5
      branch_kind = kind_in_lem _ _ this_branch branch_keeps

      pub branch_sign : this_branch.kind ≡ 2 → this_branch.literal.head < negative
      branch_sign e = positive _ _ this_branch branch_keeps e

      pub branch_division : this_branch.kind ≡ 5
          → (this_branch.literal.head < variable_pairs) × (quotient_in this_branch.literal.head ≡ remainder_in this_branch.literal.head → ⊥) × (this_branch.literal.third ≡ 0)
      branch_division e = division _ _ this_branch branch_keeps e

      pub branch_above : state < this_branch.next
      branch_above = next_above _ _ this_branch branch_keeps

      pub branch_below : this_branch.next < length (plan_of bytes plan).states
      branch_below = next_below _ _ this_branch branch_keeps

-- the library as a value keeps the rules
module _ (bytes : List ℕ) (accepted : Accepted bytes) where
  pub library_ok_lem : library_ok (library_of bytes) ≡ true
  unfolding library_ok library_of
  library_ok_lem =
      let plans = le-leb (length (items (plan_of bytes) 1 (plan_count bytes) 0)) 32 (rw (length-items (plan_of bytes) 1 (plan_count bytes) 0) (few_plans bytes accepted)) in
      let beliefs = le-leb (length (beliefs_of bytes)) 64 (few-beliefs bytes accepted) in
      let each = items-all plan_ok (plan_of bytes) (plan_count bytes) 0 (λ i low high. plan_ok_lem bytes accepted i (omega arith)) in
      rw (plans, beliefs, (passed bytes accepted).2, each)

-- ---- The plan part

part-given : (refused : ℕ) (a b : Bool) → (a ≡ false → refused ≡ 0 → ⊥) → cond a (cond b 0 11) refused ≡ 0 → (a ≡ true) × (b ≡ true)
part-given refused true true h e = (refl, refl)
part-given refused true false h e = absurd (omega arith)
part-given refused false b h e = absurd (h refl e)

pub part_empty : (bytes : List ℕ) (plan refused : ℕ) → refused ≡ part_refusal_of bytes plan → (refused ≡ 0 → ⊥) → [] ≡ part_of bytes plan
unfolding part_of
part_empty bytes plan refused e h = rw (← e, ne_eqb refused 0 h)

module _ (bytes : List ℕ) (plan : ℕ) (given : part_refusal_of bytes plan ≡ 0) where
  given_by : (eqb (refusal_of bytes) 0 ≡ true) × (ltb plan (plan_count bytes) ≡ true)
  unfolding part_refusal_of
  given_by = part-given (refusal_of bytes) (eqb (refusal_of bytes) 0) (ltb plan (plan_count bytes)) (eqb-false (refusal_of bytes) 0) given

  pub part-accepted : Accepted bytes
  part-accepted = eqb-true (refusal_of bytes) 0 given_by.0

  pub part_there : plan < plan_count bytes
  part_there = ltb-true plan (plan_count bytes) given_by.1

  pub part_within : entry_off bytes plan + entry_length bytes plan ≤ length bytes
  part_within = entry_within bytes part-accepted plan part_there

  -- the part from the offset to the end is the bytes that the entry names
  pub part_is : (off size : ℕ) → off ≡ entry_off bytes plan → size ≡ entry_length bytes plan → take (off + size - off) (drop off bytes) ≡ part_of bytes plan
  unfolding part_of
  part_is off size p q = rw (eq-eqb (part_refusal_of bytes plan) 0 given, ← p, ← q, add-sub_cancel_left off size)
