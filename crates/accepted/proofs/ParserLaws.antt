-- The parser of a plan gives the plan of the layout, exactly where the plan keeps the rules and ends where its entry says.
use Prim.Native.Nat.{ℕ, ◌+◌, ◌<◌, ◌≤◌}
use mathlib.Core.Path.{◌≡◌, refl, sym, ap, ◌∙◌}
use mathlib.Core.Bool.{Bool, true, false, cond, ◌&&◌}
use mathlib.Core.List.{List, [], ◌∷◌}
use native.Mathlib.Omega.{arith}
use borrow.Author.Tests.{leb-true, le-leb, eqb-true, eq-eqb}
use lib.ListN.{length, drop, length-drop}
use lib.Dec.{leb, eqb}
use Rattle.std.specs.List.{list_all}
use Rattle.lists.proofs.BoolLaws.{and_parts}
use Rattle.lists.proofs.AndLaws.{and_swap, all_both}
use Rattle.literal.specs.declared.Literal.{Literal}
use Rattle.library.specs.declared.Action.{Action}
use Rattle.library.specs.declared.Branch.{Branch}
use Rattle.library.specs.Plan.{Situation, Plan}
use Rattle.library.specs.Bytes.{u16_at, literal_at, action_at, branch_at, rows, rows_end}
use Rattle.library.specs.Layout.{situation_at, situation_end, actions_at, actions_end, states_at, states_end, maintenance_off, success_off, failure_off, states_off, plan_end, plan_at, kind_in, least_in, plan_count, plan_of, entry_off, entry_length}
use Rattle.accepted.specs.Rules.{at_most, situation_ok, action_ok, actions_ok, literal_ok, branch_ok, state_ok, states_from, is_tree, states_ok, trigger_ok, plan_ok}
use Rattle.accepted.specs.Refusal.{plan_fits_at, Accepted}
use Rattle.accepted.specs.Parser.{literal, situation, action, actions, branch, leads, leads_up, form_tree, state, states, trigger, plan, up_to_four}
use Rattle.accepted.specs.Parser.Parsed.{parsed, off_layout}
use Rattle.library.proofs.RowLaws.{length-rows}
use Rattle.accepted.proofs.Accepted.{plan_fits_lem, entry_within}
use Rattle.accepted.proofs.ReadsLaws.{Reads, and_true, and_assoc, then_reads, renamed, value_reads, given_reads, if_reads, number_reads, up_to_reads, four_read, rows-read}

-- ---- Literals, situations and actions

literal_reads : (bytes : List ℕ) → Reads bytes literal (λ at. true) (literal_at bytes) (λ at. at + 8)
unfolding literal
literal_reads bytes =
    renamed
    (then_reads (number_reads bytes) _ (λ h at. true) (λ h at. record { head = h; first = u16_at bytes at; second = u16_at bytes (at + 2); third = u16_at bytes (at + 2 + 2) }) (λ h at. at + 2 + 2 + 2)
    (λ h. then_reads (number_reads bytes) _ (λ a at. true) (λ a at. record { head = h; first = a; second = u16_at bytes at; third = u16_at bytes (at + 2) }) (λ a at. at + 2 + 2)
    (λ a. then_reads (number_reads bytes) _ (λ b at. true) (λ b at. record { head = h; first = a; second = b; third = u16_at bytes at }) (λ b at. at + 2)
    (λ b. then_reads (number_reads bytes) _ (λ c at. true) (λ c at. record { head = h; first = a; second = b; third = c }) (λ c at. at)
    (λ c. value_reads bytes (record { head = h; first = a; second = b; third = c }))))))
    (λ at. true)
    (literal_at bytes)
    (λ at. at + 8)
    (λ at. refl)
    (λ at. (let x : at + 2 + 2 ≡ at + 4 = omega arith in let y : at + 2 + 2 + 2 ≡ at + 6 = omega arith in cc))
    (λ at. omega arith)

all_pass : {A : Type 0} (xs : List A) → list_all (λ x. true) xs ≡ true
all_pass [] = refl
all_pass (x ∷ xs) = all_pass xs

all_same : {A : Type 0} (p q : A → Bool) → ((x : A) → p x ≡ q x) → (xs : List A) → list_all p xs ≡ list_all q xs
all_same p q h [] = refl
all_same p q h (x ∷ xs) = rw (h x, all_same p q h xs)

situation_reads : (bytes : List ℕ) → Reads bytes situation (λ at. situation_ok (situation_at bytes at)) (situation_at bytes) (situation_end bytes)
unfolding situation up_to_four situation_ok situation_at situation_end
situation_reads bytes =
    renamed
    (then_reads (up_to_reads bytes 4) _ (λ n at. list_all (λ row. at_most 4 row && list_all (λ l. true) row) (rows (literal_at bytes) bytes 8 n at)) (λ n at. rows (literal_at bytes) bytes 8 n at) (λ n at. rows_end bytes 8 n at) (λ n. rows-read (λ (l : Literal). true) 8 (literal_reads bytes) n))
    _ _ _
    (λ at. rw (length-rows (literal_at bytes) bytes 8 (u16_at bytes at) (at + 2)) (ap (λ t. leb (u16_at bytes at) 4 && t) (short (rows (literal_at bytes) bytes 8 (u16_at bytes at) (at + 2)))))
    (λ at. refl)
    (λ at. refl)
  where
    short : (situation : Situation) → list_all (λ row. at_most 4 row && list_all (λ l. true) row) situation ≡ list_all (at_most 4) situation
    short = all_same _ _ (λ row. rw (all_pass row) (and_true (at_most 4 row)))

action_reads : (bytes : List ℕ) → Reads bytes action (λ at. action_ok (action_at bytes at)) (action_at bytes) (λ at. at + 10)
unfolding action
action_reads bytes =
    renamed
    (then_reads (up_to_reads bytes 1) _ (λ k at. true) (λ k at. record { kind = k; literal = literal_at bytes at }) (λ k at. at + 8)
    (λ k. then_reads (literal_reads bytes) _ (λ l at. true) (λ l at. record { kind = k; literal = l }) (λ l at. at)
    (λ l. value_reads bytes (record { kind = k; literal = l }))))
    (λ at. action_ok (action_at bytes at))
    (action_at bytes)
    (λ at. at + 10)
    (λ at. and_true (leb (u16_at bytes at) 1))
    (λ at. refl)
    (λ at. omega arith)

actions-read : (bytes : List ℕ) → Reads bytes actions (λ at. actions_ok (actions_at bytes at)) (actions_at bytes) (actions_end bytes)
unfolding actions actions_ok actions_at actions_end
actions-read bytes = four_read action_ok 10 (action_reads bytes)

-- ---- States

-- what a branch is by itself, wherever it leads
abbrev branch_alone : Branch → Bool
branch_alone b = leb b.kind 5 && literal_ok b.kind b.literal

abbrev state_alone : List Branch → Bool
state_alone branches = at_most 4 branches && list_all branch_alone branches

branch_reads : (bytes : List ℕ) → Reads bytes branch (λ at. branch_alone (branch_at bytes at)) (branch_at bytes) (λ at. at + 12)
unfolding branch
branch_reads bytes =
    renamed
    (then_reads (up_to_reads bytes 5) _ (λ k at. literal_ok k (literal_at bytes at)) (λ k at. record { kind = k; literal = literal_at bytes at; next = u16_at bytes (at + 8) }) (λ k at. at + 8 + 2)
    (λ k. then_reads (literal_reads bytes) _ (λ l at. literal_ok k l) (λ l at. record { kind = k; literal = l; next = u16_at bytes at }) (λ l at. at + 2)
    (λ l. then_reads (number_reads bytes) _ (λ n at. literal_ok k l) (λ n at. record { kind = k; literal = l; next = n }) (λ n at. at)
    (λ n. given_reads bytes (literal_ok k l) (record { kind = k; literal = l; next = n })))))
    (λ at. branch_alone (branch_at bytes at))
    (branch_at bytes)
    (λ at. at + 12)
    (λ at. refl)
    (λ at. (let x : at + 2 + 8 ≡ at + 10 = omega arith in cc))
    (λ at. omega arith)

-- a state's rules: what its branches are by themselves, and where they lead
state-both : (count i : ℕ) (branches : List Branch) → state_ok count i branches ≡ (state_alone branches && list_all (leads count i) branches)
unfolding state_ok branch_ok
state-both count i branches =
    let split = all_same (branch_ok count i) (λ b. branch_alone b && leads count i b) (λ b. and_assoc (leb b.kind 5) (literal_ok b.kind b.literal) (leads count i b)) branches ∙ all_both branch_alone (leads count i) branches in
    ap (λ t. at_most 4 branches && t) split ∙ and_assoc (at_most 4 branches) (list_all branch_alone branches) (list_all (leads count i) branches)

states-both : (count i : ℕ) (ss : List (List Branch)) → states_from count i ss ≡ (list_all state_alone ss && leads_up count i ss)
unfolding states_from leads_up
states-both count i [] = refl
states-both count i (branches ∷ rest) =
    rw (state-both count i branches, states-both count (i + 1) rest)
    (and_swap (state_alone branches) (list_all (leads count i) branches) (list_all state_alone rest) (leads_up count (i + 1) rest))

states_test : (ss : List (List Branch)) → ((leb 1 (length ss) && at_most 16 ss) && (list_all state_alone ss && form_tree ss)) ≡ states_ok ss
unfolding states_ok form_tree
states_test ss =
    rw (states-both (length ss) 0 ss)
    (go (leb 1 (length ss)) (at_most 16 ss) (list_all state_alone ss) (leads_up (length ss) 0 ss) (is_tree ss))
  where
    go : (a b c d e : Bool) → ((a && b) && (c && (d && e))) ≡ (a && (b && ((c && d) && e)))
    go true true true d e = refl
    go true true false d e = refl
    go true false c d e = refl
    go false b c d e = refl

states-read : (bytes : List ℕ) → Reads bytes states (λ at. states_ok (states_at bytes at)) (states_at bytes) (states_end bytes)
unfolding states state states_at states_end
states-read bytes =
    renamed
    (then_reads (number_reads bytes) _
    (λ n at. (leb 1 n && leb n 16) && (list_all state_alone (rows (branch_at bytes) bytes 12 n at) && form_tree (rows (branch_at bytes) bytes 12 n at)))
    (λ n at. rows (branch_at bytes) bytes 12 n at)
    (λ n at. rows_end bytes 12 n at)
    (λ n. if_reads (leb 1 n && leb n 16)
    (then_reads (rows-read branch_alone 12 (branch_reads bytes) n) _ (λ ss at. form_tree ss) (λ ss at. ss) (λ ss at. at) (λ ss. given_reads bytes (form_tree ss) ss))))
    _ _ _
    (λ at. ap (λ (n : ℕ). (leb 1 n && leb n 16) && (list_all state_alone (states_at bytes at) && form_tree (states_at bytes at))) (sym (length-rows (branch_at bytes) bytes 12 (u16_at bytes at) (at + 2))) ∙ states_test (states_at bytes at))
    (λ at. refl)
    (λ at. refl)

-- ---- A plan

trigger_reads : (bytes : List ℕ) → Reads bytes trigger (λ at. trigger_ok (kind_in (u16_at bytes at)) (least_in (u16_at bytes at))) (u16_at bytes) (λ at. at + 2)
unfolding trigger
trigger_reads bytes = then_reads (number_reads bytes) _ (λ field at. trigger_ok (kind_in field) (least_in field)) (λ field at. field) (λ field at. at) (λ field. given_reads bytes (trigger_ok (kind_in field) (least_in field)) field)

abbrev plan_from : ℕ → Literal → Situation → Situation → List Action → List Action → List (List Branch) → Plan
plan_from field trigger context maintenance success failure ss =
    record { kind = kind_in field; least = least_in field; trigger = trigger; context = context; maintenance = maintenance; success = success; failure = failure; states = ss }

plan_reads : (bytes : List ℕ) → Reads bytes plan (λ at. plan_ok (plan_at bytes at)) (plan_at bytes) (plan_end bytes)
unfolding plan plan_ok plan_at plan_end states_off failure_off success_off maintenance_off
plan_reads bytes =
    renamed
    (then_reads (trigger_reads bytes) _ _ _ _
    (λ field. then_reads (literal_reads bytes) _ _ _ _
    (λ l. then_reads (situation_reads bytes) _ _ _ _
    (λ context. then_reads (situation_reads bytes) _ _ _ _
    (λ maintenance. then_reads (actions-read bytes) _ _ _ _
    (λ success. then_reads (actions-read bytes) _ _ _ _
    (λ failure. then_reads (states-read bytes) _ _ _ _
    (λ ss. value_reads bytes (plan_from field l context maintenance success failure ss)))))))))
    _ _ _
    (λ at. (let x : at + 2 + 8 ≡ at + 10 = omega arith in simp (x, and_true)))
    (λ at. (let x : at + 2 + 8 ≡ at + 10 = omega arith in simp x))
    (λ at. (let x : at + 2 + 8 ≡ at + 10 = omega arith in simp x))

module _ (bytes : List ℕ) (off size : ℕ) (within : off + size ≤ length bytes) where
  -- where stage 4 accepts, the plan parses, and what is left starts where its entry ends
  pub fits_parses : plan_fits_at bytes off size ≡ true → plan (drop off bytes) ≡ parsed (plan_at bytes off) (drop (off + size) bytes)
  unfolding plan_fits_at
  fits_parses e =
      let both = and_parts (plan_ok (plan_at bytes off)) (eqb (plan_end bytes off) (off + size)) e in
      let ends = eqb-true (plan_end bytes off) (off + size) both.1 in
      (plan_reads bytes).reads off (omega arith) ∙ rw (both.0, ends, le-leb (off + size) (length bytes) within)

  -- and only there
  pub parses_fits : (p : Plan) → plan (drop off bytes) ≡ parsed p (drop (off + size) bytes) → plan_fits_at bytes off size ≡ true
  unfolding plan_fits_at
  parses_fits p h =
      let same = got (plan_ok (plan_at bytes off) && leb (plan_end bytes off) (length bytes)) (plan_at bytes off) (drop (plan_end bytes off) bytes) (sym ((plan_reads bytes).reads off (omega arith)) ∙ h) in
      let both = and_parts (plan_ok (plan_at bytes off)) (leb (plan_end bytes off) (length bytes)) same.0 in
      let inside = leb-true (plan_end bytes off) (length bytes) both.1 in
      let left = ap length same.1 in
      let one = length-drop (plan_end bytes off) bytes in
      let two = length-drop (off + size) bytes in
      let ends : plan_end bytes off ≡ off + size = omega arith in
      rw (both.0, eq-eqb (plan_end bytes off) (off + size) ends)
    where
      got : (test : Bool) (v : Plan) (rest : List ℕ) → cond test (parsed v rest) off_layout ≡ parsed p (drop (off + size) bytes) → (test ≡ true) × (rest ≡ drop (off + size) bytes)
      got true v rest h = (refl, cc)
      got false v rest h = let z : ◌≡◌ {A = ℕ} 0 1 = cc in absurd (omega arith)

-- each plan of an accepted library parses from its entry's offset to its entry's end
pub accepted_parses : (bytes : List ℕ) → Accepted bytes → (i : ℕ) → i < plan_count bytes
    → plan (drop (entry_off bytes i) bytes) ≡ parsed (plan_of bytes i) (drop (entry_off bytes i + entry_length bytes i) bytes)
accepted_parses bytes accepted i there = fits_parses bytes (entry_off bytes i) (entry_length bytes i) (entry_within bytes accepted i there) (plan_fits_lem bytes accepted i there)
