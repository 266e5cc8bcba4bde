-- What the rules for a plan give, at an index.
use Prim.Native.Nat.{ℕ, zero, suc, ◌+◌, ◌-◌, ◌<◌, ◌≤◌}
use mathlib.Core.Path.{◌≡◌}
use mathlib.Core.Bool.{true, not}
use mathlib.Core.List.{List, [], ◌∷◌}
use native.Mathlib.Nat.{add-zero, zero-add}
use native.Mathlib.Omega.{arith}
use borrow.Author.Tests.{leb-true, ltb-true, eqb-true, eqb-false, eq-eqb, ne_eqb, not-true}
use lib.ListN.{length, get_or}
use lib.Dec.{leb, ltb, eqb}
use Rattle.std.specs.List.{list_all}
use Rattle.lists.proofs.BoolLaws.{and_parts}
use Rattle.lists.proofs.AllLaws.{all_at}
use Rattle.literal.specs.Literal.{negative}
use Rattle.literal.specs.Divide.{quotient_in, remainder_in, variable_pairs}
use Rattle.library.specs.declared.Action.{Action}
use Rattle.library.specs.declared.Branch.{Branch}
use Rattle.library.specs.Plan.{Situation, Plan, no_action, no_branch}
use Rattle.accepted.specs.Rules.{at_most, situation_ok, action_ok, actions_ok, division_ok, literal_ok, branch_ok, state_ok, states_from, entries, entered_once, is_tree, states_ok, trigger_ok, plan_ok}
use Rattle.library.proofs.RowLaws.{range_at}

-- ---- Situations and actions

module _ (situation : Situation) (ok : situation_ok situation ≡ true) where
  pub parts-situation : (at_most 4 situation ≡ true) × (list_all (at_most 4) situation ≡ true)
  unfolding situation_ok
  parts-situation = and_parts (at_most 4 situation) (list_all (at_most 4) situation) ok

  pub few_alternatives : length situation ≤ 4
  few_alternatives = leb-true _ _ parts-situation.0

  pub few_literals : (i : ℕ) → i < length situation → length (get_or situation i []) ≤ 4
  few_literals i h = leb-true _ _ (all_at (at_most 4) situation i [] parts-situation.1 h)

module _ (actions : List Action) (ok : actions_ok actions ≡ true) where
  parts-actions : (at_most 4 actions ≡ true) × (list_all action_ok actions ≡ true)
  unfolding actions_ok
  parts-actions = and_parts (at_most 4 actions) (list_all action_ok actions) ok

  pub few-actions : length actions ≤ 4
  few-actions = leb-true _ _ parts-actions.0

  pub action_kind_lem : (i : ℕ) → i < length actions → (get_or actions i no_action).kind ≤ 1
  action_kind_lem i h = leb-true _ _ (all_at action_ok actions i no_action parts-actions.1 h)

-- ---- Branches and states

module _ (count state : ℕ) (branch : Branch) (ok : branch_ok count state branch ≡ true) where
  tests : (leb branch.kind 5 ≡ true) × (literal_ok branch.kind branch.literal ≡ true) × (ltb state branch.next ≡ true) × (ltb branch.next count ≡ true)
  unfolding branch_ok
  tests =
      let kind = and_parts (leb branch.kind 5) _ ok in
      let literal = and_parts (literal_ok branch.kind branch.literal) _ kind.1 in
      let next = and_parts (ltb state branch.next) _ literal.1 in
      (kind.0, literal.0, next.0, next.1)

  pub kind_in_lem : branch.kind ≤ 5
  kind_in_lem = leb-true _ _ tests.0

  pub positive : branch.kind ≡ 2 → branch.literal.head < negative
  positive e = ltb-true _ _ (rw (eq-eqb _ _ e) at tests.1)

  -- a divide names two different variables, and its third term is 0
  pub division : branch.kind ≡ 5
      → (branch.literal.head < variable_pairs) × (quotient_in branch.literal.head ≡ remainder_in branch.literal.head → ⊥) × (branch.literal.third ≡ 0)
  division e =
      let l = branch.literal in
      let ok : division_ok l ≡ true = rw (ne_eqb branch.kind 2 (λ q. absurd (omega arith)), eq-eqb branch.kind 5 e) at tests.1 in
      let pair = and_parts (ltb l.head variable_pairs) _ ok in
      let two = and_parts (not (eqb (quotient_in l.head) (remainder_in l.head))) _ pair.1 in
      (ltb-true _ _ pair.0, eqb-false _ _ (not-true _ two.0), eqb-true _ _ two.1)

  pub next_above : state < branch.next
  next_above = ltb-true _ _ tests.2

  pub next_below : branch.next < count
  next_below = ltb-true _ _ tests.3

module _ (count state : ℕ) (branches : List Branch) (ok : state_ok count state branches ≡ true) where
  parts-state : (at_most 4 branches ≡ true) × (list_all (branch_ok count state) branches ≡ true)
  unfolding state_ok
  parts-state = and_parts (at_most 4 branches) (list_all (branch_ok count state) branches) ok

  pub few-branches : length branches ≤ 4
  few-branches = leb-true _ _ parts-state.0

  pub branches_ok : list_all (branch_ok count state) branches ≡ true
  branches_ok = parts-state.1

pub state_at : (count first : ℕ) (states : List (List Branch)) (state : ℕ) → states_from count first states ≡ true → state < length states
    → state_ok count (first + state) (get_or states state []) ≡ true
unfolding states_from
state_at count first [] state ok h = absurd (omega arith)
state_at count first (branches ∷ rest) zero ok h = rw add-zero (and_parts (state_ok count first branches) (states_from count (first + 1) rest) ok).0
state_at count first (branches ∷ rest) (suc state) ok h =
    let later = state_at count (first + 1) rest state (and_parts (state_ok count first branches) (states_from count (first + 1) rest) ok).1 (omega arith) in
    let place : first + 1 + state ≡ first + suc state = omega arith in
    rw place at later

module _ (states : List (List Branch)) (ok : states_ok states ≡ true) where
  pub parts-states : (leb 1 (length states) ≡ true) × (at_most 16 states ≡ true) × (states_from (length states) 0 states ≡ true) × (is_tree states ≡ true)
  unfolding states_ok
  parts-states =
      let some = and_parts (leb 1 (length states)) _ ok in
      let few = and_parts (at_most 16 states) _ some.1 in
      let each = and_parts (states_from (length states) 0 states) _ few.1 in
      (some.0, few.0, each.0, each.1)

  pub some-state : 1 ≤ length states
  some-state = leb-true _ _ parts-states.0

  pub few-states : length states ≤ 16
  few-states = leb-true _ _ parts-states.1

  -- each state but 0 is the next state of exactly one branch
  pub entered_once_lem : (state : ℕ) → 1 ≤ state → state < length states → entries state states ≡ 1
  unfolding is_tree
  entered_once_lem state low high =
      let place : 1 + (state - 1) ≡ state = omega arith in
      eqb-true _ _ (rw place at (range_at (entered_once states) (length states - 1) 1 (state - 1) parts-states.3 (omega arith)))

  module _ (state : ℕ) (there : state < length states) where
    here : state_ok (length states) state (get_or states state []) ≡ true
    here = rw zero-add at (state_at (length states) 0 states state parts-states.2 there)

    pub state-branches : length (get_or states state []) ≤ 4
    state-branches = few-branches (length states) state (get_or states state []) here

    pub branch_ok_lem : (i : ℕ) → i < length (get_or states state []) → branch_ok (length states) state (get_or (get_or states state []) i no_branch) ≡ true
    branch_ok_lem i h = all_at (branch_ok (length states) state) (get_or states state []) i no_branch (branches_ok (length states) state (get_or states state []) here) h

-- ---- Plans

pub record KeepsRules (plan : Plan) : Type 0 where
  pub kind : plan.kind ≤ 4
  pub least : plan.least ≤ 8
  pub context : situation_ok plan.context ≡ true
  pub maintenance : situation_ok plan.maintenance ≡ true
  pub success : actions_ok plan.success ≡ true
  pub failure : actions_ok plan.failure ≡ true
  pub states : states_ok plan.states ≡ true

pub keeps_rules : (plan : Plan) → plan_ok plan ≡ true → KeepsRules plan
unfolding plan_ok
keeps_rules plan ok =
    let trigger = and_parts (trigger_ok plan.kind plan.least) _ ok in
    let field = and_parts (leb plan.kind 4) _ trigger.0 in
    let context = and_parts (situation_ok plan.context) _ trigger.1 in
    let maintenance = and_parts (situation_ok plan.maintenance) _ context.1 in
    let success = and_parts (actions_ok plan.success) _ maintenance.1 in
    let failure = and_parts (actions_ok plan.failure) _ success.1 in
    record {
      kind = leb-true _ _ field.0;
      least = leb-true _ _ field.1;
      context = context.0;
      maintenance = maintenance.0;
      success = success.0;
      failure = failure.0;
      states = failure.1;
    }
