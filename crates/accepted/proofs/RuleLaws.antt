-- The steps of the loops that test the rules for a plan.
use Prim.Native.Nat.{ℕ, ◌+◌, ◌*◌, ◌-◌, ◌<◌, ◌≤◌}
use mathlib.Core.Path.{◌≡◌, refl, ap, ap₂, sym}
use mathlib.Core.Bool.{Bool, true, false}
use mathlib.Core.List.{List}
use borrow.Author.Tests.{le-leb, lt-leb}
use Rattle.std.specs.Prelude.{Option, None, Some}
use Rattle.std.specs.Bool.{then_some}
use Rattle.std.specs.List.{list_all}
use Rattle.std.proofs.lemmas.Option.{none-some, same_Some}
use Rattle.library.specs.declared.Branch.{Branch}
use Rattle.library.specs.Bytes.{u16_at, literal_at, action_at, branch_at, items, rows, rows_end}
use Rattle.library.specs.Layout.{situation_at, situation_end, actions_at, actions_end, states_at, states_end}
use Rattle.accepted.specs.Rules.{at_most, situation_ok, action_ok, actions_ok, branch_ok, state_ok, states_from, is_tree, states_ok}
use Rattle.library.proofs.RowLaws.{length-items, length-rows, left_next, left_none, all_left, row_next, end_step}

-- ---- Alternatives of at most four literals

-- where n alternatives end that have no more
abbrev pub alternatives_end : List ℕ → ℕ → ℕ → Option ℕ
alternatives_end bytes n at = then_some (list_all (at_most 4) (rows (literal_at bytes) bytes 8 n at)) (rows_end bytes 8 n at)

module _ (bytes : List ℕ) (n i at : ℕ) where
  module _ (count : ℕ) (e : count ≡ u16_at bytes at) (h : i < n) where
    pub alternatives-step : count ≤ 4 → alternatives_end bytes (n - (i + 1)) (at + (2 + 8 * count)) ≡ alternatives_end bytes (n - i) at
    unfolding rows rows_end
    alternatives-step few =
        let short : list_all (at_most 4) (rows (literal_at bytes) bytes 8 (n - (i + 1)) (at + (2 + 8 * count))) ≡ list_all (at_most 4) (rows (literal_at bytes) bytes 8 (n - i) at)
        = simp (left_next n i h, row_next bytes 8 at count, ← e, length-items, le-leb count 4 few) in
        ap₂ then_some short (end_step bytes 8 n i at count e h)

    pub alternatives_stop : 4 < count → None ≡ alternatives_end bytes (n - i) at
    unfolding rows rows_end
    alternatives_stop many = simp (left_next n i h, ← e, length-items, lt-leb count 4 many)

  pub alternatives_done : n ≤ i → Some at ≡ alternatives_end bytes (n - i) at
  unfolding rows rows_end
  alternatives_done h = rw (left_none n i h) refl

-- ---- Parts that end where they keep their rules

pub broken : (ok : Bool) (end : ℕ) → false ≡ ok → None ≡ then_some ok end
broken ok end e = ap (λ (b : Bool). then_some b end) e

pub kept : (ok : Bool) (end r : ℕ) → ok ≡ true → r ≡ end → Some r ≡ then_some ok end
kept ok end r e p = rw (e, p) refl

pub went : (ok : Bool) (end r : ℕ) → Some r ≡ then_some ok end → (ok ≡ true) × (r ≡ end)
went true end r e = (refl, same_Some r end e)
went false end r e = absurd (none-some r (sym e))

pub stuck : (ok : Bool) (end : ℕ) → None ≡ then_some ok end → ok ≡ false
stuck true end e = absurd (none-some end e)
stuck false end e = refl

-- ---- Situations and actions, by their number

module _ (bytes : List ℕ) (at count : ℕ) (e : count ≡ u16_at bytes at) where
  pub situation-many : 4 < count → false ≡ situation_ok (situation_at bytes at)
  unfolding situation_ok situation_at
  situation-many many = rw (← e, length-rows (literal_at bytes) bytes 8 count (at + 2), lt-leb count 4 many)

  pub situation-few : count ≤ 4 → list_all (at_most 4) (rows (literal_at bytes) bytes 8 count (at + 2)) ≡ situation_ok (situation_at bytes at)
  unfolding situation_ok situation_at
  situation-few few = rw (← e, length-rows (literal_at bytes) bytes 8 count (at + 2), le-leb count 4 few)

  pub actions-many : 4 < count → false ≡ actions_ok (actions_at bytes at)
  unfolding actions_ok actions_at
  actions-many many = rw (← e, length-items (action_at bytes) 10 count (at + 2), lt-leb count 4 many)

  pub actions-few : count ≤ 4 → list_all action_ok (items (action_at bytes) 10 count (at + 2)) ≡ actions_ok (actions_at bytes at)
  unfolding actions_ok actions_at
  actions-few few = rw (← e, length-items (action_at bytes) 10 count (at + 2), le-leb count 4 few)

module _ (bytes : List ℕ) (at : ℕ) where
  pub situation_end_lem : (count : ℕ) → count ≡ u16_at bytes at → rows_end bytes 8 count (at + 2) ≡ situation_end bytes at
  unfolding situation_end
  situation_end_lem count e = rw e

  pub actions_end_lem : (count : ℕ) → count ≡ u16_at bytes at → at + 2 + 10 * count ≡ actions_end bytes at
  unfolding actions_end
  actions_end_lem count e = rw e

-- ---- States

module _ (read : ℕ → Branch) (width count state n at : ℕ) where
  pub state-many : 4 < n → false ≡ state_ok count state (items read width n at)
  unfolding state_ok
  state-many h = rw (length-items read width n at, lt-leb n 4 h)

  pub state-few : n ≤ 4 → (ok : Bool) → ok ≡ list_all (branch_ok count state) (items read width n at) → ok ≡ state_ok count state (items read width n at)
  unfolding state_ok
  state-few h ok e = rw (length-items read width n at, le-leb n 4 h) e

-- where the states from one on end that are such
abbrev pub states_end_from : ℕ → List ℕ → ℕ → ℕ → Option ℕ
states_end_from count bytes state at =
    then_some (states_from count state (rows (branch_at bytes) bytes 12 (count - state) at)) (rows_end bytes 12 (count - state) at)

module _ (count : ℕ) (bytes : List ℕ) (state at : ℕ) where
  module _ (branches : ℕ) (e : branches ≡ u16_at bytes at) (h : state < count) (ok : Bool) (p : ok ≡ state_ok count state (items (branch_at bytes) 12 branches (at + 2))) where
    pub states-step : ok ≡ true → states_end_from count bytes (state + 1) (at + (2 + 12 * branches)) ≡ states_end_from count bytes state at
    unfolding states_from rows rows_end
    states-step t =
        let read = branch_at bytes in
        let formed : states_from count (state + 1) (rows read bytes 12 (count - (state + 1)) (at + (2 + 12 * branches))) ≡ states_from count state (rows read bytes 12 (count - state) at)
        = simp (left_next count state h, row_next bytes 12 at branches, ← e, ← p, t) in
        ap₂ then_some formed (end_step bytes 12 count state at branches e h)

    pub states_stop : ok ≡ false → None ≡ states_end_from count bytes state at
    unfolding states_from rows rows_end
    states_stop f = simp (left_next count state h, ← e, ← p, f)

  pub states_done : count ≤ state → Some at ≡ states_end_from count bytes state at
  unfolding states_from rows rows_end
  states_done h = rw (left_none count state h) refl

-- from state 0 on it is all of them
pub states_all : (count : ℕ) (bytes : List ℕ) (at : ℕ)
    → states_end_from count bytes 0 at ≡ then_some (states_from count 0 (rows (branch_at bytes) bytes 12 count at)) (rows_end bytes 12 count at)
states_all count bytes at =
    ap (λ (n : ℕ). then_some (states_from count 0 (rows (branch_at bytes) bytes 12 n at)) (rows_end bytes 12 n at)) (all_left count)

-- ---- A body, test by test

pub states_end_lem : (bytes : List ℕ) (at count : ℕ) → count ≡ u16_at bytes at → rows_end bytes 12 count (at + 2) ≡ states_end bytes at
unfolding states_end
states_end_lem bytes at count e = rw e

module _ (bytes : List ℕ) (at count : ℕ) (e : count ≡ u16_at bytes at) where
  pub states-none : count < 1 → false ≡ states_ok (states_at bytes at)
  unfolding states_ok states_at
  states-none h = rw (← e, length-rows (branch_at bytes) bytes 12 count (at + 2), lt-leb 1 count h)

  module _ (some : 1 ≤ count) where
    pub states-many : 16 < count → false ≡ states_ok (states_at bytes at)
    unfolding states_ok states_at
    states-many h = rw (← e, length-rows (branch_at bytes) bytes 12 count (at + 2), le-leb 1 count some, lt-leb count 16 h)

    module _ (few : count ≤ 16) where
      pub states-fail : states_from count 0 (rows (branch_at bytes) bytes 12 count (at + 2)) ≡ false → false ≡ states_ok (states_at bytes at)
      unfolding states_ok states_at
      states-fail h = rw (← e, length-rows (branch_at bytes) bytes 12 count (at + 2), le-leb 1 count some, le-leb count 16 few, h)

      pub tree_decides : states_from count 0 (rows (branch_at bytes) bytes 12 count (at + 2)) ≡ true
          → is_tree (rows (branch_at bytes) bytes 12 count (at + 2)) ≡ states_ok (states_at bytes at)
      unfolding states_ok states_at
      tree_decides h = rw (← e, length-rows (branch_at bytes) bytes 12 count (at + 2), le-leb 1 count some, le-leb count 16 few, h)
