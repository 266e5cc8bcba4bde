-- A plan reads the same wherever it stands: what precedes it only moves the offsets.
use Prim.Native.Nat.{ℕ, zero, suc, ◌+◌, ◌*◌}
use mathlib.Core.Path.{◌≡◌, refl, ap, sym, ◌∙◌}
use mathlib.Core.Bool.{true, false}
use mathlib.Core.List.{List, ◌++◌}
use native.Mathlib.Nat.{add_assoc}
use native.Mathlib.Omega.{arith}
use borrow.Author.Tests.{eq-eqb, ne_eqb, eqb-true, eqb-false}
use lib.ListN.{length}
use lib.Seq.{get_or-append-add}
use lib.Dec.{eqb}
use Rattle.lists.proofs.BoolLaws.{by_cases}
use Rattle.library.specs.Bytes.{u16_at, literal_at, action_at, branch_at, items, rows, rows_end}
use Rattle.library.specs.Layout.{situation_at, situation_end, actions_at, actions_end, states_at, states_end, maintenance_off, success_off, failure_off, states_off, plan_end, plan_at, kind_in, least_in}
use Rattle.accepted.specs.Refusal.{plan_fits_at}

eqb_shift : (a m n : ℕ) → eqb (a + m) (a + n) ≡ eqb m n
eqb_shift a m n =
    by_cases (eqb m n)
    (λ (e : eqb m n ≡ true). eq-eqb (a + m) (a + n) (ap (λ (k : ℕ). a + k) (eqb-true m n e)) ∙ sym e)
    (λ (e : eqb m n ≡ false). ne_eqb (a + m) (a + n) (λ (q : a + m ≡ a + n). eqb-false m n e (omega arith)) ∙ sym e)

module _ (before bytes : List ℕ) where
  abbrev whole : List ℕ
  whole = before ++ bytes

  abbrev past : ℕ → ℕ
  past at = length before + at

  u16_shift : (at : ℕ) → u16_at whole (past at) ≡ u16_at bytes at
  unfolding u16_at
  u16_shift at = rw (get_or-append-add before bytes at 0, add_assoc (length before) at 1, get_or-append-add before bytes (at + 1) 0)

  -- a number further on
  on : (at k : ℕ) → u16_at whole (past at + k) ≡ u16_at bytes (at + k)
  on at k = rw (add_assoc (length before) at k) (u16_shift (at + k))

  literal_shift : (at : ℕ) → literal_at whole (past at) ≡ literal_at bytes at
  literal_shift at =
      let head = u16_shift at in
      let first = on at 2 in
      let second = on at 4 in
      let third = on at 6 in
      λ i. record { head = head i; first = first i; second = second i; third = third i }

  literal_on : (at k : ℕ) → literal_at whole (past at + k) ≡ literal_at bytes (at + k)
  literal_on at k = ap (literal_at whole) (add_assoc (length before) at k) ∙ literal_shift (at + k)

  action_shift : (at : ℕ) → action_at whole (past at) ≡ action_at bytes at
  action_shift at =
      let kind = u16_shift at in
      let literal = literal_on at 2 in
      λ i. record { kind = kind i; literal = literal i }

  branch_shift : (at : ℕ) → branch_at whole (past at) ≡ branch_at bytes at
  branch_shift at =
      let kind = u16_shift at in
      let literal = literal_on at 2 in
      let next = on at 10 in
      λ i. record { kind = kind i; literal = literal i; next = next i }

  -- ---- Items and rows

  module _ {A : Type 0} (read there : ℕ → A) (moved : (k : ℕ) → read (past k) ≡ there k) where
    items_shift : (width n at : ℕ) → items read width n (past at) ≡ items there width n at
    unfolding items
    items_shift width zero at = refl
    items_shift width (suc n) at = rw (moved at, add_assoc (length before) at width, items_shift width n (at + width))

    items_on : (width n at k : ℕ) → items read width n (past at + k) ≡ items there width n (at + k)
    items_on width n at k = rw (add_assoc (length before) at k) (items_shift width n (at + k))

    rows_shift : (width n at : ℕ) → rows read whole width n (past at) ≡ rows there bytes width n at
    unfolding rows
    rows_shift width zero at = refl
    rows_shift width (suc n) at =
        let count = u16_at bytes at in
        let next : past at + 2 + width * count ≡ past (at + 2 + width * count) = omega arith in
        rw (u16_shift at, items_on width count at 2, next, rows_shift width n (at + 2 + width * count))

    rows_on_lem : (width n at k : ℕ) → rows read whole width n (past at + k) ≡ rows there bytes width n (at + k)
    rows_on_lem width n at k = rw (add_assoc (length before) at k) (rows_shift width n (at + k))

  end_shift : (width n at : ℕ) → rows_end whole width n (past at) ≡ past (rows_end bytes width n at)
  unfolding rows_end
  end_shift width zero at = refl
  end_shift width (suc n) at =
      let count = u16_at bytes at in
      let next : past at + 2 + width * count ≡ past (at + 2 + width * count) = omega arith in
      rw (u16_shift at, next, end_shift width n (at + 2 + width * count))

  end_on : (width n at k : ℕ) → rows_end whole width n (past at + k) ≡ past (rows_end bytes width n (at + k))
  end_on width n at k = rw (add_assoc (length before) at k) (end_shift width n (at + k))

  -- ---- The parts of a plan

  situation_shift : (at : ℕ) → situation_at whole (past at) ≡ situation_at bytes at
  unfolding situation_at
  situation_shift at = rw (u16_shift at) (rows_on_lem (literal_at whole) (literal_at bytes) literal_shift 8 (u16_at bytes at) at 2)

  situation_end_lem : (at : ℕ) → situation_end whole (past at) ≡ past (situation_end bytes at)
  unfolding situation_end
  situation_end_lem at = rw (u16_shift at) (end_on 8 (u16_at bytes at) at 2)

  actions_shift : (at : ℕ) → actions_at whole (past at) ≡ actions_at bytes at
  unfolding actions_at
  actions_shift at = rw (u16_shift at) (items_on (action_at whole) (action_at bytes) action_shift 10 (u16_at bytes at) at 2)

  actions_end_lem : (at : ℕ) → actions_end whole (past at) ≡ past (actions_end bytes at)
  unfolding actions_end
  actions_end_lem at = rw (u16_shift at) (omega arith)

  states_shift : (at : ℕ) → states_at whole (past at) ≡ states_at bytes at
  unfolding states_at
  states_shift at = rw (u16_shift at) (rows_on_lem (branch_at whole) (branch_at bytes) branch_shift 12 (u16_at bytes at) at 2)

  states_end_lem : (at : ℕ) → states_end whole (past at) ≡ past (states_end bytes at)
  unfolding states_end
  states_end_lem at = rw (u16_shift at) (end_on 12 (u16_at bytes at) at 2)

  -- ---- A plan

  module _ (off : ℕ) where
    maintenance_off_lem : maintenance_off whole (past off) ≡ past (maintenance_off bytes off)
    unfolding maintenance_off
    maintenance_off_lem = ap (situation_end whole) (add_assoc (length before) off 10) ∙ situation_end_lem (off + 10)

    success_off_lem : success_off whole (past off) ≡ past (success_off bytes off)
    unfolding success_off
    success_off_lem = ap (situation_end whole) maintenance_off_lem ∙ situation_end_lem (maintenance_off bytes off)

    failure_off_lem : failure_off whole (past off) ≡ past (failure_off bytes off)
    unfolding failure_off
    failure_off_lem = ap (actions_end whole) success_off_lem ∙ actions_end_lem (success_off bytes off)

    states_off_lem : states_off whole (past off) ≡ past (states_off bytes off)
    unfolding states_off
    states_off_lem = ap (actions_end whole) failure_off_lem ∙ actions_end_lem (failure_off bytes off)

    pub plan_end_shift : plan_end whole (past off) ≡ past (plan_end bytes off)
    unfolding plan_end
    plan_end_shift = ap (states_end whole) states_off_lem ∙ states_end_lem (states_off bytes off)

    pub plan_shift : plan_at whole (past off) ≡ plan_at bytes off
    unfolding plan_at
    plan_shift =
        let kind = u16_shift off in
        let trigger = literal_on off 2 in
        let context = ap (situation_at whole) (add_assoc (length before) off 10) ∙ situation_shift (off + 10) in
        let maintenance = ap (situation_at whole) maintenance_off_lem ∙ situation_shift (maintenance_off bytes off) in
        let success = ap (actions_at whole) success_off_lem ∙ actions_shift (success_off bytes off) in
        let failure = ap (actions_at whole) failure_off_lem ∙ actions_shift (failure_off bytes off) in
        let states = ap (states_at whole) states_off_lem ∙ states_shift (states_off bytes off) in
        λ i. record { kind = kind_in (kind i); least = least_in (kind i); trigger = trigger i; context = context i; maintenance = maintenance i; success = success i; failure = failure i; states = states i }

    pub fits_shift : (size : ℕ) → plan_fits_at whole (past off) size ≡ plan_fits_at bytes off size
    unfolding plan_fits_at
    fits_shift size =
        rw (plan_shift, plan_end_shift, add_assoc (length before) off size, eqb_shift (length before) (plan_end bytes off) (off + size))
