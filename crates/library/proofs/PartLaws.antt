-- Where the parts of a plan and of the contents stand, for the functions that read them.
use Prim.Native.Nat.{ℕ, ◌+◌, ◌*◌, ◌/◌, ◌<◌, ◌≤◌}
use mathlib.Core.Path.{◌≡◌, ap, ◌∙◌}
use mathlib.Core.List.{List, []}
use native.Mathlib.Omega.{arith}
use lib.ListN.{length, get_or}
use Rattle.library.specs.Plan.{Plan, no_literal, no_action, no_branch}
use Rattle.library.specs.Bytes.{u16_at, literal_at, action_at, branch_at, items, rows_end}
use Rattle.library.specs.Layout.{actions_at, states_at, plan_of, plan_count, belief_count, beliefs_off, beliefs_of, library_of}
use Rattle.library.proofs.PastEnd.{u16_past}
use Rattle.library.proofs.RowLaws.{length-items, length-rows, get_d_items, items-past, get_d_rows, rows-past}

module _ (bytes : List ℕ) where
  -- ---- Contents

  pub entry_past : (plan place : ℕ) → length bytes / 4 ≤ plan → u16_at bytes (4 + 4 * plan + place) ≡ 0
  entry_past plan place h = u16_past bytes (4 + 4 * plan + place) (omega arith)

  pub length-beliefs : length (beliefs_of bytes) ≡ belief_count bytes
  unfolding beliefs_of
  length-beliefs = length-items (literal_at bytes) 8 (belief_count bytes) (beliefs_off bytes)

  pub belief-past : (i : ℕ) → belief_count bytes ≤ i → get_or (beliefs_of bytes) i no_literal ≡ no_literal
  unfolding beliefs_of
  belief-past i h = items-past (literal_at bytes) 8 (belief_count bytes) (beliefs_off bytes) i no_literal h

  pub belief_is : (i : ℕ) → i < belief_count bytes → get_or (beliefs_of bytes) i no_literal ≡ literal_at bytes (beliefs_off bytes + 8 * i)
  unfolding beliefs_of
  belief_is i h = get_d_items (literal_at bytes) 8 (belief_count bytes) (beliefs_off bytes) i no_literal h

  pub length_plans : length (library_of bytes).plans ≡ plan_count bytes
  unfolding library_of
  length_plans = length-items (plan_of bytes) 1 (plan_count bytes) 0

  -- plan i of the library is the plan where entry i says
  pub plan_is : (i : ℕ) (d : Plan) → i < plan_count bytes → get_or (library_of bytes).plans i d ≡ plan_of bytes i
  unfolding library_of
  plan_is i d h =
      let place : 0 + 1 * i ≡ i = omega arith in
      get_d_items (plan_of bytes) 1 (plan_count bytes) 0 i d h ∙ ap (plan_of bytes) place

  pub plan-past : (i : ℕ) (d : Plan) → plan_count bytes ≤ i → get_or (library_of bytes).plans i d ≡ d
  unfolding library_of
  plan-past i d h = items-past (plan_of bytes) 1 (plan_count bytes) 0 i d h

  -- ---- Actions

  pub length-actions : (at : ℕ) → length (actions_at bytes at) ≡ u16_at bytes at
  unfolding actions_at
  length-actions at = length-items (action_at bytes) 10 (u16_at bytes at) (at + 2)

  pub action-past : (at i : ℕ) → u16_at bytes at ≤ i → get_or (actions_at bytes at) i no_action ≡ no_action
  unfolding actions_at
  action-past at i h = items-past (action_at bytes) 10 (u16_at bytes at) (at + 2) i no_action h

  pub action_is : (at i : ℕ) → i < u16_at bytes at → get_or (actions_at bytes at) i no_action ≡ action_at bytes (at + 2 + 10 * i)
  unfolding actions_at
  action_is at i h = get_d_items (action_at bytes) 10 (u16_at bytes at) (at + 2) i no_action h

  -- ---- States

  pub length-states : (at : ℕ) → length (states_at bytes at) ≡ u16_at bytes at
  unfolding states_at
  length-states at = length-rows (branch_at bytes) bytes 12 (u16_at bytes at) (at + 2)

  pub state-past : (at state : ℕ) → u16_at bytes at ≤ state → get_or (states_at bytes at) state [] ≡ []
  unfolding states_at
  state-past at state h = rows-past (branch_at bytes) bytes 12 (u16_at bytes at) (at + 2) state h

  -- where a state's number of branches stands
  abbrev pub state_off : ℕ → ℕ → ℕ
  state_off at state = rows_end bytes 12 state (at + 2)

  pub state_is : (at state : ℕ) → state < u16_at bytes at
      → get_or (states_at bytes at) state [] ≡ items (branch_at bytes) 12 (u16_at bytes (state_off at state)) (state_off at state + 2)
  unfolding states_at
  state_is at state h = get_d_rows (branch_at bytes) bytes 12 (u16_at bytes at) (at + 2) state h

  pub length-state : (at state : ℕ) → state < u16_at bytes at → length (get_or (states_at bytes at) state []) ≡ u16_at bytes (state_off at state)
  length-state at state h = ap length (state_is at state h) ∙ length-items (branch_at bytes) 12 (u16_at bytes (state_off at state)) (state_off at state + 2)

  pub branch-past : (at state i : ℕ) → state < u16_at bytes at → u16_at bytes (state_off at state) ≤ i → get_or (get_or (states_at bytes at) state []) i no_branch ≡ no_branch
  branch-past at state i h past = rw (state_is at state h) (items-past (branch_at bytes) 12 (u16_at bytes (state_off at state)) (state_off at state + 2) i no_branch past)

  pub branch_is : (at state i : ℕ) → state < u16_at bytes at → i < u16_at bytes (state_off at state)
      → get_or (get_or (states_at bytes at) state []) i no_branch ≡ branch_at bytes (state_off at state + 2 + 12 * i)
  branch_is at state i h below = rw (state_is at state h) (get_d_items (branch_at bytes) 12 (u16_at bytes (state_off at state)) (state_off at state + 2) i no_branch below)
