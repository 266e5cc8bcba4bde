-- Over all lengths as many lists succeed as the body has ends, and as many fail as it has inner states: one list for each state, since
-- each state but 0 is entered by one branch. No list is longer than 15: each answer passes a branch, and a body has at most 15.
use Prim.Native.Nat.{ℕ, zero, suc, ◌+◌, ◌-◌, ◌<◌, ◌≤◌}
use native.Mathlib.Nat.{add-zero, zero-add}
use native.Mathlib.Numerals.{add-one}
use native.Mathlib.Omega.{arith}
use mathlib.Core.Path.{◌≡◌, refl, ap, ap₂, ◌∙◌}
use mathlib.Core.Bool.{Bool, true, false, not}
use mathlib.Core.List.{List, [], ◌∷◌}
use lib.Dec.{ltb}
use lib.ListN.{length, get_or, take, drop, take-append-drop, drop_of_length-le}
use lib.Seq.{drop-cons, drop-drop}
use borrow.Author.Tests.{ltb-true, ltb-false, ne_eqb, le-leb}
use Rattle.lists.specs.Counts.{bit, total}
use Rattle.lists.proofs.BoolLaws.{by_cases}
use Rattle.lists.proofs.CountLaws.{total-append, total_same, total-add, total_zero, total-map}
use Rattle.library.specs.declared.Branch.{Branch}
use Rattle.library.specs.Plan.{no_branch}
use Rattle.library.specs.Bytes.{items}
use Rattle.library.specs.Layout.{plan_count, plan_of}
use Rattle.accepted.specs.Rules.{numbers, branch_ok, states_ok}
use Rattle.accepted.specs.Refusal.{Accepted}
use Rattle.accepted.proofs.RuleFacts.{next_above, next_below, branch_ok_lem, some-state, few-states}
use Rattle.accepted.proofs.Accepted.{keeps}
use Rattle.accepted.proofs.Size.{at_nexts, tree_nexts, tree_branches}
use Rattle.model.specs.Turn.{move_by}
use Rattle.endings.specs.Answers.{Standing, running, failed, over, standing, move_at, has_succeeded, has_failed, ways}
use Rattle.endings.specs.Answers.{most_answers, both_of, endings}
use Rattle.endings.specs.Sums.{all_endings, is_end, ends_of}
use Rattle.endings.proofs.WaysLaws.{ways_now, ways-tried, ways_over, move_next, all-tried}

-- ---- Sums over numbers

module _ (f : ℕ → ℕ) where
  sum_first : (n first : ℕ) → 0 < n → total f (numbers n first) ≡ f first + total f (numbers (n - 1) (first + 1))
  unfolding items
  sum_first zero first some = absurd (omega arith)
  sum_first (suc n) first some = let e : suc n - 1 ≡ n = omega arith in rw e

  sum_last : (n first : ℕ) → total f (numbers (suc n) first) ≡ total f (numbers n first) + f (first + n)
  unfolding items
  sum_last zero first = omega (arith, ap f (add-zero first))
  sum_last (suc n) first =
      let place : first + 1 + n ≡ first + suc n = omega arith in
      let rest = rw place at (sum_last n (first + 1)) in
      omega (arith, rest)

  sum_up : (n first : ℕ) → total f (numbers n (first + 1)) ≡ total (λ k. f (suc k)) (numbers n first)
  unfolding items
  sum_up zero first = refl
  sum_up (suc n) first = rw (add-one first, ← add-one first, sum_up n (first + 1))

  -- over a list's indices
  sum_indices : {A : Type 0} (g : A → ℕ) (d : A) (xs : List A) (first : ℕ) → ((k : ℕ) → k < length xs → f (first + k) ≡ g (get_or xs k d))
      → total f (numbers (length xs) first) ≡ total g xs
  unfolding items
  sum_indices g d [] first h = refl
  sum_indices g d (x ∷ xs) first h =
      let here : f first ≡ g x = rw add-zero at (h 0 (omega arith)) in
      let later = sum_indices g d xs (first + 1) (λ k less.
      let place : first + 1 + k ≡ first + suc k = omega arith in
      rw place (h (suc k) (omega arith))) in
      omega (arith, here, later)

-- ---- Answers left

module _ (states : List (List Branch)) where
  -- the branches of a state and of those after it
  abbrev left : ℕ → ℕ
  left state = total (λ branches. length branches) (drop state states)

  left_here : (state : ℕ) → state < length states → left state ≡ length (get_or states state []) + left (suc state)
  left_here state there = ap (total (λ branches. length branches)) (drop-cons states state [] there)

  left_falls : (state later : ℕ) → state ≤ later → left later ≤ left state
  left_falls state later h =
      let size = total (λ (branches : List Branch). length branches) in
      let rest = drop state states in
      let parts = total-append (λ branches. length branches) (take (later - state) rest) (drop (later - state) rest) in
      let joined = ap size (take-append-drop (later - state) rest) in
      let place : state + (later - state) ≡ later = omega arith in
      let dropped = ap size (rw place at (drop-drop (later - state) state states)) in
      omega (arith, parts, joined, dropped)

-- what comes of a state once all its branches are tried
abbrev ended : List Branch → Standing
ended branches = standing (move_by true branches (length branches))

-- for a test of bodies that have just ended
module _ (test : Standing → Bool) (still : test running ≡ false) (before : test over ≡ false)
    (states : List (List Branch)) (ok : states_ok states ≡ true) where
  abbrev branches_of : ℕ → List Branch
  branches_of state = get_or states state []

  abbrev branch_at : ℕ → ℕ → Branch
  branch_at state tried = get_or (branches_of state) tried no_branch

  abbrev ways_from : ℕ → ℕ → ℕ → ℕ
  ways_from state tried n = ways test states state tried n

  ways_later : (state tried n : ℕ) → length (branches_of state) ≤ tried → ways_from state tried (suc n) ≡ 0
  ways_later state tried n none =
      ways_over test states state tried n (move_at states state tried) refl (all-tried states state tried none) before

  module _ (state tried : ℕ) (there : state < length states) (more : tried < length (branches_of state)) where
    next_ok : branch_ok (length states) state (branch_at state tried) ≡ true
    next_ok = branch_ok_lem states ok state there tried more

    above : state < (branch_at state tried).next
    above = next_above (length states) state (branch_at state tried) next_ok

    below : (branch_at state tried).next < length states
    below = next_below (length states) state (branch_at state tried) next_ok

  -- no list is longer than the branches left
  ways-past : (n state tried : ℕ) → state < length states → tried ≤ length (branches_of state) → left states state < n + tried
      → ways_from state tried n ≡ 0
  ways-past zero state tried there within h = absurd (omega (arith, left_here states state there))
  ways-past (suc n) state tried there within h =
      by_cases (ltb tried (length (branches_of state)))
      (λ e.
      let more = ltb-true tried (length (branches_of state)) e in
      let next = (branch_at state tried).next in
      let fewer = left_falls states (suc state) next (above state tried there more) in
      let here = left_here states state there in
      let worked = ways-past n next 0 (below state tried there more) (omega arith) (omega arith) in
      let missed = ways-past n state (tried + 1) there (omega arith) (omega arith) in
      omega (arith, ways-tried test states state tried n (branch_at state tried) (move_next states state tried more), worked, missed))
      (λ e. ways_later state tried n (ltb-false tried (length (branches_of state)) e))

  -- ---- Sums over lengths

  abbrev sum_from : ℕ → ℕ → ℕ → ℕ
  sum_from state tried n = total (ways_from state tried) (numbers n 0)

  sum_now : (state tried n : ℕ)
      → sum_from state tried (suc n) ≡ ways_from state tried 0 + total (λ k. ways_from state tried (suc k)) (numbers n 0)
  unfolding items
  sum_now state tried n = ap (λ (k : ℕ). ways_from state tried 0 + k) (sum_up (ways_from state tried) n 0)

  -- a branch is tried
  sum-tried : (state tried n : ℕ) → tried < length (branches_of state)
      → sum_from state tried (suc n) ≡ sum_from (branch_at state tried).next 0 n + sum_from state (tried + 1) n
  sum-tried state tried n more =
      let move = move_next states state tried more in
      let next = (branch_at state tried).next in
      let now : ways_from state tried 0 ≡ 0 = rw (ways_now test states state tried, move, still) in
      let each = total_same (λ k. ways_from state tried (suc k)) (λ k. ways_from next 0 k + ways_from state (tried + 1) k) (numbers n 0)
      (λ k. ways-tried test states state tried k (branch_at state tried) move) in
      let parts = total-add (ways_from next 0) (ways_from state (tried + 1)) (numbers n 0) in
      omega (arith, sum_now state tried n, now, each, parts)

  -- all its branches are
  sum-ended : (state n : ℕ) → sum_from state (length (branches_of state)) (suc n) ≡ bit (test (ended (branches_of state)))
  sum-ended state n =
      let tried = length (branches_of state) in
      let each = total_same (λ k. ways_from state tried (suc k)) (λ k. 0) (numbers n 0) (λ k. ways_later state tried k (omega arith)) in
      omega (arith, sum_now state tried n, ways_now test states state tried, each, total_zero (numbers n 0))

  -- for a number of answers that no list is longer than
  module _ (most : ℕ) (few : left states 0 ≤ most) where
    -- over all lengths, from a state on
    abbrev whole : ℕ → ℕ
    whole state = sum_from state 0 (suc most)

    sum_steady : (state tried : ℕ) → state < length states → tried ≤ length (branches_of state)
        → sum_from state tried (suc (suc most)) ≡ sum_from state tried (suc most)
    sum_steady state tried there within =
        let last = sum_last (ways_from state tried) (suc most) 0 in
        let none = ways-past (0 + suc most) state tried there within (omega (arith, left_falls states 0 state (omega arith))) in
        omega (arith, last, none)

    sum_left : (more state tried : ℕ) → state < length states → tried + more ≡ length (branches_of state)
        → sum_from state tried (suc most) ≡ at_nexts whole (drop tried (branches_of state)) + bit (test (ended (branches_of state)))
    sum_left zero state tried there e =
        let all : tried ≡ length (branches_of state) = omega arith in
        let last = ap (λ (n : ℕ). sum_from state n (suc most)) all ∙ sum-ended state most in
        let none = ap (at_nexts whole) (drop_of_length-le (branches_of state) {i = tried} (omega arith)) in
        omega (arith, last, none)
    sum_left (suc more) state tried there e =
        let here = sum-tried state tried (suc most) (omega arith) in
        let steady = sum_steady state tried there (omega arith) in
        let rest = sum_left more state (tried + 1) there (omega arith) in
        let first = ap (at_nexts whole) (drop-cons (branches_of state) tried no_branch (omega arith)) in
        let place = ap (λ n. at_nexts whole (drop n (branches_of state))) (add-one tried) in
        omega (arith, here, steady, rest, first, place)

    sum-whole : whole 0 ≡ total (λ branches. bit (test (ended branches))) states
    sum-whole =
        let each = sum_indices whole (λ branches. at_nexts whole branches + bit (test (ended branches))) [] states 0
        (λ state there. ap whole (zero-add state) ∙ sum_left (length (branches_of state)) state 0 there (omega arith)) in
        let parts = total-add (at_nexts whole) (λ branches. bit (test (ended branches))) states in
        let tree = tree_nexts whole states ok in
        let first = sum_first whole (length states) 0 (omega (arith, some-state states ok)) in
        omega (arith, each, parts, tree, first)

-- ---- Of a plan

inner_ended : (branch : Branch) (branches : List Branch) → ended (branch ∷ branches) ≡ failed
unfolding move_by
inner_ended branch branches =
    let size = suc (length branches) in
    rw (ne_eqb size 0 (λ e. omega arith), le-leb size size (omega arith))

end_succeeds : (branches : List Branch) → bit (has_succeeded (ended branches)) ≡ bit (is_end branches)
unfolding move_by
end_succeeds [] = refl
end_succeeds (branch ∷ branches) = rw (inner_ended branch branches)

inner_fails : (branches : List Branch) → bit (has_failed (ended branches)) ≡ bit (not (is_end branches))
unfolding move_by
inner_fails [] = refl
inner_fails (branch ∷ branches) = rw (inner_ended branch branches)

module _ (bytes : List ℕ) (accepted : Accepted bytes) (plan : ℕ) (there : plan < plan_count bytes) where
  abbrev states : List (List Branch)
  states = (plan_of bytes plan).states

  states_ok_lem : states_ok states ≡ true
  states_ok_lem = (keeps bytes accepted plan there).states

  few : left states 0 ≤ most_answers
  few = omega (arith, tree_branches states states_ok_lem, few-states states states_ok_lem)

  -- as many lists succeed as there are ends, and as many fail as there are states with branches
  pub sums : all_endings states ≡ ends_of states
  sums =
      let wins = total-map (λ c. c.succeeded) (λ n. endings states 0 0 n) (numbers (most_answers + 1) 0)
      ∙ sum-whole has_succeeded refl refl states states_ok_lem most_answers few ∙ total_same _ _ states end_succeeds in
      let losses = total-map (λ c. c.failed) (λ n. endings states 0 0 n) (numbers (most_answers + 1) 0)
      ∙ sum-whole has_failed refl refl states states_ok_lem most_answers few ∙ total_same _ _ states inner_fails in
      ap₂ both_of wins losses

  -- no list is longer
  pub none_longer : (n : ℕ) → most_answers < n → endings states 0 0 n ≡ both_of 0 0
  none_longer n long =
      let some : 0 < length states = omega (arith, some-state states states_ok_lem) in
      ap₂ both_of
      (ways-past has_succeeded refl refl states states_ok_lem n 0 0 some (omega arith) (omega (arith, few)))
      (ways-past has_failed refl refl states states_ok_lem n 0 0 some (omega arith) (omega (arith, few)))
