-- How many lists there are, by the body's next move.
use Prim.Native.Nat.{ℕ, zero, suc, ◌+◌, ◌-◌, ◌^◌, ◌<◌, ◌≤◌}
use native.Mathlib.Nat.{two-pow-succ, pow-le-pow_right, eq-zero-or-pos}
use native.Mathlib.Numerals.{sub-one}
use native.Mathlib.Omega.{arith}
use mathlib.Core.Path.{◌≡◌, refl, ap, ap₂, sym, ◌∙◌}
use mathlib.Core.Bool.{Bool, true, false}
use mathlib.Core.List.{List, [], ◌∷◌, map}
use mathlib.Core.Logic.{⊎_elim}
use lib.Dec.{lit<}
use lib.ListN.{length, get_or, length-append, length-map}
use borrow.Author.Tests.{eq-eqb, ne_eqb, le-leb, lt-leb}
use Rattle.lists.specs.Counts.{bit, count}
use Rattle.lists.proofs.CountLaws.{total-append, total_same, total-map, total_zero, total_le, total-length, bit_le_one}
use Rattle.library.specs.declared.Branch.{Branch}
use Rattle.library.specs.Plan.{no_branch}
use Rattle.model.specs.Turn.{Move, fails, succeeds, tries, move_by}
use Rattle.endings.specs.Answers.{Standing, over, standing, taking, move_at, after, answers, has_succeeded, has_failed, ways, both_of, endings}
use Rattle.endings.specs.declared.Counts.{Counts}

-- ---- How many lists

-- the lists of n + 1 answers: those that begin with yes, and those that begin with no
count-answers : (test : List Bool → Bool) (n : ℕ)
    → count test (answers (suc n)) ≡ count (λ list. test (true ∷ list)) (answers n) + count (λ list. test (false ∷ list)) (answers n)
unfolding answers
count-answers test n =
    total-append (λ list. bit (test list)) (map (λ list. true ∷ list) (answers n)) (map (λ list. false ∷ list) (answers n))
    ∙ ap₂ (λ (a b : ℕ). a + b) (total-map (λ list. bit (test list)) (λ list. true ∷ list) (answers n)) (total-map (λ list. bit (test list)) (λ list. false ∷ list) (answers n))

length-answers : (n : ℕ) → length (answers n) ≡ 2 ^ n
unfolding answers
length-answers zero = refl
length-answers (suc n) =
    length-append (map (λ list. true ∷ list) (answers n)) (map (λ list. false ∷ list) (answers n))
    ∙ ap₂ (λ (a b : ℕ). a + b) (length-map (answers n) (λ list. true ∷ list) ∙ length-answers n) (length-map (answers n) (λ list. false ∷ list) ∙ length-answers n)
    ∙ sym (two-pow-succ n)

module _ (test : Standing → Bool) (states : List (List Branch)) where
  -- at most all of them
  pub ways-few : (state tried n : ℕ) → n ≤ 15 → ways test states state tried n ≤ 32768
  unfolding ways
  ways-few state tried n h =
      let most = total_le (λ list. bit (test (after states state tried list))) (λ list. 1) (answers n) (λ list. bit_le_one (test (after states state tried list))) in
      let size = sym (total-length (answers n)) ∙ length-answers n in
      let power : 2 ^ n ≤ 2 ^ 15 = pow-le-pow_right (lit< tt) h in
      omega (arith, most, size, power)

  -- no answer left
  pub ways_now : (state tried : ℕ) → ways test states state tried 0 ≡ bit (test (standing (move_at states state tried)))
  unfolding ways after answers
  ways_now state tried = omega arith

  -- a branch is tried
  pub ways-tried : (state tried n : ℕ) (branch : Branch) → move_at states state tried ≡ tries branch
      → ways test states state tried (suc n) ≡ ways test states branch.next 0 n + ways test states state (tried + 1) n
  unfolding ways after
  ways-tried state tried n branch e = count-answers (λ list. test (after states state tried list)) n ∙ rw e

  -- a body that has ended takes no answer
  pub ways_over : (state tried n : ℕ) (move : Move) → move_at states state tried ≡ move → ((next : Branch → Standing) → taking move next ≡ over) → test over ≡ false
      → ways test states state tried (suc n) ≡ 0
  unfolding ways after
  ways_over state tried n move e ended off =
      count-answers (λ list. test (after states state tried list)) n
      ∙ ap₂ (λ (a b : ℕ). a + b) (total_same _ (λ list. 0) (answers n) (λ list. rw (e, ended, off)) ∙ total_zero (answers n)) (total_same _ (λ list. 0) (answers n) (λ list. rw (e, ended, off)) ∙ total_zero (answers n))

-- ---- By what the state has

module _ (states : List (List Branch)) (state tried : ℕ) where
  move_end : length (get_or states state []) ≡ 0 → move_at states state tried ≡ succeeds
  unfolding move_by
  move_end h = rw (eq-eqb _ 0 h)

  move_none : 0 < length (get_or states state []) → length (get_or states state []) ≤ tried → move_at states state tried ≡ fails
  unfolding move_by
  move_none some h = rw (ne_eqb (length (get_or states state [])) 0 (λ z. omega arith), le-leb _ tried h)

  pub move_next : tried < length (get_or states state []) → move_at states state tried ≡ tries (get_or (get_or states state []) tried no_branch)
  unfolding move_by
  move_next h = rw (ne_eqb (length (get_or states state [])) 0 (λ z. omega arith), lt-leb _ tried h)

  -- a body with no branch left has ended
  pub all-tried : length (get_or states state []) ≤ tried → (next : Branch → Standing) → taking (move_at states state tried) next ≡ over
  all-tried h next = ⊎_elim (λ e. rw (move_end e)) (λ some. rw (move_none some h)) (eq-zero-or-pos (length (get_or states state [])))

  before : (n : ℕ) → (n ≡ 0 → ⊥) → n ≡ suc (n - 1)
  before zero h = absurd (h refl)
  before (suc n) h = ap suc (sym (sub-one (suc n)))

  over_later : (n : ℕ) (move : Move) → move_at states state tried ≡ move → ((next : Branch → Standing) → taking move next ≡ over) → (n ≡ 0 → ⊥)
      → both_of 0 0 ≡ endings states state tried n
  over_later n move e ended h =
      rw (before n h, ways_over has_succeeded states state tried (n - 1) move e ended refl, ways_over has_failed states state tried (n - 1) move e ended refl)

  now_is : (move : Move) → move_at states state tried ≡ move → (n : ℕ) → n ≡ 0 → both_of (bit (has_succeeded (standing move))) (bit (has_failed (standing move))) ≡ endings states state tried n
  now_is move e n z = rw (z, ways_now has_succeeded states state tried, ways_now has_failed states state tried, e)

  pub end_now : length (get_or states state []) ≡ 0 → (n : ℕ) → n ≡ 0 → both_of 1 0 ≡ endings states state tried n
  end_now h n z = now_is succeeds (move_end h) n z

  pub end_later : length (get_or states state []) ≡ 0 → (n : ℕ) → (n ≡ 0 → ⊥) → both_of 0 0 ≡ endings states state tried n
  end_later h n some = over_later n succeeds (move_end h) (λ next. refl) some

  pub none_now : 0 < length (get_or states state []) → length (get_or states state []) ≤ tried → (n : ℕ) → n ≡ 0 → both_of 0 1 ≡ endings states state tried n
  none_now some h n z = now_is fails (move_none some h) n z

  pub none_later : 0 < length (get_or states state []) → length (get_or states state []) ≤ tried → (n : ℕ) → (n ≡ 0 → ⊥) → both_of 0 0 ≡ endings states state tried n
  none_later some h n more = over_later n fails (move_none some h) (λ next. refl) more

  pub next_now : tried < length (get_or states state []) → (n : ℕ) → n ≡ 0 → both_of 0 0 ≡ endings states state tried n
  next_now h n z = now_is (tries (get_or (get_or states state []) tried no_branch)) (move_next h) n z

  pub next_later : tried < length (get_or states state []) → (n : ℕ) → (n ≡ 0 → ⊥) → (worked missed : Counts)
      → worked ≡ endings states (get_or (get_or states state []) tried no_branch).next 0 (n - 1) → missed ≡ endings states state (tried + 1) (n - 1)
      → both_of (worked.succeeded + missed.succeeded) (worked.failed + missed.failed) ≡ endings states state tried n
  next_later h n more worked missed p q =
      let branch = get_or (get_or states state []) tried no_branch in
      let wins = ways-tried has_succeeded states state tried (n - 1) branch (move_next h) in
      let losses = ways-tried has_failed states state tried (n - 1) branch (move_next h) in
      rw (before n more, wins, losses, p, q)
