-- Laws of the counts of entries: the steps of the loops that take them, and that they decide as the definition does.
use Prim.Native.Nat.{ℕ, zero, suc, ◌+◌, ◌*◌, ◌-◌, ◌<◌, ◌≤◌, min}
use mathlib.Core.Path.{◌≡◌, refl, sym, ◌∙◌}
use mathlib.Core.Bool.{Bool}
use mathlib.Core.List.{List, [], ◌∷◌}
use native.Mathlib.Omega.{arith}
use lib.ListN.{length, take, drop, get_or, set, length-set, replicate}
use native.Mathlib.Numerals.{add-one}
use lib.Seq.{drop-cons, set_out, set-get_or, get_or-set_same, get_or-set_other}
use lib.Dec.{ltb, eqb}
use borrow.Author.Tests.{ltb-true, ltb-false, lt-ltb, le-ltb, eq-eqb, ne_eqb, eqb-true, eqb-false}
use Rattle.lists.proofs.BoolLaws.{by_cases}
use Rattle.std.specs.List.{list_all}
use Rattle.library.specs.declared.Branch.{Branch}
use Rattle.library.specs.Bytes.{u16_at, items, rows}
use Rattle.accepted.specs.Rules.{numbers, entries_in, entries, is_tree}
use Rattle.library.proofs.RowLaws.{left_next, left_none, row_next}
use Rattle.accepted.specs.Counts.{more, entered, counted_in, counted}

-- ---- One branch

module _ (counts : List ℕ) (state : ℕ) where
  pub enter-past : length counts ≤ state → counts ≡ entered counts state
  unfolding entered
  enter-past h = sym (set_out counts state _ h)

  pub enter-full : 2 ≤ get_or counts state 0 → counts ≡ entered counts state
  unfolding entered
  enter-full h = rw (le-ltb (get_or counts state 0) 2 h) (sym (set-get_or counts state 0))

  pub enter_more : get_or counts state 0 < 2 → set counts state (get_or counts state 0 + 1) ≡ entered counts state
  unfolding entered
  enter_more h = rw (lt-ltb (get_or counts state 0) 2 h)

  pub length-entered : length (entered counts state) ≡ length counts
  unfolding entered
  length-entered = length-set counts state _

-- the count of a state after one more branch
pub more_at : (times : ℕ) → times ≤ 2 → more times ≡ min 2 (times + 1)
more_at times h = by_cases (ltb times 2)
    (λ p. rw p (omega (arith, ltb-true times 2 p)))
    (λ p. rw p (omega (arith, ltb-false times 2 p)))

module _ (counts : List ℕ) (state s : ℕ) (inside : s < length counts) (small : get_or counts s 0 ≤ 2) where
  pub entered_same : state ≡ s → get_or (entered counts state) s 0 ≡ min 2 (get_or counts s 0 + 1)
  unfolding entered
  entered_same e = rw e (get_or-set_same counts s _ 0 inside ∙ more_at (get_or counts s 0) small)

  pub entered_other : (state ≡ s → ⊥) → get_or (entered counts state) s 0 ≡ get_or counts s 0
  unfolding entered
  entered_other e = get_or-set_other counts state s _ 0 (λ p. e (sym p))

-- ---- The branches of a state, and of all

pub length-counted_in : (counts : List ℕ) (branches : List Branch) → length (counted_in counts branches) ≡ length counts
unfolding counted_in
length-counted_in counts [] = refl
length-counted_in counts (branch ∷ rest) = length-counted_in (entered counts branch.next) rest ∙ length-entered counts branch.next

pub length-counted : (counts : List ℕ) (states : List (List Branch)) → length (counted counts states) ≡ length counts
unfolding counted
length-counted counts [] = refl
length-counted counts (branches ∷ rest) = length-counted (counted_in counts branches) rest ∙ length-counted_in counts branches

module _ (s : ℕ) where
  pub counted_in_lem : (counts : List ℕ) (branches : List Branch) → s < length counts → get_or counts s 0 ≤ 2
      → get_or (counted_in counts branches) s 0 ≡ min 2 (get_or counts s 0 + entries_in s branches)
  unfolding counted_in entries_in
  counted_in_lem counts [] inside small = omega arith
  counted_in_lem counts (branch ∷ rest) inside small =
      let longer : s < length (entered counts branch.next) = rw (length-entered counts branch.next) inside in
      by_cases (eqb branch.next s)
      (λ p.
      let now = entered_same counts branch.next s inside small (eqb-true branch.next s p) in
      rw p (counted_in_lem (entered counts branch.next) rest longer (omega arith) ∙ rw now (omega arith)))
      (λ p.
      let now = entered_other counts branch.next s inside small (eqb-false branch.next s p) in
      rw p (counted_in_lem (entered counts branch.next) rest longer (omega arith) ∙ rw now (omega arith)))

  pub counted-all : (counts : List ℕ) (states : List (List Branch)) → s < length counts → get_or counts s 0 ≤ 2
      → get_or (counted counts states) s 0 ≡ min 2 (get_or counts s 0 + entries s states)
  unfolding counted entries
  counted-all counts [] inside small = omega arith
  counted-all counts (branches ∷ rest) inside small =
      let longer : s < length (counted_in counts branches) = rw (length-counted_in counts branches) inside in
      let now = counted_in_lem counts branches inside small in
      counted-all (counted_in counts branches) rest longer (omega arith) ∙ rw now (omega arith)

-- ---- The loops

module _ (read : ℕ → Branch) (counts : List ℕ) (n i : ℕ) where
  pub branches-step : (width from next : ℕ) → next ≡ (read (from + width * i)).next → i < n
      → counted_in (entered counts next) (items read width (n - (i + 1)) (from + width * (i + 1))) ≡ counted_in counts (items read width (n - i) (from + width * i))
  unfolding counted_in items
  branches-step width from next p h =
      let place : from + width * (i + 1) ≡ from + width * i + width = omega arith in
      rw (left_next n i h, place, p) refl

  pub branches_done : (width at : ℕ) → n ≤ i → counts ≡ counted_in counts (items read width (n - i) at)
  unfolding counted_in items
  branches_done width at h = rw (left_none n i h) refl

  module _ (bytes : List ℕ) (width at : ℕ) where
    pub states-step : (branches : ℕ) → branches ≡ u16_at bytes at → i < n
        → counted (counted_in counts (items read width branches (at + 2))) (rows read bytes width (n - (i + 1)) (at + (2 + width * branches)))
        ≡ counted counts (rows read bytes width (n - i) at)
    unfolding counted rows
    states-step branches p h = rw (left_next n i h, row_next bytes width at branches, p) refl

    pub states_done : n ≤ i → counts ≡ counted counts (rows read bytes width (n - i) at)
    unfolding counted rows
    states_done h = rw (left_none n i h) refl

-- ---- The counts decide

-- a test of each of n counts from a place on, by their places
pub counts_at : (test : ℕ → Bool) (counts : List ℕ) (n first : ℕ) → first + n ≤ length counts
    → list_all test (take n (drop first counts)) ≡ list_all (λ state. test (get_or counts state 0)) (numbers n first)
counts_at test counts zero first h = refl
counts_at test counts (suc n) first h =
    rw (drop-cons counts first 0 (omega arith), add-one first, counts_at test counts n (suc first) (omega arith)) refl

-- two tests that agree on n numbers
pub agree : (f g : ℕ → Bool) (n first : ℕ) → ((i : ℕ) → first ≤ i → i < first + n → f i ≡ g i)
    → list_all f (numbers n first) ≡ list_all g (numbers n first)
agree f g zero first h = refl
agree f g (suc n) first h =
    rw (h first (omega arith) (omega arith), agree f g n (first + 1) (λ i low high. h i (omega arith) (omega arith)))

pub once_at : (times : ℕ) → eqb (min 2 times) 1 ≡ eqb times 1
once_at times = by_cases (eqb times 1)
    (λ p. let e = eqb-true times 1 p in eq-eqb (min 2 times) 1 (omega arith) ∙ sym p)
    (λ p. let e = eqb-false times 1 p in ne_eqb (min 2 times) 1 (λ q. e (omega arith)) ∙ sym p)

pub no_counts : (n i : ℕ) → get_or {A = ℕ} (replicate n 0) i 0 ≡ 0
no_counts zero i = refl
no_counts (suc n) zero = refl
no_counts (suc n) (suc i) = no_counts n i

-- from no counts for sixteen states, those of at most sixteen
pub counts_decide : (zeros : List ℕ) → length zeros ≡ 16 → ((i : ℕ) → get_or zeros i 0 ≡ 0)
    → (states : List (List Branch)) (n : ℕ) → length states ≡ n → 1 ≤ n → n ≤ 16
    → list_all (λ times. eqb times 1) (take (n - 1) (drop 1 (counted zeros states))) ≡ is_tree states
unfolding is_tree
counts_decide zeros size none states n e low high =
    let long : 1 + (n - 1) ≤ length (counted zeros states) = omega (arith, length-counted zeros states) in
    counts_at (λ times. eqb times 1) (counted zeros states) (n - 1) 1 long
    ∙ rw e (agree _ _ (n - 1) 1 (λ i lower higher.
    let inside : i < length zeros = omega arith in
    let zero = none i in
    let all = counted-all i zeros states inside (omega arith) in
    let same : min 2 (get_or zeros i 0 + entries i states) ≡ min 2 (entries i states) = omega arith in
    rw (all, same) (once_at (entries i states))))
