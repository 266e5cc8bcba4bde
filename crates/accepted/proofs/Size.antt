-- An accepted library has at most 19,332 bytes: a tree of S states has S - 1 branches, so a plan has at most 584 bytes.
use Prim.Native.Nat.{ℕ, zero, suc, ◌+◌, ◌*◌, ◌-◌, ◌<◌, ◌≤◌}
use mathlib.Core.Path.{◌≡◌, refl, sym, ◌∙◌}
use mathlib.Core.Bool.{true, cond}
use mathlib.Core.List.{List, [], ◌∷◌}
use mathlib.Core.Logic.{⊎_elim}
use native.Mathlib.Nat.{add-zero, zero-add, zero-mul, one-mul, add-mul, eq-or-lt_of_le}
use native.Mathlib.Omega.{arith}
use borrow.Author.Tests.{leb-true, eqb-true, eq-eqb, ne_eqb}
use lib.ListN.{length}
use lib.Dec.{eqb}
use Rattle.std.specs.List.{list_all}
use Rattle.lists.specs.Counts as Counts
use Rattle.lists.proofs.BoolLaws.{and_parts}
use Rattle.lists.proofs.CountLaws.{total_same, total-add, total_zero, total-length}
use Rattle.library.specs.declared.Branch.{Branch}
use Rattle.library.specs.Bytes.{u16_at, literal_at, branch_at, items, rows, rows_end}
use Rattle.library.specs.Layout.{situation_at, situation_end, actions_at, actions_end, states_at, states_end, maintenance_off, success_off, failure_off, states_off, plan_end, plan_at, plan_count, plans_off, entry_off, entry_length}
use Rattle.accepted.specs.Rules.{at_most, numbers, situation_ok, actions_ok, branch_ok, state_ok, states_from, entries_in, entries, is_tree, states_ok, plan_ok}
use Rattle.accepted.specs.Refusal.{packed_from, is_packed, plan_fits_at, plan_fits, plans_fit, Accepted, most_bytes}
use Rattle.std.proofs.lemmas.List.FromFn.{length-range_with_len}
use Rattle.library.proofs.RowLaws.{length-items, length-rows}
use Rattle.library.proofs.PartLaws.{length-actions, length-states}
use Rattle.accepted.proofs.RuleFacts.{few_alternatives, parts-situation, few-actions, next_above, next_below, branches_ok, some-state, few-states, parts-states, keeps_rules}
use Rattle.accepted.proofs.Accepted.{passed, contents}

-- ---- A sum over the next states of all branches is a sum over all states but 0: each of these is the next state of one branch

-- 1 at x
abbrev one : ℕ → ℕ → ℕ
one x k = cond (eqb x k) 1 0

-- f summed over the numbers, each of them so many times
abbrev weighed : (ℕ → ℕ) → (ℕ → ℕ) → List ℕ → ℕ
weighed f times ks = Counts.total (λ k. times k * f k) ks

module _ (f : ℕ → ℕ) where
  none-weighed : (ks : List ℕ) → weighed f (λ k. 0) ks ≡ 0
  none-weighed ks = total_same (λ k. 0 * f k) (λ k. 0) ks (λ k. zero-mul (f k)) ∙ total_zero ks

  both-weighed : (g h : ℕ → ℕ) (ks : List ℕ) → weighed f (λ k. g k + h k) ks ≡ weighed f g ks + weighed f h ks
  both-weighed g h ks =
      total_same (λ k. (g k + h k) * f k) (λ k. g k * f k + h k * f k) ks (λ k. add-mul (g k) (h k) (f k))
      ∙ total-add (λ k. g k * f k) (λ k. h k * f k) ks

  once_weighed : (times : ℕ → ℕ) (ks : List ℕ) → list_all (λ k. eqb (times k) 1) ks ≡ true → weighed f times ks ≡ Counts.total f ks
  once_weighed times [] e = refl
  once_weighed times (k ∷ ks) e =
      let both = and_parts (eqb (times k) 1) (list_all (λ k. eqb (times k) 1) ks) e in
      rw (eqb-true (times k) 1 both.0, one-mul, once_weighed times ks both.1)

  one_past : (x n first : ℕ) → x < first → weighed f (one x) (numbers n first) ≡ 0
  one_past x zero first h = refl
  one_past x (suc n) first h = rw (ne_eqb x first (λ (e : x ≡ first). omega arith), zero-mul, one_past x n (first + 1) (omega arith))

  one_in : (x n first : ℕ) → first ≤ x → x < first + n → weighed f (one x) (numbers n first) ≡ f x
  one_in x zero first low high = absurd (omega arith)
  one_in x (suc n) first low high =
      ⊎_elim
      (λ (e : first ≡ x). rw (eq-eqb x first (sym e), one-mul, one_past x n (first + 1) (omega arith), add-zero, e))
      (λ (l : first < x).
      let rest = one_in x n (first + 1) (omega arith) (omega arith) in
      rw (ne_eqb x first (λ (e : x ≡ first). omega arith), zero-mul, zero-add, rest))
      (eq-or-lt_of_le low)

  -- f summed over the next states of a state's branches
  abbrev pub at_nexts : List Branch → ℕ
  at_nexts branches = Counts.total (λ b. f b.next) branches

  row-sum : (count state : ℕ) (branches : List Branch) → list_all (branch_ok count state) branches ≡ true
      → weighed f (λ k. entries_in k branches) (numbers (count - 1) 1) ≡ at_nexts branches
  unfolding entries_in
  row-sum count state [] e = none-weighed (numbers (count - 1) 1)
  row-sum count state (b ∷ bs) e =
      let both = and_parts (branch_ok count state b) (list_all (branch_ok count state) bs) e in
      let above = next_above count state b both.0 in
      let below = next_below count state b both.0 in
      let here = one_in b.next (count - 1) 1 (omega arith) (omega arith) in
      let rest = row-sum count state bs both.1 in
      both-weighed (one b.next) (λ k. entries_in k bs) (numbers (count - 1) 1) ∙ rw (here, rest)

  rows-sum : (count state : ℕ) (states : List (List Branch)) → states_from count state states ≡ true
      → weighed f (λ k. entries k states) (numbers (count - 1) 1) ≡ Counts.total at_nexts states
  unfolding states_from entries
  rows-sum count state [] e = none-weighed (numbers (count - 1) 1)
  rows-sum count state (branches ∷ rest) e =
      let both = and_parts (state_ok count state branches) (states_from count (state + 1) rest) e in
      let here = row-sum count state branches (branches_ok count state branches both.0) in
      let later = rows-sum count (state + 1) rest both.1 in
      both-weighed (λ k. entries_in k branches) (λ k. entries k rest) (numbers (count - 1) 1) ∙ rw (here, later)

  -- and of all states' branches
  pub tree_nexts : (states : List (List Branch)) → states_ok states ≡ true
      → Counts.total at_nexts states ≡ Counts.total f (numbers (length states - 1) 1)
  unfolding is_tree
  tree_nexts states ok =
      let parts = parts-states states ok in
      sym (rows-sum (length states) 0 states parts.2)
      ∙ once_weighed (λ k. entries k states) (numbers (length states - 1) 1) parts.3

-- all branches of all states
abbrev pub total : List (List Branch) → ℕ
total states = Counts.total (λ branches. length branches) states

-- a tree of S states has S - 1 branches
pub tree_branches : (states : List (List Branch)) → states_ok states ≡ true → total states ≡ length states - 1
tree_branches states ok =
    total_same (λ branches. length branches) (at_nexts (λ k. 1)) states (λ branches. total-length branches)
    ∙ tree_nexts (λ k. 1) states ok
    ∙ sym (total-length (numbers (length states - 1) 1))
    ∙ length-range_with_len 1 (length states - 1)

-- ---- The parts of a plan

module _ (bytes : List ℕ) where
  alternatives_most : (n at : ℕ) → list_all (at_most 4) (rows (literal_at bytes) bytes 8 n at) ≡ true → rows_end bytes 8 n at ≤ at + 34 * n
  unfolding rows rows_end
  alternatives_most zero at e = omega arith
  alternatives_most (suc n) at e =
      let row = items (literal_at bytes) 8 (u16_at bytes at) (at + 2) in
      let both = and_parts (at_most 4 row) (list_all (at_most 4) (rows (literal_at bytes) bytes 8 n (at + 2 + 8 * u16_at bytes at))) e in
      let counted = length-items (literal_at bytes) 8 (u16_at bytes at) (at + 2) in
      let few = leb-true (length row) 4 both.0 in
      let rest = alternatives_most n (at + 2 + 8 * u16_at bytes at) both.1 in
      omega arith

  situation_most : (at : ℕ) → situation_ok (situation_at bytes at) ≡ true → situation_end bytes at ≤ at + 138
  unfolding situation_at situation_end
  situation_most at ok =
      let counted = length-rows (literal_at bytes) bytes 8 (u16_at bytes at) (at + 2) in
      let few = few_alternatives (situation_at bytes at) ok in
      let rest = alternatives_most (u16_at bytes at) (at + 2) (parts-situation (situation_at bytes at) ok).1 in
      omega arith

  actions_most : (at : ℕ) → actions_ok (actions_at bytes at) ≡ true → actions_end bytes at ≤ at + 42
  unfolding actions_end
  actions_most at ok = omega (arith, few-actions (actions_at bytes at) ok, length-actions bytes at)

  rows-size : (n at : ℕ) → rows_end bytes 12 n at ≡ at + 2 * n + 12 * total (rows (branch_at bytes) bytes 12 n at)
  unfolding rows rows_end
  rows-size zero at = omega arith
  rows-size (suc n) at =
      let rest = rows-size n (at + 2 + 12 * u16_at bytes at) in
      let counted = length-items (branch_at bytes) 12 (u16_at bytes at) (at + 2) in
      omega arith

  states_most : (at : ℕ) → states_ok (states_at bytes at) ≡ true → states_end bytes at ≤ at + 214
  unfolding states_at states_end
  states_most at ok =
      let few = few-states (states_at bytes at) ok in
      let some = some-state (states_at bytes at) ok in
      let counted = length-states bytes at in
      let tree = tree_branches (states_at bytes at) ok in
      let size = rows-size (u16_at bytes at) (at + 2) in
      omega arith

  -- a plan has at most 584 bytes
  pub plan_most : (off size : ℕ) → plan_fits_at bytes off size ≡ true → size ≤ 584
  unfolding plan_fits_at plan_at plan_end states_off failure_off success_off maintenance_off
  plan_most off size e =
      let both = and_parts (plan_ok (plan_at bytes off)) (eqb (plan_end bytes off) (off + size)) e in
      let rules = keeps_rules (plan_at bytes off) both.0 in
      let one = situation_most (off + 10) rules.context in
      let two = situation_most (maintenance_off bytes off) rules.maintenance in
      let three = actions_most (success_off bytes off) rules.success in
      let four = actions_most (failure_off bytes off) rules.failure in
      let five = states_most (states_off bytes off) rules.states in
      let ends = eqb-true (plan_end bytes off) (off + size) both.1 in
      omega arith

  plans_most : (n i at : ℕ) → packed_from bytes n i at ≡ true → list_all (plan_fits bytes) (numbers n i) ≡ true → length bytes ≤ at + 584 * n
  unfolding packed_from
  plans_most zero i at packed fit = omega (arith, eqb-true at (length bytes) packed)
  plans_most (suc n) i at packed fit =
      let x = and_parts (eqb (entry_off bytes i) at) (packed_from bytes n (i + 1) (at + entry_length bytes i)) packed in
      let y = and_parts (plan_fits bytes i) (list_all (plan_fits bytes) (numbers n (i + 1))) fit in
      let here = plan_most (entry_off bytes i) (entry_length bytes i) y.0 in
      let rest = plans_most n (i + 1) (at + entry_length bytes i) x.1 y.1 in
      omega arith

  pub library_most : Accepted bytes → length bytes ≤ most_bytes
  unfolding is_packed plans_fit plans_off
  library_most accepted =
      let all-passed = passed bytes accepted in
      let few = contents bytes accepted in
      let rest = plans_most (plan_count bytes) 0 (plans_off bytes) all-passed.1 all-passed.3 in
      omega arith
