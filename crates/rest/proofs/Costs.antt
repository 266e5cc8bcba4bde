-- The numbers of the resting bound: what an event may still cost, and how many branches an instance has behind it.
use Prim.Native.Nat.{ℕ, zero, suc, ◌+◌, ◌-◌, ◌*◌, ◌≤◌, ◌<◌}
use mathlib.Core.Path.{◌≡◌, refl, sym, ap, subst}
use mathlib.Core.List.{List, [], ◌∷◌}
use mathlib.Core.Bool.{true, false, not}
use native.Mathlib.Omega.{arith}
use native.Mathlib.Nat.{mul-le-mul_right}
use lib.Dec.{eqb, ltb}
use lib.ListN.{length, get_or, drop}
use borrow.Author.Tests.{eqb-true, eqb-false, ltb-true, ltb-false}
use Rattle.lists.specs.Counts.{bit, total}
use Rattle.lists.proofs.BoolLaws.{by_cases}
use Rattle.lists.proofs.CountLaws.{bit_le_one}
use Rattle.literal.specs.declared.Env.{Env}
use Rattle.library.specs.declared.Branch.{Branch}
use Rattle.library.specs.Plan.{Library, no_plan}
use Rattle.situation.specs.FailedSet.{has, insert}
use Rattle.situation.proofs.FailedLaws.{has_empty, insert-has, insert_other}
use Rattle.model.specs.declared.Instance.{Instance}
use Rattle.model.specs.declared.Status.{Status}
use Rattle.model.specs.Instance.{plan_of, branches_of, moved}
use Rattle.rest.specs.Rest.{work_over, W, AsOnThePage}

-- ---- W, as document 02 has it

pub W-step : (plans h : ℕ) → h ≤ 8 → W plans h ≡ 1 + plans * (2 + 15 * (2 + W plans (suc h)))
unfolding W work_over
W-step plans h l = let e : 9 - h ≡ suc (9 - suc h) = omega arith in ap (work_over plans) e

pub as_on_the_page : AsOnThePage W
unfolding W work_over
as_on_the_page = record {
  ninth = λ plans. refl;
  below = λ plans h positive low. let next : suc h ≡ h + 1 = omega arith in
      subst (λ n. W plans h ≡ 1 + plans * (2 + 15 * (2 + W plans n))) next (W-step plans h low);
}

-- what a branch of an instance at height h may cost, and what a plan tried there
abbrev pub per_branch : ℕ → ℕ → ℕ
per_branch plans h = 2 + W plans (suc h)

abbrev pub per_plan : ℕ → ℕ → ℕ
per_plan plans h = 2 + 15 * (2 + W plans (suc h))

-- ---- How many of the plans below n have not failed

unfoldable pub untried : ℕ → ℕ → ℕ
untried zero failed = 0
untried (suc n) failed = bit (not (has failed n)) + untried n failed

untried_le : (n failed : ℕ) → untried n failed ≤ n
unfolding untried
untried_le zero failed = omega arith
untried_le (suc n) failed = omega (arith, untried_le n failed, bit_le_one (not (has failed n)))

untried-all : (n : ℕ) → untried n 0 ≡ n
unfolding untried
untried-all zero = refl
untried-all (suc n) = omega (arith, untried-all n, ap (λ b. bit (not b)) (has_empty n))

-- a plan from n on is not among them
untried-past : (n failed plan : ℕ) → n ≤ plan → untried n (insert failed plan) ≡ untried n failed
unfolding untried
untried-past zero failed plan l = refl
untried-past (suc n) failed plan l =
    omega (arith, untried-past n failed plan (omega arith), ap (λ b. bit (not b)) (insert_other failed plan n (λ (e : n ≡ plan). omega arith)))

untried-insert : (n failed plan : ℕ) → plan < n → has failed plan ≡ false → untried n failed ≡ suc (untried n (insert failed plan))
unfolding untried
untried-insert zero failed plan l f = absurd (omega arith)
untried-insert (suc n) failed plan l f = by_cases (eqb plan n)
    (λ e. let d = eqb-true plan n e in
    let own : has failed n ≡ false = subst (λ k. has failed k ≡ false) d f in
    let new : has (insert failed plan) n ≡ true = subst (λ k. has (insert failed plan) k ≡ true) d (insert-has failed plan) in
    omega (arith, untried-past n failed plan (omega arith), ap (λ b. bit (not b)) own, ap (λ b. bit (not b)) new))
    (λ e. let d = eqb-false plan n e in
    let low : plan < n = by_cases (ltb plan n) (λ t. ltb-true plan n t) (λ t. absurd (d (omega (arith, ltb-false plan n t)))) in
    omega (arith, untried-insert n failed plan low f, ap (λ b. bit (not b)) (insert_other failed plan n (λ (x : n ≡ plan). d (sym x)))))

-- ---- What an event at height h may cost, where these plans have failed

unfoldable pub cost : ℕ → ℕ → ℕ → ℕ
cost plans h failed = 1 + untried plans failed * per_plan plans h

module _ (plans h : ℕ) where
  pub cost-some : (failed : ℕ) → 1 ≤ cost plans h failed
  unfolding cost
  cost-some failed = omega arith

  pub cost_le : (failed : ℕ) → h ≤ 8 → cost plans h failed ≤ W plans h
  unfolding cost
  cost_le failed l = omega (arith, W-step plans h l, mul-le-mul_right (per_plan plans h) (untried_le plans failed))

  pub cost_new : h ≤ 8 → cost plans h 0 ≡ W plans h
  unfolding cost
  cost_new l = omega (arith, W-step plans h l, ap (λ n. n * per_plan plans h) (untried-all plans))

  pub cost-failed : (failed plan : ℕ) → plan < plans → has failed plan ≡ false → cost plans h failed ≡ cost plans h (insert failed plan) + per_plan plans h
  unfolding cost
  cost-failed failed plan l f = omega (arith, ap (λ n. n * per_plan plans h) (untried-insert plans failed plan l f))

-- ---- Branches behind an instance

abbrev sizes : List (List Branch) → ℕ
sizes states = total (λ branches. length branches) states

-- of its state and the states after it
abbrev ahead : List (List Branch) → ℕ → ℕ → ℕ
ahead states state tried = (length (get_or states state []) - tried) + sizes (drop (suc state) states)

-- tried or passed by, of fifteen
unfoldable pub behind : Library → Instance → ℕ
behind library x = 15 - ahead (plan_of library x).states x.state x.tried

-- every body has at most 15 branches
abbrev pub Small : Library → Type 0
Small library = (plan : ℕ) → total (λ branches. length branches) (get_or library.plans plan no_plan).states ≤ 15

sizes-drop : (s : ℕ) (states : List (List Branch)) → sizes (drop s states) ≡ length (get_or states s []) + sizes (drop (suc s) states)
sizes-drop zero (x ∷ states) = refl
sizes-drop (suc s) (x ∷ states) = sizes-drop s states
sizes-drop s states = refl

sizes_later : (s t : ℕ) (states : List (List Branch)) → s ≤ t → sizes (drop t states) ≤ sizes (drop s states)
sizes_later zero zero states l = omega arith
sizes_later zero (suc t) [] l = omega arith
sizes_later zero (suc t) (x ∷ states) l = omega (arith, sizes_later zero t states (omega arith))
sizes_later (suc s) zero states l = absurd (omega arith)
sizes_later (suc s) (suc t) [] l = omega arith
sizes_later (suc s) (suc t) (x ∷ states) l = sizes_later s t states (omega arith)

module _ (library : Library) (r : Small library) (x : Instance) where
  abbrev S : List (List Branch)
  S = (plan_of library x).states

  ahead_le : ahead (plan_of library x).states x.state x.tried ≤ 15
  unfolding plan_of
  ahead_le = omega (arith, sizes-drop x.state S, sizes_later 0 x.state S (omega arith), r x.plan)

  pub behind_le : behind library x ≤ 15
  unfolding behind
  behind_le = omega arith

  -- a branch more is tried
  pub behind-tried : (env : Env) (status : Status) → x.tried < length (branches_of library x)
      → suc (behind library x) ≤ behind library (moved x env x.state (x.tried + 1) status)
  unfolding behind branches_of plan_of
  behind-tried env status l = omega (arith, ahead_le)

  -- it goes to a later state
  pub behind-past : (env : Env) (state : ℕ) (status : Status) → x.state < state → behind library x ≤ behind library (moved x env state 0 status)
  unfolding behind branches_of plan_of
  behind-past env state status l = omega (arith, ahead_le, sizes-drop state S, sizes_later (suc x.state) state S l)

  pub behind_stepped : (env : Env) (state : ℕ) (status : Status) → x.tried < length (branches_of library x) → x.state < state
      → suc (behind library x) ≤ behind library (moved x env state 0 status)
  unfolding behind branches_of plan_of
  behind_stepped env state status m l = omega (arith, ahead_le, sizes-drop state S, sizes_later (suc x.state) state S l)

  -- it stays
  pub behind_same : (status : Status) → behind library x ≤ behind library (moved x x.env x.state x.tried status)
  unfolding behind plan_of
  behind_same status = omega arith

  pub behind-some : 0 < x.tried → x.tried ≤ length (branches_of library x) → 1 ≤ behind library x
  unfolding behind branches_of plan_of
  behind-some a b = omega (arith, sizes-drop x.state S, sizes_later 0 x.state S (omega arith), r x.plan)
