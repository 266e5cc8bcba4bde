-- What relates the history to the queue and the live instances, whose order does not matter; and what follows from it.
use Prim.Native.Nat.{ℕ, zero, suc, ◌+◌, ◌≤◌, ◌<◌}
use mathlib.Core.Path.{◌≡◌, refl, sym, ap, ◌∙◌}
use mathlib.Core.List.{List, ◌∷◌, map}
use mathlib.Core.Bool.{Bool, true, false, ◌&&◌, ◌||◌, not}
use native.Mathlib.Omega.{arith}
use native.Mathlib.Numerals.{add-one}
use lib.Dec.{eqb, ltb, leb}
use borrow.Author.Tests.{eqb-true, ltb-true}
use Rattle.lists.specs.Counts.{bit, total, count}
use Rattle.lists.proofs.CountLaws.{bit_left, total-map, total_le, total_zero}
use Rattle.lists.proofs.LikeLaws.{Like}
use Rattle.situation.specs.FailedSet.{has}
use Rattle.model.specs.declared.Event.{Event}
use Rattle.model.specs.declared.Instance.{Instance}
use Rattle.model.specs.declared.Origin.{Origin}
use Rattle.model.specs.declared.Origin.TheVariants.{External, Goal}
use Rattle.model.specs.Instance.{is_suspended}
use Rattle.model.specs.Live.{is_goal, same_origin, is_of, goal_of, Job}
use Rattle.model.specs.History.{Spot, spot, goal_at, same_spot, Making, making_of, History, last_goal, down_from}
use Rattle.model.specs.Demand3.{is_for, arrivals}

-- the event has this origin, and the plan has not failed for it
abbrev pub is_open : Origin → ℕ → Event → Bool
is_open o plan e = is_of o e && not (has e.failed plan)

-- a branch of state t that an instance in state s with k tried has before it
abbrev pub is_ahead : ℕ → ℕ → ℕ → ℕ → Bool
is_ahead s k t b = ltb s t || (eqb s t && leb k b)

-- a try of this instance that it still has before it
abbrev pub is_early : Instance → Spot → Bool
is_early x t = eqb t.id x.id && is_ahead x.state x.tried t.state t.branch

-- a suspended instance whose goal is not that of its last G
abbrev pub is_lost : List Spot → Job → Bool
is_lost posted j = is_suspended j.instance.status && not (same_origin (goal_of j.instance) (last_goal j.instance.id posted))

pub record Invariant (h : History) (q : List Event) (J : List Job) (n m : ℕ) : Type 0 where
  pub ids : map (λ x. x.id) h.made ≡ down_from m
  pub numbers : h.taken ≡ down_from n
  pub instances : (p : ℕ → Bool)
      → count (λ x. p x.id) h.made ≡ count p h.succeeded + (count p h.failed + count (λ j. p j.instance.id) J)
  pub events : (p : Origin → Bool)
      → count (λ k. p (External k)) h.taken + count (λ t. p (goal_at t)) h.posted ≡ count p h.closed + count (λ e. p e.origin) q
  pub goals : (p : Origin → Bool)
      → count (λ e. is_goal e.origin && p e.origin) q ≡ count (λ j. is_suspended j.instance.status && p (goal_of j.instance)) J
  pub known : (p : Making → Bool) → count (λ j. p (making_of j)) J ≤ count p h.made
  pub lasts : count (is_lost h.posted) J ≡ 0
  -- an event for which an instance was made has arrived
  pub arrived : (o : Origin) → 1 ≤ count (λ x. same_origin o x.event) h.made → 1 ≤ arrivals h o
  pub plans : (o : Origin) (plan : ℕ) → count (is_for o plan) h.made ≤ 1
  -- a plan made for a queued event for which it has not failed is still live
  pub unfailed : (o : Origin) (plan : ℕ) → 1 ≤ count (is_open o plan) q → count (is_for o plan) h.made ≤ count (λ j. is_for o plan (making_of j)) J
  pub posts : (t : Spot) → count (same_spot t) h.posted ≤ count (same_spot t) h.tries
  pub tries : (t : Spot) → count (same_spot t) h.tries ≤ 1
  -- a live instance is past all its tries, and no try is of an instance not yet made
  pub passed : total (λ j. count (is_early j.instance) h.tries) J ≡ 0
  pub recent : count (λ t. ltb m t.id) h.tries ≡ 0

-- ---- Order does not matter

pub reorder : {h : History} {q q' : List Event} {J J' : List Job} {n m : ℕ} → Like q q' → Like J J' → Invariant h q J n m → Invariant h q' J' n m
reorder a b i = record {
  ids = i.ids;
  numbers = i.numbers;
  instances = λ p. omega (arith, i.instances p, b.sums (λ j. bit (p j.instance.id)));
  events = λ p. omega (arith, i.events p, a.sums (λ e. bit (p e.origin)));
  goals = λ p. sym (a.sums _) ∙ i.goals p ∙ b.sums _;
  known = λ p. omega (arith, i.known p, b.sums (λ j. bit (p (making_of j))));
  lasts = sym (b.sums _) ∙ i.lasts;
  arrived = i.arrived;
  plans = i.plans;
  unfailed = λ o plan e. let e₁ = a.sums (λ x. bit (is_open o plan x)) in let r = i.unfailed o plan (omega arith) in omega (arith, r, b.sums (λ j. bit (is_for o plan (making_of j))));
  posts = i.posts;
  tries = i.tries;
  passed = sym (b.sums _) ∙ i.passed;
  recent = i.recent;
}

-- ---- Numbers from 1

pub down_next : (n : ℕ) → (n + 1) ∷ down_from n ≡ down_from (n + 1)
down_next n = rw (add-one n)

pub down_fresh : (k m : ℕ) → m ≤ k → count (ltb k) (down_from m) ≡ 0
down_fresh k zero h = refl
down_fresh k (suc m) h = go (ltb k (suc m)) refl (down_fresh k m (omega arith))
  where
    go : (b : Bool) → ltb k (suc m) ≡ b → count (ltb k) (down_from m) ≡ 0 → bit b + count (ltb k) (down_from m) ≡ 0
    go true e r = absurd (omega (arith, ltb-true k (suc m) e))
    go false e r = omega arith

pub down_above : (i m : ℕ) → m < i → count (eqb i) (down_from m) ≡ 0
down_above i zero h = refl
down_above i (suc m) h = go (eqb i (suc m)) refl (down_above i m (omega arith))
  where
    go : (b : Bool) → eqb i (suc m) ≡ b → count (eqb i) (down_from m) ≡ 0 → bit b + count (eqb i) (down_from m) ≡ 0
    go true e r = absurd (omega (arith, eqb-true i (suc m) e))
    go false e r = omega arith

pub down_once : (i m : ℕ) → count (eqb i) (down_from m) ≤ 1
down_once i zero = omega arith
down_once i (suc m) = go (eqb i (suc m)) refl (down_once i m)
  where
    go : (b : Bool) → eqb i (suc m) ≡ b → count (eqb i) (down_from m) ≤ 1 → bit b + count (eqb i) (down_from m) ≤ 1
    go true e r = let e₁ = eqb-true i (suc m) e in omega (arith, down_above i m (omega arith))
    go false e r = omega arith

-- ---- What follows

module _ {h : History} {q : List Event} {J : List Job} {n m : ℕ} (i : Invariant h q J n m) where
  made_ids : (p : ℕ → Bool) → count (λ x. p x.id) h.made ≡ count p (down_from m)
  made_ids p = sym (total-map (λ x. bit (p x)) (λ (x : Making). x.id) h.made) ∙ ap (count p) i.ids

  pub id_once : (k : ℕ) → count (λ x. eqb k x.id) h.made ≤ 1
  id_once k = omega (arith, made_ids (eqb k), down_once k m)

  pub live_once : (k : ℕ) → count (λ j. eqb k j.instance.id) J ≤ 1
  live_once k = omega (arith, i.instances (eqb k), id_once k)

  pub live_old : count (λ j. ltb m j.instance.id) J ≡ 0
  live_old = omega (arith, i.instances (ltb m), made_ids (ltb m), down_fresh m m (omega arith))

  pub arrivals_once : (o : Origin) → arrivals h o ≤ 1
  unfolding same_origin
  arrivals_once (External k) = omega (arith, total_zero h.posted, ap (count (eqb k)) i.numbers, down_once k n)
  arrivals_once (Goal x s b) = omega (arith, total_zero h.taken, i.posts (spot x s b), i.tries (spot x s b))

  pub queue_once : (o : Origin) → count (is_of o) q ≤ 1
  queue_once o = omega (arith, i.events (same_origin o), arrivals_once o)

  -- an event that has not arrived has had no plan
  pub no_plan_lem : (o : Origin) (plan : ℕ) → arrivals h o ≡ 0 → count (is_for o plan) h.made ≡ 0
  no_plan_lem o plan z = go (count (λ x. same_origin o x.event) h.made) refl
    where
      less : count (is_for o plan) h.made ≤ count (λ x. same_origin o x.event) h.made
      less = total_le (λ x. bit (is_for o plan x)) (λ x. bit (same_origin o x.event)) h.made (λ x. bit_left (same_origin o x.event) (eqb plan x.plan))

      go : (k : ℕ) → count (λ x. same_origin o x.event) h.made ≡ k → count (is_for o plan) h.made ≡ 0
      go zero e = omega (arith, less)
      go (suc k) e = absurd (omega (arith, i.arrived o (omega arith)))
