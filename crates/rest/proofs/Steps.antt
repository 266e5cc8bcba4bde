-- Every step of a cycle or an outcome that counts lowers the potential by one or more; no other raises it.
use Prim.Native.Nat.{ℕ, suc, ◌+◌, ◌≤◌, ◌<◌}
use mathlib.Core.Path.{◌≡◌, refl, sym, ap, ◌∙◌}
use mathlib.Core.List.{List, [], ◌∷◌, ◌++◌}
use mathlib.Core.Bool.{Bool, true, false}
use native.Mathlib.Omega.{arith}
use lib.Dec.{eqb}
use lib.ListN.{length}
use borrow.Author.Tests.{not-true}
use Rattle.lists.specs.Counts.{bit, count}
use Rattle.lists.proofs.BoolLaws.{both_ways, and_parts}
use Rattle.lists.proofs.CountLaws.{bit_left, bit_right, bit_every, total_le}
use Rattle.lists.proofs.TestCounts.{any_some}
use Rattle.lists.proofs.LikeLaws.{Like, like_each}
use Rattle.literal.specs.declared.Literal.{Literal}
use Rattle.library.specs.Plan.{Library}
use Rattle.situation.specs.FailedSet.{has}
use Rattle.model.specs.declared.Event.{Event}
use Rattle.model.specs.declared.Instance.{Instance}
use Rattle.model.specs.declared.Status.{Status}
use Rattle.model.specs.declared.Status.TheVariants.{Active, Waiting, Suspended}
use Rattle.model.specs.declared.Origin.{Origin}
use Rattle.model.specs.declared.Answer.{Answer}
use Rattle.model.specs.declared.Answer.TheVariants.{Refused}
use Rattle.model.specs.State.{Intention, Call, cycle}
use Rattle.model.specs.Instance.{is_waiting, is_suspended, plan_of, branch_of, try_next, awake, past_branch}
use Rattle.model.specs.Live.{is_of, same_origin, goal_of, event_on, jobs_on, live}
use Rattle.model.specs.Try.{new_goal}
use Rattle.model.specs.End.{marked}
use Rattle.model.specs.WellFormed.{is_served}
use Rattle.model.specs.Formed.{Acceptable, Sound, Formed}
use Rattle.rest.specs.Rest.{is_report, is_work}
use Rattle.model.proofs.OriginLaws.{same_origin_lem, same_turned, goal_tried}
use Rattle.model.proofs.InstanceLaws.{waiting-awake, waiting_idle, suspended_idle, tried-some, past_up}
use Rattle.model.proofs.LinkedLaws.{job, unposted}
use Rattle.model.proofs.LocalLaws.{top_sound, local_popped}
use Rattle.model.proofs.FormedLaws.{stack, first_sound, first_stacked}
use Rattle.model.proofs.Step.{Step}
use Rattle.rest.proofs.Costs.{Small, behind-tried, behind-past, behind_stepped, behind_same}
use Rattle.rest.proofs.Potential.{Tier, tier, tiers_on, tiers_of, tiers, status_of, asks, height, started, started_le, spent, spent-tried, spent_posted, spent-kept, owed_like, paid_like, asks_none, height_external, height_goal, Fall, fall_moved, fall_posted, fall_woken, fall_made, fall_dropped, fall_failed, fall_ended, fall_stepped}
use Rattle.rest.proofs.Bounds.{jobs-all}

-- ---- Order does not matter

like_tiers : {ks ks' : List Intention} → Like ks ks' → Like (tiers ks) (tiers ks')
unfolding tiers
like_tiers a = like_each tiers_of a

pub refall : (library : Library) (r : Small library) (n : ℕ) {q q₁ q' q₂ : List Event} {ks ks₁ ks' ks₂ : List Intention} → Like q q₁ → Like ks ks₁ → Like q₂ q' → Like ks₂ ks'
    → Fall library r n q₁ (tiers ks₁) q₂ (tiers ks₂) → Fall library r n q (tiers ks) q' (tiers ks')
refall library r n a b c d f = omega (
  arith,
  f,
  owed_like (length library.plans) a (like_tiers b),
  owed_like (length library.plans) c (like_tiers d),
  paid_like library (like_tiers b),
  paid_like library (like_tiers d),
)

-- ---- One event, one goal

asks_le : (e : Event) (t : Tier) → bit (asks e.origin t) ≤ bit (is_of (goal_of t.job.instance) e)
asks_le e t = omega (arith, bit_right (is_suspended (status_of t)) (same_origin e.origin (goal_of t.job.instance)), ap bit (same_turned e.origin (goal_of t.job.instance)))

-- no other queued event is the goal of whoever posted the first
unasked : (e : Event) (q : List Event) (t : Tier) → ((o : Origin) → count (is_of o) (e ∷ q) ≤ 1) → e.origin ≡ goal_of t.job.instance → count (λ y. asks y.origin t) q ≡ 0
unasked e q t once p = omega (
  arith,
  once (goal_of t.job.instance),
  ap bit (same_origin_lem (goal_of t.job.instance) e.origin (sym p)),
  total_le (λ y. bit (asks y.origin t)) (λ y. bit (is_of (goal_of t.job.instance) y)) q (λ y. asks_le y t),
)

-- no answer of a refused call counts
refused_none : (c : Call) (number : ℕ) → is_work c (Refused number) ≡ false
unfolding is_work
refused_none cycle number = refl
refused_none c number = refl

waiting-not-started : (s : Status) → is_waiting s ≡ true → started s ≡ 0
waiting-not-started Active e = both_ways e refl
waiting-not-started Waiting e = refl
waiting-not-started Suspended e = both_ways e refl

-- an instance steps past its branch
past-spent : (library : Library) → Small library → Acceptable library → (k : ℕ) (x : Instance) (below : List Instance) → Sound library x → 0 < x.tried → (c : ℕ) → c + started x.status ≤ 1
    → c + spent library (tier k x below) ≤ spent library (tier k (past_branch library x) below)
unfolding past_branch
past-spent library r a k x below h tried c l =
    spent-kept library (tier k x below) (tier k (past_branch library x) below) refl
    (behind-past library r x x.env (branch_of library x).next Active (past_up library a x h tried)) c l

module _ (library : Library) (r : Small library) (a : Acceptable library) {b : List Literal} {n m : ℕ} where
  once_tiers : {q : List Event} (ks : List Intention) → Formed library b q ks n m → (k : ℕ) → count (λ u. eqb k u.job.instance.id) (tiers ks) ≤ 1
  once_tiers ks w k = omega (arith, w.linked.id_once k, jobs-all (λ j. bit (eqb k j.instance.id)) ks)

  -- ---- The end of a top

  module _ {e : Event} {q : List Event} {k : ℕ} {t : Instance} {below : List Instance} {ks : List Intention} (w : Formed library b (e ∷ q) (stack k t below ∷ ks) n m)
      (g : event_on k below ≡ e.origin) where
    -- its plan has not failed for its event
    unfailed : has e.failed t.plan ≡ false
    unfolding live jobs_on is_served
    unfailed =
        let own = job t (event_on k below) in
        let some = any_some (is_served library own) (e ∷ q) (bit_every _ (omega (arith, w.linked.served))) in
        let others = total_le (λ y. bit (is_served library own y)) (λ y. bit (is_of (event_on k below) y)) q (λ y. bit_left (is_of (event_on k below) y) _) in
        let here : is_served library own e ≡ true = one (is_served library own e) (omega (arith, w.linked.event_once (event_on k below), ap bit (same_origin_lem (event_on k below) e.origin g))) in
        not-true (has e.failed t.plan) (and_parts (eqb (plan_of library t).kind e.kind) _ (and_parts (is_of (event_on k below) e) _ here).1).1
      where
        one : (c : Bool) → 1 ≤ bit c → c ≡ true
        one true h = refl
        one false h = absurd (omega arith)

  -- it stands where its event is
  top_at : {q : List Event} (k : ℕ) (t : Instance) (below : List Instance) (ks : List Intention) → Formed library b q (stack k t below ∷ ks) n m
      → height (tiers_on k below ++ tiers ks) (event_on k below) ≡ suc (length below)
  unfolding tiers_on tiers
  top_at k t [] ks w = height_external (tiers ks) k
  top_at k t (c ∷ below) ks w =
      height_goal (tier k c below) (tiers_on k below ++ tiers ks)
      (λ i. omega (arith, once_tiers (stack k t (c ∷ below) ∷ ks) w i))
      (bit_every (is_suspended c.status) (omega (arith, (first_stacked w).asleep)))

  module _ {e : Event} {q : List Event} {k : ℕ} {t : Instance} {below : List Instance} {ks : List Intention} (w : Formed library b (e ∷ q) (stack k t below ∷ ks) n m)
      (g : event_on k below ≡ e.origin) (s : is_suspended t.status ≡ false) where
    abbrev T : List Tier
    T = tiers_on k below ++ tiers ks

    its_height : height T e.origin ≡ suc (length below)
    its_height = ap (height T) (sym g) ∙ top_at k t below ks w

    failed_falls : Fall library r 1 (e ∷ q) (tier k t below ∷ T) (marked t.plan e ∷ q) T
    failed_falls =
        fall_failed library r q e (tier k t below) T (asks_none (e ∷ q) (tier k t below) s) its_height (first_sound w).plan (unfailed w g) (marked t.plan e) refl refl

    ended_falls : Fall library r 1 (e ∷ q) (tier k t below ∷ T) q T
    ended_falls = fall_ended library r q e (tier k t below) T (asks_none (e ∷ q) (tier k t below) s) its_height (first_sound w).plan (unfailed w g)

  -- ---- Every step

  pub step_falls : {c : Call} {q q' : List Event} {ks ks' : List Intention} {n' m' : ℕ} {x : Answer} → Step library n m c q ks x n' m' q' ks'
      → is_report c ≡ false → Formed library b q ks n m → Fall library r (bit (is_work c x)) q (tiers ks) q' (tiers ks')
  unfolding is_work tiers tiers_on past_branch live jobs_on
  step_falls Step.idle o w = omega arith
  step_falls {c = c} (Step.refused number e) o w = omega (arith, ap bit (refused_none c number))
  step_falls (Step.taken kind l x g f h) o w = both_ways refl o
  step_falls (Step.dropped {e} {q} {ks} k p z) o w = fall_dropped library r q e (tiers ks)
  step_falls (Step.unmet {e} {q} {k} {t} {below} {ks} i s y p g u z) o w =
      fall_woken library r q e (tier k t below) (tier k (awake t) below) (tiers_on k below ++ tiers ks) (unasked e q (tier k t below) w.linked.event_once g) refl
      (omega (arith, spent-kept library (tier k t below) (tier k (awake t) below) refl (behind_same library r t Active) 0 (omega (arith, started_le t.status))))
  step_falls (Step.made_external {e} {q} {ks} chosen k p z x f h) o w = fall_made library r (e ∷ q) _ (tiers ks) refl
  step_falls (Step.made_goal {e} {q} {k} {t} {below} {ks} chosen x d p s z y f) o w = fall_made library r (e ∷ q) _ (tiers (stack k t below ∷ ks)) refl
  step_falls (Step.missed {q} {k} {t} {below} {ks} x s g) o w =
      fall_moved library r q (tier k t below) (tier k (try_next Active t) below) (tiers_on k below ++ tiers ks) s refl
      (spent-tried library (tier k t below) (tier k (try_next Active t) below) refl (behind-tried library r t t.env Active g.untried))
  step_falls (Step.stepped {q} {k} {t} {below} {ks} x env s g e) o w =
      fall_moved library r q (tier k t below) _ (tiers_on k below ++ tiers ks) s refl
      (spent-tried library (tier k t below) _ refl (behind_stepped library r t env x.next Active g.untried g.up))
  step_falls (Step.done {q} {k} {t} {below} {ks} x l s g e) o w =
      fall_moved library r q (tier k t below) (tier k (try_next Waiting t) below) (tiers_on k below ++ tiers ks) s refl
      (spent-tried library (tier k t below) (tier k (try_next Waiting t) below) refl (behind-tried library r t t.env Waiting g.untried))
  step_falls (Step.posted {q} {k} {t} {below} {ks} x l s g h) o w =
      let y = try_next Suspended t in
      let u = tier k y below in
      fall_posted library r q (new_goal t x.kind l) (tier k t below) u (tiers_on k below ++ tiers ks) s refl (omega (arith, h.low)) (sym (goal_tried t Suspended)) refl
      (once_tiers (stack k t below ∷ ks) w)
      (omega (arith, unposted w.linked s (goal_of y) y refl refl, total_le (λ e. bit (asks e.origin u)) (λ e. bit (is_of (goal_of y) e)) q (λ e. asks_le e u)))
      (spent_posted library (tier k t below) u refl (behind-tried library r t t.env Suspended g.untried) refl)
  step_falls (Step.failed_bottom s g) o w = failed_falls w g s
  step_falls (Step.failed_above s g) o w = failed_falls w g s
  step_falls (Step.succeeded_bottom s g) o w = ended_falls w g s
  step_falls (Step.succeeded_above {e} {q} {k} {t} {c} {below} {ks} s g d) o w =
      let h = top_sound c (event_on k below) (local_popped t (goal_of c) w.local) in
      fall_stepped library r q e (tier k t (c ∷ below)) (tier k c below) (tier k (past_branch library c) below) (tiers_on k below ++ tiers ks)
      (ended_falls w g s) (unasked e q (tier k c below) w.linked.event_once (sym g)) refl
      (omega (arith, past-spent library r a k c below h (tried-some c.tried _ c.status h.status (suspended_idle c.status d)) 0 (omega (arith, started_le c.status))))
  step_falls (Step.worked {q = q} {k} {t} {below} {ks} d) o w =
      let h = first_sound w in
      fall_moved library r q (tier k t below) (tier k (past_branch library t) below) (tiers_on k below ++ tiers ks) (waiting-awake t.status d) refl
      (omega (arith, past-spent library r a k t below h (tried-some t.tried _ t.status h.status (waiting_idle t.status d)) 1 (omega (arith, waiting-not-started t.status d))))
  step_falls (Step.not_worked_lem {q = q} {k} {t} {below} {ks} d) o w =
      fall_moved library r q (tier k t below) (tier k (awake t) below) (tiers_on k below ++ tiers ks) (waiting-awake t.status d) refl
      (omega (arith, spent-kept library (tier k t below) (tier k (awake t) below) refl (behind_same library r t Active) 1 (omega (arith, waiting-not-started t.status d))))
