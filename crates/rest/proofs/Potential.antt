-- The potential of a state: what its events may still cost, less what its instances have spent. Each change lowers it by one or more.
use Prim.Native.Nat.{ℕ, suc, ◌+◌, ◌*◌, ◌≤◌, ◌<◌}
use mathlib.Core.Path.{◌≡◌, refl, sym, ap, ◌∙◌}
use mathlib.Core.List.{List, [], ◌∷◌}
use mathlib.Core.Bool.{Bool, true, false, ◌&&◌}
use native.Mathlib.Omega.{arith}
use native.Mathlib.Nat.{mul-le-mul_right, zero-add}
use lib.Dec.{eqb}
use lib.ListN.{length}
use Rattle.lists.specs.Counts.{bit, total, count, each}
use Rattle.lists.proofs.AndLaws.{and_first, and_second}
use Rattle.lists.proofs.CountLaws.{total_same, total_unless, total_zero}
use Rattle.lists.proofs.LikeLaws.{Like}
use Rattle.library.specs.Plan.{Library}
use Rattle.situation.specs.FailedSet.{has, insert}
use Rattle.model.specs.declared.Event.{Event}
use Rattle.model.specs.declared.Instance.{Instance}
use Rattle.model.specs.declared.Status.{Status}
use Rattle.model.specs.declared.Status.TheVariants.{Active, Waiting, Suspended}
use Rattle.model.specs.declared.Origin.{Origin}
use Rattle.model.specs.declared.Origin.TheVariants.{External}
use Rattle.model.specs.State.{Intention}
use Rattle.model.specs.Instance.{is_suspended}
use Rattle.model.specs.Live.{same_origin, goal_of, event_on, Job}
use Rattle.model.specs.WellFormed.{is_posted}
use Rattle.rest.specs.Rest.{W}
use Rattle.model.proofs.OriginLaws.{eqb_same, origin_same}
use Rattle.model.proofs.LinkedLaws.{job}
use Rattle.rest.proofs.Costs.{per_branch, per_plan, cost, cost-some, cost_new, cost-failed, behind, Small, behind_le}

-- ---- Instances with their heights

pub record Tier : Type 0 where
  pub job : Job
  pub high : ℕ

abbrev pub tier : ℕ → Instance → List Instance → Tier
tier external x below = record { job = job x (event_on external below); high = suc (length below) }

-- from the top down
unfoldable pub tiers_on : ℕ → List Instance → List Tier
tiers_on external [] = []
tiers_on external (x ∷ below) = tier external x below ∷ tiers_on external below

abbrev pub tiers_of : Intention → List Tier
tiers_of stack = tiers_on stack.external (stack.top ∷ stack.below)

unfoldable pub tiers : List Intention → List Tier
tiers stacks = each tiers_of stacks

-- its status; the goal is this one's
abbrev pub status_of : Tier → Status
status_of t = t.job.instance.status

abbrev pub asks : Origin → Tier → Bool
asks o t = is_posted o t.job

abbrev pub pick : Bool → ℕ → ℕ
pick true n = n
pick false n = 0

-- ---- What is owed and what is paid

-- an event's height: one more than its poster's, 1 for an external one
unfoldable pub height : List Tier → Origin → ℕ
height T o = suc (total (λ t. pick (asks o t) t.high) T)

unfoldable pub owed : ℕ → List Event → List Tier → ℕ
owed plans q T = total (λ e. cost plans (height T e.origin) e.failed) q

-- its making, unless it waits: then its outcome is still to come
abbrev pub started : Status → ℕ
started Active = 1
started Waiting = 0
started Suspended = 1

pub started_le : (s : Status) → started s ≤ 1
started_le Waiting = omega arith
started_le s = omega arith

unfoldable pub spent : Library → Tier → ℕ
spent library t = started (status_of t) + behind library t.job.instance * per_branch (length library.plans) t.high

unfoldable pub paid : Library → List Tier → ℕ
paid library T = total (λ t. spent library t) T

pub spent_le : (library : Library) → Small library → (t : Tier) → suc (spent library t) ≤ per_plan (length library.plans) t.high
unfolding spent
spent_le library r t =
    omega (arith, started_le (status_of t), mul-le-mul_right (per_branch (length library.plans) t.high) (behind_le library r t.job.instance))

-- ---- What an instance has spent, before and after

module _ (library : Library) (t u : Tier) (h : t.high ≡ u.high) where
  abbrev X : ℕ
  X = behind library t.job.instance

  abbrev Y : ℕ
  Y = behind library u.job.instance

  abbrev B : ℕ
  B = per_branch (length library.plans) t.high

  level : per_branch (length library.plans) u.high ≡ per_branch (length library.plans) t.high
  level = ap (per_branch (length library.plans)) (sym h)

  -- a branch more
  spent-branch : suc X ≤ Y → X * B + B ≤ Y * per_branch (length library.plans) u.high
  spent-branch g = omega (arith, mul-le-mul_right B g, ap (λ n. Y * n) level)

  pub spent-tried : suc X ≤ Y → suc (spent library t) ≤ spent library u
  unfolding spent
  spent-tried g = omega (arith, spent-branch g, started_le (status_of t))

  pub spent_posted : suc X ≤ Y → status_of u ≡ Suspended → spent library t + per_branch (length library.plans) u.high ≤ spent library u
  unfolding spent
  spent_posted g e = omega (arith, spent-branch g, started_le (status_of t), ap started e, level)

  pub spent-kept : X ≤ Y → (a : ℕ) → a + started (status_of t) ≤ started (status_of u) → a + spent library t ≤ spent library u
  unfolding spent
  spent-kept g a m = omega (arith, mul-le-mul_right B g, ap (λ n. Y * n) level)

-- ---- Order does not matter

pub owed_like : (plans : ℕ) {q q' : List Event} {T T' : List Tier} → Like q q' → Like T T' → owed plans q T ≡ owed plans q' T'
unfolding owed height
owed_like plans {q} {q'} {T} {T'} a b = a.sums _ ∙ total_same _ _ q' (λ e. ap (λ n. cost plans (suc n) e.failed) (b.sums _))

pub paid_like : (library : Library) {T T' : List Tier} → Like T T' → paid library T ≡ paid library T'
unfolding paid
paid_like library b = b.sums _

pub height_like : {T T' : List Tier} → Like T T' → (o : Origin) → height T o ≡ height T' o
unfolding height
height_like b o = ap suc (b.sums _)

-- ---- Whose goal is not queued, or who has none, does not count

pub owed_skip : (plans : ℕ) (q : List Event) (t : Tier) (T : List Tier) → count (λ e. asks e.origin t) q ≡ 0 → owed plans q (t ∷ T) ≡ owed plans q T
unfolding owed height
owed_skip plans q t T z = total_unless (λ e. asks e.origin t) _ _ q z
    (λ e f. ap (λ b. cost plans (suc (pick b t.high + total (λ u. pick (asks e.origin u) u.high) T)) e.failed) f ∙ ap (λ n. cost plans (suc n) e.failed) (zero-add _))

pub asks_none : (q : List Event) (t : Tier) → is_suspended (status_of t) ≡ false → count (λ e. asks e.origin t) q ≡ 0
asks_none q t f = total_same _ (λ e. 0) q (λ e. ap (λ b. bit (b && same_origin e.origin (goal_of t.job.instance))) f) ∙ total_zero q

pub owed_off : (plans : ℕ) (q : List Event) (t : Tier) (T : List Tier) → is_suspended (status_of t) ≡ false → owed plans q (t ∷ T) ≡ owed plans q T
owed_off plans q t T f = owed_skip plans q t T (asks_none q t f)

-- ---- Heights of events

pub height_external : (T : List Tier) (n : ℕ) → height T (External n) ≡ 1
unfolding height same_origin
height_external T n = ap suc (total_same _ (λ t. 0) T (λ t. ap (λ b. pick b t.high) (and_second (is_suspended (status_of t)) false refl)) ∙ total_zero T)

pub height_goal : (t : Tier) (T : List Tier) → ((k : ℕ) → count (λ u. eqb k u.job.instance.id) (t ∷ T) ≤ 1) → is_suspended (status_of t) ≡ true
    → height (t ∷ T) (goal_of t.job.instance) ≡ suc t.high
unfolding height same_origin
height_goal t T once s =
    let x = t.job.instance in
    let own : asks (goal_of x) t ≡ true = rw (s, origin_same (goal_of x)) in
    let others : count (λ u. eqb x.id u.job.instance.id) T ≡ 0 = omega (arith, once x.id, ap bit (eqb_same x.id)) in
    let rest = total_unless (λ u. eqb x.id u.job.instance.id) (λ u. pick (asks (goal_of x) u) u.high) (λ u. 0) T others
    (λ u f. ap (λ b. pick b u.high) (and_second (is_suspended (status_of u)) _ (and_first (eqb x.id u.job.instance.id) _ f))) ∙ total_zero T in
    omega (arith, rest, ap (λ b. pick b t.high) own)

-- ---- The changes

module _ (library : Library) (r : Small library) where
  abbrev P : ℕ
  P = length library.plans

  -- n more is spent for good
  abbrev pub Fall : ℕ → List Event → List Tier → List Event → List Tier → Type 0
  Fall n q T q' T' = n + (paid library T + owed (length library.plans) q' T') ≤ owed (length library.plans) q T + paid library T'

  -- S, B, D and outcomes
  pub fall_moved : (q : List Event) (t u : Tier) (T : List Tier) → is_suspended (status_of t) ≡ false → is_suspended (status_of u) ≡ false
      → suc (spent library t) ≤ spent library u → Fall 1 q (t ∷ T) q (u ∷ T)
  unfolding paid
  fall_moved q t u T a b l = omega (arith, owed_off P q t T a, owed_off P q u T b)

  -- G
  pub fall_posted : (q : List Event) (e : Event) (t u : Tier) (T : List Tier) → is_suspended (status_of t) ≡ false → is_suspended (status_of u) ≡ true → u.high < 8
      → e.origin ≡ goal_of u.job.instance → e.failed ≡ 0 → ((k : ℕ) → count (λ y. eqb k y.job.instance.id) (u ∷ T) ≤ 1)
      → count (λ y. asks y.origin u) q ≡ 0
      → spent library t + per_branch P u.high ≤ spent library u → Fall 1 q (t ∷ T) (e ∷ q) (u ∷ T)
  unfolding paid owed
  fall_posted q e t u T a b l o f once z m =
      let h : height (u ∷ T) e.origin ≡ suc u.high = ap (height (u ∷ T)) o ∙ height_goal u T once b in
      let c : cost P (height (u ∷ T) e.origin) e.failed ≡ W P (suc u.high) = ap (λ n. cost P n e.failed) h ∙ ap (cost P (suc u.high)) f ∙ cost_new P (suc u.high) (omega arith) in
      omega (arith, c, owed_off P q t T a, owed_skip P q u T z)

  -- U
  pub fall_woken : (q : List Event) (e : Event) (t u : Tier) (T : List Tier) → count (λ y. asks y.origin t) q ≡ 0 → is_suspended (status_of u) ≡ false
      → spent library t ≤ spent library u → Fall 1 (e ∷ q) (t ∷ T) q (u ∷ T)
  unfolding paid owed
  fall_woken q e t u T z b l = omega (arith, cost-some P (height (t ∷ T) e.origin) e.failed, owed_skip P q t T z, owed_off P q u T b)

  -- M
  pub fall_made : (q : List Event) (u : Tier) (T : List Tier) → status_of u ≡ Active → Fall 1 q T q (u ∷ T)
  unfolding paid spent
  fall_made q u T e = omega (arith, owed_off P q u T (ap is_suspended e), ap started e)

  -- N
  pub fall_dropped : (q : List Event) (e : Event) (T : List Tier) → Fall 1 (e ∷ q) T q T
  unfolding owed
  fall_dropped q e T = omega (arith, cost-some P (height T e.origin) e.failed)

  module _ (q : List Event) (e : Event) (t : Tier) (T : List Tier) (s : count (λ y. asks y.origin t) (e ∷ q) ≡ 0) (h : height T e.origin ≡ t.high)
      (l : t.job.instance.plan < length library.plans) (f : has e.failed t.job.instance.plan ≡ false) where
    abbrev after : ℕ
    after = insert e.failed t.job.instance.plan

    its_cost : cost P (height T e.origin) e.failed ≡ cost P (height T e.origin) after + per_plan P t.high
    its_cost = cost-failed P (height T e.origin) e.failed t.job.instance.plan l f ∙ ap (λ n. cost P (height T e.origin) after + per_plan P n) h

    -- F
    pub fall_failed : (e' : Event) → e'.origin ≡ e.origin → e'.failed ≡ insert e.failed t.job.instance.plan → Fall 1 (e ∷ q) (t ∷ T) (e' ∷ q) T
    unfolding paid owed
    fall_failed e' o g =
        let c : cost P (height T e'.origin) e'.failed ≡ cost P (height T e.origin) after = ap (λ n. cost P (height T n) e'.failed) o ∙ ap (cost P (height T e.origin)) g in
        omega (arith, c, its_cost, owed_skip P (e ∷ q) t T s, spent_le library r t)

    -- E of a bottom; and an instance withdrawn, with its goal
    pub fall_ended : Fall 1 (e ∷ q) (t ∷ T) q T
    unfolding paid owed
    fall_ended = omega (arith, its_cost, owed_skip P (e ∷ q) t T s, spent_le library r t)

  -- E over a poster
  pub fall_stepped : (q : List Event) (e : Event) (t b c : Tier) (T : List Tier) → Fall 1 (e ∷ q) (t ∷ (b ∷ T)) q (b ∷ T)
      → count (λ y. asks y.origin b) q ≡ 0 → is_suspended (status_of c) ≡ false → spent library b ≤ spent library c
      → Fall 1 (e ∷ q) (t ∷ (b ∷ T)) q (c ∷ T)
  unfolding paid
  fall_stepped q e t b c T f z s l = omega (arith, f, owed_skip P q b T z, owed_off P q c T s)
