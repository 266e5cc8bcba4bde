-- A well-formed state's queue holds at most 88 events: 32 external ones, and a goal for each of at most seven suspended instances of each stack.
use Prim.Native.Nat.{ℕ, suc, ◌+◌, ◌*◌, ◌≤◌, ◌<◌}
use mathlib.Core.Path.{◌≡◌, refl, sym, ap, ◌∙◌}
use mathlib.Core.List.{List, [], ◌∷◌}
use mathlib.Core.Bool.{Bool, true, false, ◌&&◌, not}
use native.Mathlib.Omega.{arith}
use lib.ListN.{length}
use Rattle.lists.specs.Search.{position}
use Rattle.lists.specs.Gap.{remove_at}
use Rattle.lists.specs.Counts.{bit, count, Every}
use Rattle.lists.proofs.BoolLaws.{by_cases, and_parts}
use Rattle.lists.proofs.CountLaws.{bit_le_one, bit_every, total-append}
use Rattle.lists.proofs.LikeLaws.{Like}
use Rattle.lists.proofs.PlaceLaws.{position_taken}
use Rattle.literal.specs.declared.Literal.{Literal}
use Rattle.library.specs.Plan.{Library}
use Rattle.model.specs.declared.Event.{Event}
use Rattle.model.specs.declared.Instance.{Instance}
use Rattle.model.specs.declared.Origin.{Origin}
use Rattle.model.specs.State.{most_queued, most_height, Intention}
use Rattle.model.specs.Instance.{is_suspended}
use Rattle.model.specs.Live.{is_goal, is_external, same_origin, is_of, goal_of, Job, jobs_on, jobs_of, live}
use Rattle.model.specs.Turn.{height_of}
use Rattle.model.specs.WellFormed.{is_posted, is_stack}
use Rattle.model.specs.Demand3.{is_asleep}
use Rattle.model.specs.Formed.{Stacked, Formed}
use Rattle.model.proofs.OriginLaws.{origin_equal, origin_same}
use Rattle.model.proofs.InstanceLaws.{stack-parts}
use Rattle.model.proofs.FormedLaws.{stack}

-- ---- As many goals as suspended instances

-- what a poster counts for
posted_as : (o u : Origin) (j : Job) → is_posted u j ≡ true → bit (is_posted o j) ≡ bit (same_origin o u)
posted_as o u j e =
    let parts = and_parts (is_suspended j.instance.status) (same_origin u (goal_of j.instance)) e in
    ap (λ b. bit (b && same_origin o (goal_of j.instance))) parts.0 ∙ ap (λ x. bit (same_origin o x)) (sym (origin_equal u (goal_of j.instance) parts.1))

-- goals that each have a poster of their own are no more than the suspended instances
goals_few : (q : List Event) (J : List Job) → ((o : Origin) → count (λ e. is_goal e.origin && is_of o e) q ≤ count (is_posted o) J)
    → count (λ e. is_goal e.origin) q ≤ count is_asleep J
goals_few [] J h = omega arith
goals_few (e ∷ q) J h = by_cases (is_goal e.origin)
    (λ g. goal g (position_taken (is_posted e.origin) J (omega (arith, h e.origin, ap (λ b. bit (b && is_of e.origin e)) g, ap bit (origin_same e.origin)))) (goals_few q))
    (λ g. omega (arith, goals_few q J (λ o. omega (arith, h o)), ap bit g))
  where
    goal : is_goal e.origin ≡ true → (j : Job) × (is_posted e.origin j ≡ true) × Like J (j ∷ remove_at (position (is_posted e.origin) J) J)
        → ((K : List Job) → ((o : Origin) → count (λ x. is_goal x.origin && is_of o x) q ≤ count (is_posted o) K) → count (λ x. is_goal x.origin) q ≤ count is_asleep K)
        → bit (is_goal e.origin) + count (λ x. is_goal x.origin) q ≤ count is_asleep J
    goal g (j, p, l) rest =
        let less = rest (remove_at (position (is_posted e.origin) J) J)
        (λ o. omega (arith, h o, ap (λ b. bit (b && is_of o e)) g, posted_as o e.origin j p, l.sums (λ x. bit (is_posted o x)))) in
        omega (arith, less, bit_le_one (is_goal e.origin), l.sums (λ x. bit (is_asleep x)), ap bit (and_parts (is_suspended j.instance.status) _ p).0)

-- ---- At most seven of a stack

below_few : (external : ℕ) (below : List Instance) → count is_asleep (jobs_on external below) ≤ length below
unfolding jobs_on
below_few external [] = omega arith
below_few external (x ∷ below) = omega (arith, bit_le_one (is_suspended x.status), below_few external below)

stack-few : (k : Intention) → Stacked k → count is_asleep (jobs_of k) ≤ 7
unfolding jobs_on
stack-few k s = by_cases (is_suspended k.top.status)
    (λ e. omega (arith, s.room e, bit_le_one (is_suspended k.top.status), below_few k.external k.below))
    (λ e. omega (arith, s.height, ap bit e, below_few k.external k.below))

stacks-few : (ks : List Intention) → Every is_stack ks → count is_asleep (live ks) ≤ 7 * length ks
unfolding live
stacks-few [] h = omega arith
stacks-few (k ∷ ks) h = omega (
  arith,
  stack-few k (stack-parts k (bit_every (is_stack k) (omega arith))),
  stacks-few ks (omega arith),
  total-append (λ j. bit (is_asleep j)) (jobs_of k) (live ks),
)

-- ---- The queue

parts : (q : List Event) → length q ≡ count is_external q + count (λ e. is_goal e.origin) q
parts [] = refl
parts (e ∷ q) = go (is_goal e.origin) (parts q)
  where
    go : (b : Bool) → length q ≡ count is_external q + count (λ x. is_goal x.origin) q
        → suc (length q) ≡ bit (not b) + count is_external q + (bit b + count (λ x. is_goal x.origin) q)
    go true r = omega arith
    go false r = omega arith

module _ {library : Library} {b : List Literal} {q : List Event} {n m : ℕ} where
  pub queue_few : {ks : List Intention} → Formed library b q ks n m → length q ≤ most_queued
  queue_few {ks} i = omega (
    arith,
    parts q,
    i.local.few,
    goals_few q (live ks) (λ o. omega (arith, i.linked.goals o)),
    stacks-few ks i.stacked,
    i.few,
  )

  -- a stack whose top is awake and that is not full leaves room for a goal
  pub queue_room : {k : ℕ} {t : Instance} {below : List Instance} {ks : List Intention} → Formed library b q (stack k t below ∷ ks) n m
      → is_suspended t.status ≡ false
      → height_of (stack k t below) < most_height → length q < most_queued
  unfolding live jobs_on
  queue_room {k} {t} {below} {ks} i e low = omega (
    arith,
    parts q,
    i.local.few,
    goals_few q (live (stack k t below ∷ ks)) (λ o. omega (arith, i.linked.goals o)),
    stacks-few ks (omega (arith, i.stacked)),
    below_few k below,
    total-append (λ j. bit (is_asleep j)) (jobs_on k below) (live ks),
    ap bit e,
    i.few,
  )
