-- In a well-formed state the instances have spent no more than the events may cost, and what the goals may cost their posters have set aside.
use Prim.Native.Nat.{ℕ, suc, ◌+◌, ◌-◌, ◌*◌, ◌≤◌, ◌<◌}
use mathlib.Core.Path.{◌≡◌, refl, sym, ap, ◌∙◌}
use mathlib.Core.List.{List, [], ◌∷◌, ◌++◌}
use mathlib.Core.Bool.{Bool, true, false, ◌&&◌, ◌||◌, not}
use native.Mathlib.Omega.{arith}
use native.Mathlib.Nat.{mul-le-mul_right}
use lib.Dec.{eqb}
use lib.ListN.{length}
use borrow.Author.Tests.{eqb-true, not-true}
use Rattle.std.specs.List.{list_any}
use Rattle.lists.specs.Counts.{bit, total, count, Every}
use Rattle.lists.proofs.BoolLaws.{by_cases, and_parts}
use Rattle.lists.proofs.CountLaws.{bit_left, bit_right, bit_every, total-append, total_same, total_le, total-add, total_zero, total_unless, total_swap}
use Rattle.lists.proofs.TestCounts.{any_some}
use Rattle.lists.proofs.LikeLaws.{Like}
use Rattle.library.specs.Plan.{Library}
use Rattle.situation.specs.FailedSet.{has}
use Rattle.model.specs.declared.Event.{Event}
use Rattle.model.specs.declared.Instance.{Instance}
use Rattle.model.specs.declared.Status.{Status}
use Rattle.model.specs.declared.Status.TheVariants.{Active, Waiting, Suspended}
use Rattle.model.specs.declared.Origin.{Origin}
use Rattle.model.specs.declared.Origin.TheVariants.{External, Goal}
use Rattle.model.specs.State.{Intention, AgentState}
use Rattle.model.specs.Instance.{is_active, is_suspended, plan_of, branch_of}
use Rattle.model.specs.Live.{is_goal, is_external, same_origin, is_of, goal_of, Job, jobs_on, live, serves}
use Rattle.model.specs.WellFormed.{is_sound, is_stack, is_served, is_posted, has_poster}
use Rattle.model.specs.Formed.{Sound, WellFormed}
use Rattle.rest.specs.Rest.{W}
use Rattle.model.proofs.OriginLaws.{eqb_same, origin_equal, same_turned}
use Rattle.model.proofs.InstanceLaws.{tried-some, sound_parts, stack-parts}
use Rattle.model.proofs.WellFormedTest.{goals_posted}
use Rattle.rest.proofs.Costs.{per_branch, cost, cost_le, cost-failed, behind, Small, behind-some}
use Rattle.rest.proofs.Potential.{Tier, tier, tiers_on, tiers_of, tiers, status_of, asks, pick, height, owed, started, spent, paid, spent_le, height_like, height_external, height_goal}

-- ---- Sums

module _ {A : Type 0} where
  -- f is at most g wherever the weight is 0, and it is 0 everywhere
  total_le_at : (w f g : A → ℕ) (xs : List A) → total w xs ≡ 0 → ((x : A) → w x ≡ 0 → f x ≤ g x) → total f xs ≤ total g xs
  total_le_at w f g [] z h = omega arith
  total_le_at w f g (x ∷ xs) z h = omega (arith, h x (omega arith), total_le_at w f g xs (omega arith) h)

  some_le : (test : A → Bool) (g : A → ℕ) (c : ℕ) (xs : List A) → 1 ≤ count test xs → ((x : A) → test x ≡ true → c ≤ g x) → c ≤ total g xs
  some_le test g c [] n h = absurd (omega arith)
  some_le test g c (x ∷ xs) n h = by_cases (test x)
      (λ e. omega (arith, h x e))
      (λ e. let rest : 1 ≤ count test xs = omega (arith, ap bit e) in omega (arith, some_le test g c xs rest h))

  pick-count : (test : A → Bool) (n : ℕ) (xs : List A) → total (λ x. pick (test x) n) xs ≡ count test xs * n
  pick-count test n [] = sym (omega arith)
  pick-count test n (x ∷ xs) = go (test x) (pick-count test n xs)
    where
      go : (c : Bool) → total (λ y. pick (test y) n) xs ≡ count test xs * n → pick c n + total (λ y. pick (test y) n) xs ≡ (bit c + count test xs) * n
      go true e = omega arith
      go false e = omega arith

  pick_once : (test : A → Bool) (n : ℕ) (xs : List A) → count test xs ≤ 1 → total (λ x. pick (test x) n) xs ≤ n
  pick_once test n xs h = omega (arith, pick-count test n xs, mul-le-mul_right n h)

  -- the one element that passes, and any sum over those that pass
  the_one : (test : A → Bool) (xs : List A) → count test xs ≡ 1 → (x : A) × ((f : A → ℕ) → total (λ y. pick (test y) (f y)) xs ≡ f x)
  the_one test [] h = absurd (omega arith)
  the_one test (x ∷ xs) h = go (test x) refl (the_one test xs)
    where
      go : (c : Bool) → test x ≡ c → (count test xs ≡ 1 → (y : A) × ((f : A → ℕ) → total (λ z. pick (test z) (f z)) xs ≡ f y))
          → (y : A) × ((f : A → ℕ) → pick (test x) (f x) + total (λ z. pick (test z) (f z)) xs ≡ f y)
      go true e r = (x, λ f. omega (arith, ap (λ c. pick c (f x)) e, total_unless test (λ z. pick (test z) (f z)) (λ z. 0) xs (omega (arith, ap bit e)) (λ z g. ap (λ c. pick c (f z)) g), total_zero xs))
      go false e r = let k = r (omega (arith, ap bit e)) in (k.0, λ f. omega (arith, ap (λ c. pick c (f x)) e, k.1 f))

pick_less : (x y : Bool) (n : ℕ) → pick (x && y) n ≤ pick x n
pick_less true true n = omega arith
pick_less x y n = omega arith

-- ---- Instances are the live ones

jobs_on_lem : (f : Job → ℕ) (external : ℕ) (xs : List Instance) → total (λ t. f t.job) (tiers_on external xs) ≡ total f (jobs_on external xs)
unfolding tiers_on jobs_on
jobs_on_lem f external [] = refl
jobs_on_lem f external (x ∷ xs) = ap (λ n. f (tier external x xs).job + n) (jobs_on_lem f external xs)

pub jobs-all : (f : Job → ℕ) (ks : List Intention) → total (λ t. f t.job) (tiers ks) ≡ total f (live ks)
unfolding tiers live
jobs-all f [] = refl
jobs-all f (k ∷ ks) = total-append (λ t. f t.job) (tiers_of k) (tiers ks) ∙ ap₂' (jobs_on_lem f k.external (k.top ∷ k.below)) (jobs-all f ks) ∙ sym (total-append f (jobs_on k.external (k.top ∷ k.below)) (live ks))
  where
    ap₂' : {a b c d : ℕ} → a ≡ b → c ≡ d → a + c ≡ b + d
    ap₂' p q = omega arith

-- ---- Each instance stands where its event is

abbrev misplaced : List Tier → Tier → ℕ
misplaced T t = bit (not (eqb (height T t.job.event) t.high))

well_placed : (T : List Tier) (t : Tier) → height T t.job.event ≡ t.high → misplaced T t ≡ 0
well_placed T t e = ap (λ n. bit (not (eqb n t.high))) e ∙ ap (λ b. bit (not b)) (eqb_same t.high)

module _ (T : List Tier) (once : (k : ℕ) → count (λ u. eqb k u.job.instance.id) T ≤ 1) where
  placed_on : (external : ℕ) (A : List Tier) (x : Instance) (below : List Instance) → Like T (tiers_on external (x ∷ below) ++ A)
      → Every (λ y. is_suspended y.status) below → total (misplaced T) (tiers_on external (x ∷ below)) ≡ 0
  unfolding tiers_on
  placed_on n A x [] a w = omega (arith, well_placed T (tier n x []) (height_external T n))
  placed_on n A x (b ∷ bs) a w =
      let t = tier n x (b ∷ bs) in
      let u = tier n b bs in
      let l : Like T (u ∷ (t ∷ (tiers_on n bs ++ A))) = record { sums = λ f. omega (arith, a.sums f) } in
      let m : Like T ((u ∷ tiers_on n bs) ++ (t ∷ A)) = record { sums = λ f. omega (arith, a.sums f, total-append f (tiers_on n bs) A, total-append f (tiers_on n bs) (t ∷ A)) } in
      let h = height_like l (goal_of b) ∙ height_goal u (t ∷ (tiers_on n bs ++ A)) (λ k. omega (arith, once k, l.sums (λ y. bit (eqb k y.job.instance.id)))) (bit_every (is_suspended b.status) (omega arith)) in
      omega (arith, well_placed T t h, placed_on n (t ∷ A) b bs m (omega arith))

  placed-all : (ks : List Intention) (B : List Tier) → Like T (tiers ks ++ B) → Every is_stack ks → total (misplaced T) (tiers ks) ≡ 0
  unfolding tiers
  placed-all [] B a w = refl
  placed-all (k ∷ ks) B a w =
      let l : Like T (tiers_of k ++ (tiers ks ++ B)) = record { sums = λ f. omega (arith, a.sums f, total-append f (tiers_of k ++ tiers ks) B, total-append f (tiers_of k) (tiers ks), total-append f (tiers_of k) (tiers ks ++ B), total-append f (tiers ks) B) } in
      let m : Like T (tiers ks ++ (tiers_of k ++ B)) = record { sums = λ f. omega (arith, l.sums f, total-append f (tiers_of k) (tiers ks ++ B), total-append f (tiers ks) B, total-append f (tiers ks) (tiers_of k ++ B), total-append f (tiers_of k) B) } in
      omega (arith, total-append (misplaced T) (tiers_of k) (tiers ks), placed_on k.external (tiers ks ++ B) k.top k.below l (stack-parts k (bit_every (is_stack k) (omega arith))).asleep, placed-all ks (tiers_of k ++ B) m (omega arith))

-- ---- A suspended instance stands no higher than 7

abbrev raised : Tier → ℕ
raised t = pick (is_suspended (status_of t)) (t.high - 7)

low_on : (external : ℕ) (xs : List Instance) → length xs < 8 → total raised (tiers_on external xs) ≡ 0
unfolding tiers_on
low_on n [] h = refl
low_on n (x ∷ xs) h = omega (arith, low_on n xs (omega arith), none (is_suspended x.status))
  where
    none : (b : Bool) → pick b (suc (length xs) - 7) ≡ 0
    none true = omega arith
    none false = refl

low_all : (ks : List Intention) → Every is_stack ks → total raised (tiers ks) ≡ 0
unfolding tiers tiers_on
low_all [] w = refl
low_all (k ∷ ks) w =
    let h = stack-parts k (bit_every (is_stack k) (omega arith)) in
    omega (arith, total-append raised (tiers_of k) (tiers ks), low_on k.external k.below (omega (arith, h.height)), low_all ks (omega arith), none (is_suspended k.top.status) h.room)
  where
    none : (b : Bool) → (b ≡ true → length k.below + 1 < 8) → pick b (suc (length k.below) - 7) ≡ 0
    none true f = omega (arith, f refl)
    none false f = refl

module _ (library : Library) (r : Small library) (s : AgentState) (w : WellFormed library s) where
  abbrev P : ℕ
  P = length library.plans

  abbrev T : List Tier
  T = tiers s.stacks

  pub once_all : (k : ℕ) → count (λ u. eqb k u.job.instance.id) (tiers s.stacks) ≤ 1
  once_all k = omega (arith, w.linked.id_once k, jobs-all (λ j. bit (eqb k j.instance.id)) s.stacks)

  abbrev unsound : Tier → ℕ
  unsound t = bit (not (is_sound library t.job.instance))

  its_sound : (t : Tier) → unsound t ≡ 0 → Sound library t.job.instance
  its_sound t z = sound_parts library t.job.instance (bit_every (is_sound library t.job.instance) z)

  all_sound : total unsound T ≡ 0
  all_sound = jobs-all (λ j. bit (not (is_sound library j.instance))) s.stacks ∙ w.local.sounds

  abbrev price : Event → ℕ
  price e = cost (length library.plans) (height (tiers s.stacks) e.origin) e.failed

  -- ---- No more is paid than owed

  abbrev unserved : Tier → ℕ
  unserved t = bit (not (list_any (is_served library t.job) s.queue))

  covered_by : (t : Tier) → unsound t + misplaced T t + unserved t ≡ 0
      → spent library t ≤ total (λ e. pick (is_of t.job.event e) (price e)) s.queue
  unfolding is_served
  covered_by t z = some_le (is_served library t.job) _ (spent library t) s.queue (any_some (is_served library t.job) s.queue (bit_every _ (omega arith))) (λ e h.
      let x = t.job.instance in
      let a = and_parts (is_of t.job.event e) _ h in
      let new = not-true (has e.failed x.plan) (and_parts (eqb (plan_of library x).kind e.kind) (not (has e.failed x.plan)) a.1).1 in
      let at : height T e.origin ≡ t.high = ap (height T) (sym (origin_equal t.job.event e.origin a.0)) ∙ eqb-true _ _ (bit_every (eqb (height T t.job.event) t.high) (omega arith)) in
      let c : price e ≡ cost P t.high e.failed = ap (λ n. cost P n e.failed) at in
      omega (arith, c, cost-failed P t.high e.failed x.plan (its_sound t (omega arith)).plan new, spent_le library r t, ap (λ y. pick y (price e)) a.0))

  pub covered : paid library (tiers s.stacks) ≤ owed (length library.plans) s.queue (tiers s.stacks)
  unfolding paid owed
  covered =
      let like : Like T (T ++ []) = record { sums = λ h. omega (arith, total-append h T []) } in
      let z : total (λ t. unsound t + misplaced T t + unserved t) T ≡ 0 = omega (
        arith,
        total-add (λ t. unsound t + misplaced T t) unserved T,
        total-add unsound (misplaced T) T,
        all_sound,
        placed-all T once_all s.stacks [] like w.stacked,
        jobs-all (λ j. bit (not (list_any (is_served library j) s.queue))) s.stacks,
        w.linked.served,
      ) in
      omega (
        arith,
        total_le_at (λ t. unsound t + misplaced T t + unserved t) (λ t. spent library t) (λ t. total (λ e. pick (is_of t.job.event e) (price e)) s.queue) T z covered_by,
        total_swap (λ t e. pick (is_of t.job.event e) (price e)) T s.queue,
        total_le (λ e. total (λ t. pick (is_of t.job.event e) (price e)) T) price s.queue (λ e. pick_once (λ t. is_of t.job.event e) (price e) T (alone e)),
      )
    where
      alone : (e : Event) → count (λ t. is_of t.job.event e) (tiers s.stacks) ≤ 1
      alone e = omega (
        arith,
        w.linked.served_once e.origin,
        jobs-all (λ j. bit (serves e.origin j)) s.stacks,
        total_same (λ t. bit (is_of t.job.event e)) (λ t. bit (serves e.origin t.job)) T (λ t. ap bit (same_turned t.job.event e.origin)),
      )

  -- ---- What the goals may cost is set aside

  abbrev aside : Event → Tier → ℕ
  aside e t = pick (asks e.origin t) (W (length library.plans) (suc t.high))

  abbrev share : Event → ℕ
  share e = pick (is_external e) (W (length library.plans) 1) + total (aside e) (tiers s.stacks)

  one_poster : (a b c : ℕ) → count (asks (Goal a b c)) T ≤ 1
  unfolding same_origin
  one_poster a b c = omega (
    arith,
    once_all a,
    total_le (λ t. bit (asks (Goal a b c) t)) (λ t. bit (eqb a t.job.instance.id)) T (λ t.
        omega (arith, bit_right (is_suspended (status_of t)) (same_origin (Goal a b c) (goal_of t.job.instance)), bit_left (eqb a t.job.instance.id) (eqb b t.job.instance.state && eqb c (t.job.instance.tried - 1)))),
  )

  shared : (e : Event) → bit (not (has_poster (live s.stacks) e)) ≡ 0 → price e ≤ share e
  unfolding has_poster height
  shared e = go e.origin
    where
      go : (o : Origin) → bit (not (not (is_goal o) || list_any (is_posted o) (live s.stacks))) ≡ 0
          → cost P (height T o) e.failed ≤ pick (not (is_goal o)) (W P 1) + total (λ t. pick (asks o t) (W P (suc t.high))) T
      go (External n) z = omega (arith, ap (λ h. cost P h e.failed) (height_external T n), cost_le P 1 e.failed (omega arith))
      go (Goal a b c) z =
          let o = Goal a b c in
          let m : count (asks o) T ≡ 1 = omega (arith, one_poster a b c, any_some (is_posted o) (live s.stacks) (bit_every _ z), jobs-all (λ j. bit (is_posted o j)) s.stacks) in
          let k = the_one (asks o) T m in
          let t = k.0 in
          let l : t.high ≤ 7 = omega (arith, k.1 (λ u. u.high - 7), total_le (λ u. pick (asks o u) (u.high - 7)) raised T (λ u. pick_less (is_suspended (status_of u)) (same_origin o (goal_of u.job.instance)) (u.high - 7)), low_all s.stacks w.stacked) in
          omega (arith, ap (λ h. cost P (suc h) e.failed) (k.1 (λ u. u.high)), k.1 (λ u. W P (suc u.high)), cost_le P (suc t.high) e.failed (omega arith))

  set-aside : (t : Tier) → unsound t ≡ 0 → total (λ e. aside e t) s.queue ≤ spent library t
  unfolding spent
  set-aside t z = go (status_of t) refl
    where
      asleep : (u : Status) → u ≡ Suspended → is_active u ≡ false
      asleep u e = ap is_active e

      go : (u : Status) → status_of t ≡ u
          → total (λ e. pick (is_suspended u && same_origin e.origin (goal_of t.job.instance)) (W P (suc t.high))) s.queue ≤ started u + behind library t.job.instance * per_branch P t.high
      go Active e = omega (arith, total_zero s.queue)
      go Waiting e = omega (arith, total_zero s.queue)
      go Suspended e =
          let x = t.job.instance in
          let c = its_sound t z in
          let n = tried-some x.tried (branch_of library x).kind x.status c.status (asleep x.status e) in
          let one : count (λ y. same_origin y.origin (goal_of x)) s.queue ≤ 1 = omega (arith, w.linked.event_once (goal_of x), total_same (λ y. bit (same_origin y.origin (goal_of x))) (λ y. bit (is_of (goal_of x) y)) s.queue (λ y. ap bit (same_turned y.origin (goal_of x)))) in
          omega (arith, pick_once (λ y. same_origin y.origin (goal_of x)) (W P (suc t.high)) s.queue one, mul-le-mul_right (per_branch P t.high) (behind-some library r x n c.tried))

  pub bounded : owed (length library.plans) s.queue (tiers s.stacks) ≤ paid library (tiers s.stacks) + count is_external s.queue * W (length library.plans) 1
  unfolding paid owed
  bounded = omega (
    arith,
    total_le_at (λ e. bit (not (has_poster (live s.stacks) e))) price share s.queue (goals_posted s.queue (live s.stacks) w.linked.goals s.queue (λ o. omega arith)) shared,
    total-add (λ e. pick (is_external e) (W P 1)) (λ e. total (aside e) T) s.queue,
    pick-count is_external (W P 1) s.queue,
    total_swap aside s.queue T,
    total_le_at unsound (λ t. total (λ e. aside e t) s.queue) (λ t. spent library t) T all_sound set-aside,
  )
