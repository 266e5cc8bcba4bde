-- A well-formed state of an accepted library can be stored in the newest form: every kind has a code, every stack and every environment
-- its room.
use Prim.Native.Nat.{ℕ, zero, suc, ◌<◌, ◌≤◌}
use native.Mathlib.Omega.{arith}
use mathlib.Core.Path.{◌≡◌, refl, sym, ap, subst⁻¹, ◌∙◌}
use mathlib.Core.Bool.{Bool, true, false, not, ◌&&◌, ◌||◌}
use mathlib.Core.List.{List, [], ◌∷◌, reverse, reverse-cons}
use lib.Dec.{leb, ltb, eqb}
use lib.ListN.{length, get_or, get_or-eq_default}
use borrow.Author.Tests.{le-leb, leb-true, ltb-true, ltb-false, eqb-true, eqb-false, not-true}
use Rattle.std.specs.List.{list_any, list_all}
use Rattle.std.proofs.lemmas.Bool.{or_right}
use Rattle.std.proofs.lemmas.List.Folds.{list_all-append}
use Rattle.lists.proofs.AndLaws.{all_both}
use Rattle.lists.specs.Counts.{bit, count}
use Rattle.lists.proofs.BoolLaws.{by_cases, both_ways, and_parts, and_both}
use Rattle.lists.proofs.CountLaws.{bit-none}
use Rattle.lists.proofs.AllLaws.{all_at, all_weaker}
use Rattle.lists.proofs.TestLaws.{all-joined}
use Rattle.lists.proofs.TestCounts.{every_all, some-any}
use Rattle.literal.specs.declared.Literal.{Literal}
use Rattle.literal.specs.Environment.{is_env}
use Rattle.belief.specs.Beliefs
use Rattle.belief.specs.Beliefs.{are_beliefs}
use Rattle.library.specs.Plan.{Plan, Library, no_plan, no_branch}
use Rattle.library.specs.Layout.{library_of}
use Rattle.accepted.specs.Refusal.{Accepted}
use Rattle.accepted.specs.Rules.{at_most, most_plans, most_beliefs, beliefs_ok, plan_ok, library_ok}
use Rattle.accepted.proofs.Accepted.{library_ok_lem}
use Rattle.accepted.proofs.Size.{library_most}
use Rattle.accepted.proofs.RuleFacts.{keeps_rules, branch_ok_lem, kind_in_lem}
use Rattle.model.specs.declared.Event.{Event}
use Rattle.model.specs.declared.Instance.{Instance}
use Rattle.model.specs.declared.Origin.{Origin}
use Rattle.model.specs.declared.Status.{Status}
use Rattle.model.specs.declared.Status.TheVariants.{Active, Waiting, Suspended}
use Rattle.model.specs.State.{Intention, AgentState, no_event}
use Rattle.model.specs.Instance.{plan_of, branches_of, branch_of, last_tried, is_suspended, achieve_kind, divide_kind, is_goal_kind}
use Rattle.model.specs.Live.{is_goal, is_of, same_origin, goal_of, Job, jobs_on, live}
use Rattle.model.specs.Report.{told_kind}
use Rattle.model.specs.WellFormed.{is_sound, is_status, is_stack, is_goal_for, has_goal, is_posted, is_well_formed}
use Rattle.model.specs.Formed.{Sound, WellFormed}
use Rattle.model.proofs.InstanceLaws.{sound_parts, stack-parts}
use Rattle.model.proofs.WellFormedTest.{test_formed}
use Rattle.model.proofs.QueueBound.{queue_few}
use Rattle.model.proofs.OriginLaws.{origin_same, origin_equal}
use Rattle.state.specs.View.{most_below}
use Rattle.image.specs.Form.{newest}
use Rattle.image.specs.EventImage.{last_kind, is_kind, is_event_storable}
use Rattle.image.specs.StackImage.{is_storable, is_stack_storable, upward}
use Rattle.image.proofs.ImageLaws.{Storable}

-- ---- Tests of lists

module _ {A : Type 0} where
  -- an element that passes one test, and another that all pass
  record Both (test good : A → Bool) : Type 0 where
    it : A
    tests : test it ≡ true
    goods : good it ≡ true

  both : (test good : A → Bool) (xs : List A) → list_any test xs ≡ true → list_all good xs ≡ true → Both test good
  both test good [] h k = both_ways refl (sym h)
  both test good (x ∷ xs) h k =
      let parts = and_parts (good x) (list_all good xs) k in
      by_cases (test x)
      (λ t. record { it = x; tests = t; goods = parts.0 })
      (λ f. both test good xs (rw f at h) parts.1)

  -- where none passes
  none-all : (test good : A → Bool) (xs : List A) → count test xs ≡ 0 → list_all (λ x. not (test x) || good x) xs ≡ true
  none-all test good [] h = refl
  none-all test good (x ∷ xs) h =
      let f : test x ≡ false = bit-none (test x) (omega arith) in
      and_both (not (test x) || good x) _ (rw f refl) (none-all test good xs (omega arith))

  no_both : (test good : A → Bool) (xs : List A) → count test xs ≡ 0 → list_any (λ x. test x && good x) xs ≡ false
  no_both test good [] h = refl
  no_both test good (x ∷ xs) h =
      let f : test x ≡ false = bit-none (test x) (omega arith) in
      rw f (no_both test good xs (omega arith))

  -- what holds of one of them holds of the only one
  only : (test good : A → Bool) (xs : List A) → count test xs ≤ 1 → list_any (λ x. test x && good x) xs ≡ true
      → list_all (λ x. not (test x) || good x) xs ≡ true
  only test good [] few h = refl
  only test good (x ∷ xs) few h =
      by_cases (test x)
      (λ t.
      let none : count test xs ≡ 0 = omega (arith, ap bit t) in
      let good-x : good x ≡ true = by_cases (good x) (λ g. g) (λ g. both_ways (rw (t, g) at h) (no_both test good xs none)) in
      and_both (not (test x) || good x) _ (rw (t, good-x) refl) (none-all test good xs none))
      (λ f. and_both (not (test x) || good x) _ (rw f refl) (only test good xs (omega (arith, few)) (rw f at h)))

  -- a test of every place
  everywhere : (test : A → Bool) (xs : List A) (d : A) → ((i : ℕ) → i < length xs → test (get_or xs i d) ≡ true) → list_all test xs ≡ true
  everywhere test [] d h = refl
  everywhere test (x ∷ xs) d h = and_both (test x) (list_all test xs) (h 0 (omega arith)) (everywhere test xs d (λ i p. h (suc i) (omega arith)))

  all-reverse : (test : A → Bool) (xs : List A) → list_all test xs ≡ true → list_all test (reverse xs) ≡ true
  all-reverse test [] h = refl
  all-reverse test (x ∷ xs) h =
      let parts = and_parts (test x) (list_all test xs) h in
      rw (reverse-cons x xs) (all-joined test (reverse xs) (x ∷ []) (all-reverse test xs parts.1)
      (and_both (test x) true parts.0 refl))

  any_more : (one two : A → Bool) (xs : List A) → ((x : A) → one x ≡ true → two x ≡ true) → list_any one xs ≡ true → list_any two xs ≡ true
  any_more one two [] f h = h
  any_more one two (x ∷ xs) f h =
      by_cases (one x)
      (λ t. rw (f x t) refl)
      (λ n. or_right (two x) (list_any two xs) (any_more one two xs f (rw n at h)))

  -- an element that passes is counted
  one_at : (test : A → Bool) (xs : List A) (i : ℕ) (d : A) → test (get_or xs i d) ≡ true → i < length xs → 1 ≤ count test xs
  one_at test [] i d h low = absurd (omega arith)
  one_at test (x ∷ xs) zero d h low = omega (arith, ap bit h)
  one_at test (x ∷ xs) (suc i) d h low = omega (arith, one_at test xs i d h (omega arith))

-- ---- Branches of an accepted library

-- no branch has a kind past the last, a divide
kind_at : (plan : Plan) (state branch : ℕ) → plan_ok plan ≡ true → (get_or (get_or plan.states state []) branch no_branch).kind ≤ divide_kind
kind_at plan state branch ok =
    by_cases (ltb state (length plan.states))
    (λ s. by_cases (ltb branch (length (get_or plan.states state [])))
    (λ b. kind_in_lem _ _ _ (branch_ok_lem plan.states (keeps_rules plan ok).states state (ltb-true _ _ s) branch (ltb-true _ _ b)))
    (λ b. rw (get_or-eq_default (get_or plan.states state []) no_branch (ltb-false _ _ b)) (omega arith)))
    (λ s. rw (get_or-eq_default plan.states [] (ltb-false _ _ s)) (omega arith))

-- a goal's kind: a divide is no goal
goal_low : (kind : ℕ) → kind ≤ divide_kind → is_goal_kind kind ≡ true → kind ≤ last_kind
goal_low kind h g =
    let other : kind ≡ divide_kind → ⊥ = eqb-false kind divide_kind (not-true _ (and_parts (leb achieve_kind kind) _ g).1) in
    omega (arith, other)

suspended_goal : (tried kind : ℕ) (status : Status) → is_status tried kind status ≡ true → is_suspended status ≡ true → is_goal_kind kind ≡ true
unfolding is_status
suspended_goal tried kind Active h e = both_ways e refl
suspended_goal tried kind Waiting h e = both_ways e refl
suspended_goal tried kind Suspended h e = (and_parts (ltb 0 tried) (is_goal_kind kind) h).1

module _ (library : Library) (ok : library_ok library ≡ true) where
  plans_ok : list_all plan_ok library.plans ≡ true
  unfolding library_ok
  plans_ok =
      let one = and_parts (at_most most_plans library.plans) _ ok in
      let two = and_parts (at_most most_beliefs library.beliefs) _ one.1 in
      (and_parts (beliefs_ok library.beliefs) (list_all plan_ok library.plans) two.1).1

  -- the kind of the branch that a suspended instance tried last
  tried_kind : (x : Instance) → Sound library x → is_suspended x.status ≡ true → (branch_of library x).kind ≤ last_kind
  unfolding plan_of branches_of branch_of
  tried_kind x h e =
      goal_low (branch_of library x).kind
      (kind_at (get_or library.plans x.plan no_plan) x.state (last_tried x)
      (all_at plan_ok library.plans x.plan no_plan plans_ok h.plan))
      (suspended_goal x.tried (branch_of library x).kind x.status h.status e)

-- ---- Events

is_goal_of : (library : Library) (x : Instance) (event : Event) → is_goal_for library x event ≡ true → is_of (goal_of x) event ≡ true
unfolding is_goal_for
is_goal_of library x event h = (and_parts (is_of (goal_of x) event) _ h).0

-- the goal of a suspended instance has a kind with a code
goal_kind : (library : Library) → library_ok library ≡ true → (x : Instance) → Sound library x → is_suspended x.status ≡ true
    → (event : Event) → is_goal_for library x event ≡ true → is_kind event ≡ true
unfolding is_goal_for
goal_kind library ok x sound asleep event h =
    let parts = and_parts (is_of (goal_of x) event) _ h in
    let kind = (and_parts (eqb (branch_of library x).kind event.kind) _ parts.1).0 in
    le-leb event.kind last_kind (omega
    (arith, eqb-true (branch_of library x).kind event.kind kind, tried_kind library ok x sound asleep))

module _ (library : Library) (ok : library_ok library ≡ true) (queue : List Event) (jobs : List Job) (once : (o : Origin)
    → count (is_of o) queue ≤ 1)
    (sounds : list_all (λ (job : Job). is_sound library job.instance) jobs ≡ true) (goals : list_all (has_goal library queue) jobs ≡ true) where
  -- every event of a goal's origin that someone posted has such a kind
  posted_kind : (o : Origin) → list_any (is_posted o) jobs ≡ true → list_all (λ (event : Event). not (is_of o event) || is_kind event) queue ≡ true
  unfolding has_goal
  posted_kind o h =
      let good : Job → Bool = λ job. has_goal library queue job && is_sound library job.instance in
      let sound : Job → Bool = λ job. is_sound library job.instance in
      let goods = all_both (has_goal library queue) sound jobs ∙ and_both (list_all (has_goal library queue) jobs) (list_all sound jobs) goals sounds in
      let found = both (is_posted o) good jobs h goods in
      let x = found.it.instance in
      let parts = and_parts (has_goal library queue found.it) (is_sound library x) found.goods in
      let posted = and_parts (is_suspended x.status) (same_origin o (goal_of x)) found.tests in
      let same : o ≡ goal_of x = origin_equal o (goal_of x) posted.1 in
      let has : list_any (is_goal_for library x) queue ≡ true = rw posted.0 at parts.0 in
      only (is_of o) is_kind queue (once o) (any_more (is_goal_for library x) (λ (event : Event). is_of o event && is_kind event) queue
      (λ event g. and_both (is_of o event) (is_kind event) (subst⁻¹ (λ (u : Origin). is_of u event ≡ true) same (is_goal_of library x event g))
      (goal_kind library ok x (sound_parts library x parts.1) posted.0 event g)) has)

-- ---- Stacks

stored_jobs : (external : ℕ) (xs : List Instance) → list_all (λ (job : Job). is_storable newest job.instance) (jobs_on external xs) ≡ true
    → list_all (is_storable newest) xs ≡ true
unfolding jobs_on
stored_jobs external [] h = refl
stored_jobs external (x ∷ xs) h =
    let parts = and_parts (is_storable newest x) _ h in
    and_both (is_storable newest x) (list_all (is_storable newest) xs) parts.0 (stored_jobs external xs parts.1)

stored_stack : (stack : Intention) → is_stack stack ≡ true → list_all (is_storable newest) (stack.top ∷ stack.below) ≡ true
    → is_stack_storable newest stack ≡ true
unfolding upward
stored_stack stack h k =
    let few : length stack.below ≤ most_below = omega (arith, (stack-parts stack h).height) in
    let parts = and_parts (is_storable newest stack.top) (list_all (is_storable newest) stack.below) k in
    and_both (leb (length stack.below) most_below) _ (le-leb (length stack.below) most_below few)
    (and_both (list_all (is_storable newest) (upward stack)) true
    (all-joined (is_storable newest) (reverse stack.below) (stack.top ∷ []) (all-reverse (is_storable newest) stack.below parts.1)
    (and_both (is_storable newest stack.top) true parts.0 refl))
    refl)

stored_stacks : (stacks : List Intention) → list_all is_stack stacks ≡ true
    → list_all (λ (job : Job). is_storable newest job.instance) (live stacks) ≡ true → list_all (is_stack_storable newest) stacks ≡ true
unfolding live
stored_stacks [] h k = refl
stored_stacks (stack ∷ rest) h k =
    let parts = and_parts (is_stack stack) (list_all is_stack rest) h in
    let own = jobs_on stack.external (stack.top ∷ stack.below) in
    let test : Job → Bool = λ job. is_storable newest job.instance in
    let halves = and_parts (list_all test own) (list_all test (live rest)) (sym (list_all-append test own (live rest)) ∙ k) in
    and_both (is_stack_storable newest stack) (list_all (is_stack_storable newest) rest)
    (stored_stack stack parts.0 (stored_jobs stack.external (stack.top ∷ stack.below) halves.0))
    (stored_stacks rest parts.1 halves.1)

few_of : (beliefs : List Literal) → are_beliefs beliefs ≡ true → length beliefs ≤ Beliefs.most_beliefs
unfolding are_beliefs
few_of beliefs h = leb-true (length beliefs) Beliefs.most_beliefs (and_parts (leb (length beliefs) Beliefs.most_beliefs) _ h).0

-- ---- The whole

module _ (library : Library) (ok : library_ok library ≡ true) (s : AgentState) (h : WellFormed library s) where
  abbrev jobs : List Job
  jobs = live s.stacks

  sounds : list_all (λ (job : Job). is_sound library job.instance) jobs ≡ true
  sounds = every_all (λ (job : Job). is_sound library job.instance) jobs h.local.sounds

  -- a queued goal has a poster, and so a kind with a code
  goal_coded : (i : ℕ) → i < length s.queue → is_goal (get_or s.queue i no_event).origin ≡ true
      → is_kind (get_or s.queue i no_event) ≡ true
  goal_coded i low g =
      let o = (get_or s.queue i no_event).origin in
      let counted =
      one_at (λ (e : Event). is_goal e.origin && is_of o e) s.queue i no_event (and_both (is_goal o) _ g (origin_same o)) low in
      let someone : list_any (is_posted o) jobs ≡ true = some-any (is_posted o) jobs (omega (arith, h.linked.goals o, counted)) in
      let posters = every_all (has_goal library s.queue) jobs h.linked.posters in
      let coded = all_at (λ (e : Event). not (is_of o e) || is_kind e) s.queue i no_event
      (posted_kind library ok s.queue jobs h.linked.event_once sounds posters o someone) low in
      rw (origin_same o) at coded

  kinds_coded : list_all is_kind s.queue ≡ true
  kinds_coded = everywhere is_kind s.queue no_event (λ i low.
      let event = get_or s.queue i no_event in
      let told : Event → Bool = λ e. is_goal e.origin || leb e.kind told_kind in
      let local = all_at told s.queue i no_event (every_all told s.queue h.local.kinds) low in
      by_cases (is_goal event.origin) (λ g. goal_coded i low g)
      (λ f. le-leb event.kind last_kind (omega (arith, leb-true event.kind told_kind (rw f at local)))))

  envs_stored : list_all (λ (job : Job). is_storable newest job.instance) jobs ≡ true
  envs_stored =
      all_weaker (λ (job : Job). is_sound library job.instance) (λ (job : Job). is_storable newest job.instance)
      (λ job e. and_both (is_env job.instance.env) true (sound_parts library job.instance e).env refl) jobs sounds

  stacks_stored : list_all (is_stack_storable newest) s.stacks ≡ true
  stacks_stored = stored_stacks s.stacks (every_all is_stack s.stacks h.stacked) envs_stored

-- what is well formed can be stored
pub formed_storable : (bytes : List ℕ) (s : AgentState) → Accepted bytes → is_well_formed (library_of bytes) s ≡ true → Storable newest bytes s
formed_storable bytes s accepted formed =
    let h = test_formed (library_of bytes) s formed in
    let ok = library_ok_lem bytes accepted in
    record {
      size = library_most bytes accepted;
      beliefs = few_of s.beliefs h.table;
      queued = queue_few h;
      events = all_weaker is_kind (is_event_storable newest) (λ e k. and_both (is_kind e) true k refl) s.queue
          (kinds_coded (library_of bytes) ok s h);
      stacked = h.few;
      storable = stacks_stored (library_of bytes) ok s h;
      taken = refl;
      made = refl;
    }
