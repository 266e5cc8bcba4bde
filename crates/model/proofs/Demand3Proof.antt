-- Demand 3 for every accepted library and every list of calls: each call keeps what relates the history to the state, and that says what is demanded.
use Prim.Native.Nat.{ℕ, zero, suc, ◌≤◌}
use mathlib.Core.Path.{◌≡◌, refl, sym, ap, ap₂, ◌∙◌, subst}
use mathlib.Core.List.{List, [], ◌∷◌, map}
use mathlib.Core.Bool.{Bool, true, false, ◌&&◌, ◌||◌, not}
use native.Mathlib.Omega.{arith}
use lib.Dec.{eqb}
use lib.ListN.{length, length-map}
use borrow.Author.Tests.{eq-eqb, eqb-true}
use Rattle.std.specs.List.{list_any}
use Rattle.lists.specs.Counts.{bit, count, Every}
use Rattle.lists.proofs.BoolLaws.{by_cases, both_ways, and_both}
use Rattle.lists.proofs.CountLaws.{bit_left, bit_right, bit_le_one, total-length, total_same, total_le, total_zero, count_less}
use Rattle.lists.proofs.TestCounts.{any_some, some-any}
use Rattle.library.specs.Plan.{Library}
use Rattle.model.specs.declared.Event.{Event}
use Rattle.model.specs.declared.Origin.{Origin}
use Rattle.model.specs.declared.Origin.TheVariants.{External, Goal}
use Rattle.model.specs.State.{AgentState, Call, cycle}
use Rattle.model.specs.Live.{is_goal, same_origin, is_of, goal_of, Job, live, serves, is_pending}
use Rattle.model.specs.WellFormed.{is_served, is_well_formed}
use Rattle.model.specs.Formed.{Acceptable, WellFormed}
use Rattle.model.specs.Calls.{call, loaded, refusal_in, is_refusal_for}
use Rattle.model.specs.Promises.{is_not_ten}
use Rattle.model.specs.Run.{Entry, entry, run, final_of, IsChain}
use Rattle.model.specs.History.{Making, making_of, same_making, History, nothing_yet, last_goal, note, history, replay_all, down_from}
use Rattle.model.specs.Demand3.{is_asleep, is_last_goal, is_goal_by, Accounted, Demand3}
use Rattle.model.proofs.OriginLaws.{eqb_same, origin_equal, origin_same, same_origin_lem}
use Rattle.model.proofs.CallLaws.{loaded_formed, call_formed, call_promises, call_kept}
use Rattle.model.proofs.Invariant.{is_lost, Invariant, id_once, arrivals_once}
use Rattle.model.proofs.WellFormedTest.{formed_test}

-- ---- A list of calls

-- what holds of a history and the state after it
record Reached (library : Library) (h : History) (s : AgentState) : Type 0 where
  pub formed : WellFormed library s
  pub invariant : Invariant h s.queue (live s.stacks) s.taken s.made

-- no call on a well-formed state is refused with 10
not_ten : (c : Call) (number : ℕ) → is_refusal_for c number ≡ true → not (eqb number 10) ≡ true
unfolding is_refusal_for
not_ten c number e = by_cases (eqb number 10)
    (λ t. both_ways e (subst (λ k. is_refusal_for c k ≡ false) (sym (eqb-true number 10 t)) (ten c)))
    (λ f. ap not f)
  where
    ten : (c : Call) → is_refusal_for c 10 ≡ false
    ten cycle = refl
    ten c = refl

module _ (library : Library) (r : Acceptable library) where
  run_reached : (h : History) (s : AgentState) (calls : List Call) → Reached library h s
      → Reached library (history h (run library s calls)) (final_of s (run library s calls))
  unfolding run history final_of
  run_reached h s [] i = i
  run_reached h s (c ∷ calls) i =
      run_reached (note h c (call library s c).result.answer) (call library s c).state calls
      (record { formed = call_formed library r s i.formed c; invariant = call_kept library r s i.formed c h i.invariant })

  run-beliefs : (s : AgentState) (calls : List Call) → WellFormed library s
      → (final_of s (run library s calls)).beliefs ≡ replay_all s.beliefs (run library s calls)
  unfolding run final_of replay_all
  run-beliefs s [] w = refl
  run-beliefs s (c ∷ calls) w =
      run-beliefs (call library s c).state calls (call_formed library r s w c)
      ∙ ap (λ b. replay_all b (run library (call library s c).state calls)) (call_promises library r s w c).table

  -- 10 is never answered
  run-not_ten : (s : AgentState) (calls : List Call) → WellFormed library s → Every is_not_ten (run library s calls)
  unfolding run
  run-not_ten s [] w = refl
  run-not_ten s (c ∷ calls) w =
      omega (arith, run-not_ten (call library s c).state calls (call_formed library r s w c), ap (λ b. bit (not b)) (not_ten c (refusal_in (call library s c).result.answer) (call_promises library r s w c).refusal))

  begun : Reached library nothing_yet (loaded library)
  unfolding live
  begun = record {
    formed = loaded_formed library r;
    invariant = record {
      ids = refl;
      numbers = refl;
      instances = λ p. refl;
      events = λ p. refl;
      goals = λ p. refl;
      known = λ p. omega arith;
      lasts = refl;
      arrived = λ o e. omega arith;
      plans = λ o p. omega arith;
      unfailed = λ o p e. omega arith;
      posts = λ t. omega arith;
      tries = λ t. omega arith;
      passed = refl;
      recent = refl;
    };
  }

-- ---- What is demanded

length-down : (n : ℕ) → length (down_from n) ≡ n
length-down zero = refl
length-down (suc n) = ap suc (length-down n)

module _ {library : Library} {h : History} {s : AgentState} (k : Reached library h s) where
  abbrev i : Invariant h s.queue (live s.stacks) s.taken s.made
  i = k.invariant

  abbrev J : List Job
  J = live s.stacks

  served_once : (o : Origin) → count (serves o) J ≤ 1
  served_once = k.formed.linked.served_once

  pending_or_served : (part : List Event) → Every (λ e. is_pending J e || eqb (count (serves e.origin) J) 1) part
  unfolding is_pending
  pending_or_served part = total_same _ (λ e. 0) part (λ e. ap (λ b. bit (not b)) (one e)) ∙ total_zero part
    where
      one : (e : Event) → (is_pending J e || eqb (count (serves e.origin) J) 1) ≡ true
      one e = by_cases (list_any (serves e.origin) J)
          (λ t. rw (t, eq-eqb (count (serves e.origin) J) 1 (omega (arith, served_once e.origin, any_some (serves e.origin) J t))))
          (λ f. rw f)

  same_itself : (m : Making) → same_making m m ≡ true
  same_itself m = and_both (eqb m.id m.id) _ (eqb_same m.id) (and_both (eqb m.plan m.plan) (same_origin m.event m.event) (eqb_same m.plan) (origin_same m.event))

  own_made : (part : List Job) → ((p : Making → Bool) → count (λ j. p (making_of j)) part ≤ count p h.made)
      → Every (λ j. list_any (same_making (making_of j)) h.made) part
  own_made [] known = refl
  own_made (j ∷ part) known = omega (
    arith,
    own_made part (λ p. omega (arith, known p)),
    ap (λ b. bit (not b)) (some-any (same_making (making_of j)) h.made (omega (arith, known (same_making (making_of j)), ap bit (same_itself (making_of j))))),
  )

  served_queued : Every (λ j. list_any (is_of j.event) s.queue) J
  unfolding is_served
  served_queued = count_less (λ j. not (list_any (is_of j.event) s.queue)) (λ j. not (list_any (is_served library j) s.queue)) J k.formed.linked.served (λ j. go j)
    where
      go : (j : Job) → bit (not (list_any (is_of j.event) s.queue)) ≤ bit (not (list_any (is_served library j) s.queue))
      go j = by_cases (list_any (is_served library j) s.queue)
          (λ t. omega (arith, ap (λ b. bit (not b)) (some-any (is_of j.event) s.queue (omega (arith, any_some (is_served library j) s.queue t, total_le (λ e. bit (is_served library j e)) (λ e. bit (is_of j.event e)) s.queue (λ e. bit_left (is_of j.event e) _))))))
          (λ f. omega (arith, ap (λ b. bit (not b)) f, bit_le_one (not (list_any (is_of j.event) s.queue))))

  goal_by : (id : ℕ) (o : Origin) → bit (is_goal_by id o) ≡ bit (is_goal o && is_goal_by id o)
  goal_by id (External n) = refl
  goal_by id (Goal x y z) = refl

  -- the goal of an instance's last G
  abbrev last_of : Job → Origin
  last_of j = last_goal j.instance.id h.posted

  goal_last : (part : List Job) → count (is_lost h.posted) part ≡ 0
      → ((p : Origin → Bool) → count (λ j. is_asleep j && p (goal_of j.instance)) part ≤ count (λ e. is_goal e.origin && p e.origin) s.queue)
      → Every (λ j. not (is_asleep j) || list_any (is_last_goal h.posted j) s.queue) part
  goal_last [] lost less = refl
  goal_last (j ∷ part) lost less = omega (
    arith,
    goal_last part (omega arith) (λ p. omega (arith, less p)),
    ap (λ b. bit (not b)) (go (is_asleep j) (same_origin (goal_of j.instance) (last_of j)) refl refl (omega (arith, lost)) (less (same_origin (last_of j)))),
  )
    where
      go : (a b : Bool) → is_asleep j ≡ a → same_origin (goal_of j.instance) (last_of j) ≡ b → bit (a && not b) ≡ 0
          → count (λ x. is_asleep x && same_origin (last_of j) (goal_of x.instance)) (j ∷ part) ≤ count (λ e. is_goal e.origin && is_of (last_of j) e) s.queue
          → (not a || list_any (is_last_goal h.posted j) s.queue) ≡ true
      go false b p q z l = refl
      go true false p q z l = absurd (omega arith)
      go true true p q z l =
          let own = and_both (is_asleep j) (same_origin (last_of j) (goal_of j.instance)) p (same_origin_lem (last_of j) (goal_of j.instance) (sym (origin_equal (goal_of j.instance) (last_of j) q))) in
          let fewer = total_le (λ x. bit (is_goal x.origin && is_of (last_of j) x)) (λ x. bit (is_of (last_of j) x)) s.queue (λ x. bit_right (is_goal x.origin) (is_of (last_of j) x)) in
          some-any (is_last_goal h.posted j) s.queue (omega (arith, ap bit own, fewer))

  accounted : Accounted h s
  accounted = record {
    made_count = sym (length-map h.made (λ m. m.id)) ∙ ap length i.ids ∙ length-down s.made;
    taken_count = ap length i.numbers ∙ length-down s.taken;
    made_ids = i.ids;
    taken_numbers = i.numbers;
    instances = omega (
      arith,
      i.instances (λ x. true),
      total-length h.made,
      total-length h.succeeded,
      total-length h.failed,
      total-length J,
    );
    instance-placed = λ id. i.instances (eqb id);
    instance_once = id_once i;
    events = omega (
      arith,
      i.events (λ x. true),
      total-length h.taken,
      total-length h.posted,
      total-length h.closed,
      total-length s.queue,
    );
    event_placed = λ o. i.events (same_origin o);
    event_once = arrivals_once i;
    pending_or_served = pending_or_served s.queue;
    serves_its_own = own_made J i.known;
    served_queued = served_queued;
    one_goal_each = λ id. total_same (λ e. bit (is_goal_by id e.origin)) (λ e. bit (is_goal e.origin && is_goal_by id e.origin)) s.queue (λ e. goal_by id e.origin) ∙ i.goals (is_goal_by id);
    goal_is_last = goal_last J i.lasts (λ p. omega (arith, i.goals p));
    plan_once = i.plans;
    branch_once = i.tries;
  }

-- ---- The theorems

module _ (library : Library) (r : Acceptable library) (calls : List Call) where
  -- demand 3
  pub demand_3 : Demand3 library.beliefs (run library (loaded library) calls) (final_of (loaded library) (run library (loaded library) calls))
  demand_3 = record {
    accounts = accounted (run_reached library r nothing_yet (loaded library) calls (begun library r));
    table = run-beliefs library r (loaded library) calls (loaded_formed library r);
  }

  -- every state that a loaded agent reaches is well formed
  pub reached_well_formed : is_well_formed library (final_of (loaded library) (run library (loaded library) calls)) ≡ true
  reached_well_formed = formed_test library _ (run_reached library r nothing_yet (loaded library) calls (begun library r)).formed

  -- 10 is never answered from a loaded agent
  pub never_ten : Every is_not_ten (run library (loaded library) calls)
  never_ten = run-not_ten library r (loaded library) calls (loaded_formed library r)

-- ---- Chains

-- a chain of entries is the run of its calls
pub chain_run : (library : Library) (s : AgentState) (entries : List Entry) → IsChain library s entries
    → run library s (map (λ e. e.call) entries) ≡ entries
unfolding run
chain_run library s [] c = refl
chain_run library s (e ∷ entries) c =
    ap (λ x. entry e.call (call library s e.call) ∷ run library x.state (map (λ y. y.call) entries)) (sym c.0)
    ∙ ap₂ ◌∷◌ (sym c.0) (chain_run library e.state entries c.1)

-- so demand 3 holds of every chain from the loaded state
pub chain_demand_3 : (library : Library) → Acceptable library → (entries : List Entry) → IsChain library (loaded library) entries
    → Demand3 library.beliefs entries (final_of (loaded library) entries)
chain_demand_3 library r entries c =
    subst (λ x. Demand3 library.beliefs x (final_of (loaded library) x)) (chain_run library (loaded library) entries c) (demand_3 library r (map (λ e. e.call) entries))

pub chain_never_ten : (library : Library) → Acceptable library → (entries : List Entry) → IsChain library (loaded library) entries
    → Every is_not_ten entries
chain_never_ten library r entries c = subst (Every is_not_ten) (chain_run library (loaded library) entries c) (never_ten library r (map (λ e. e.call) entries))
