-- Every step keeps what relates the history to the state: the end of an instance, then constructor by constructor.
use Prim.Native.Nat.{ℕ, ◌+◌, ◌≤◌, ◌<◌}
use mathlib.Core.Path.{◌≡◌, refl, sym, ap, ◌∙◌, subst}
use mathlib.Core.List.{List, [], ◌∷◌}
use mathlib.Core.Bool.{Bool, true, false, cond, ◌&&◌, not}
use native.Mathlib.Omega.{arith}
use lib.Dec.{eqb}
use borrow.Author.Tests.{eqb-false, eqb-true}
use Rattle.lists.specs.Counts.{bit, total, count}
use Rattle.lists.proofs.BoolLaws.{by_cases, both_ways, and_both}
use Rattle.lists.proofs.AndLaws.{and_second}
use Rattle.lists.proofs.CountLaws.{bit_left, bit-none, total_le}
use Rattle.literal.specs.declared.Literal.{Literal}
use Rattle.library.specs.Plan.{Library}
use Rattle.situation.specs.FailedSet.{has, insert}
use Rattle.situation.specs.Applicable.{Chosen}
use Rattle.situation.proofs.FailedLaws.{insert-has, insert_other}
use Rattle.model.specs.declared.Event.{Event}
use Rattle.model.specs.declared.Instance.{Instance}
use Rattle.model.specs.declared.Origin.{Origin}
use Rattle.model.specs.declared.Origin.TheVariants.{External, Goal}
use Rattle.model.specs.declared.Status.TheVariants.{Active, Waiting}
use Rattle.model.specs.declared.Answer.{Answer}
use Rattle.model.specs.State.{Intention, Call}
use Rattle.model.specs.Instance.{is_suspended, branch_of, past_branch}
use Rattle.model.specs.Live.{is_goal, same_origin, is_of, goal_of, event_on, Job, jobs_on, live, serves}
use Rattle.model.specs.Event.{new_instance}
use Rattle.model.specs.End.{marked}
use Rattle.model.specs.History.{Making, making, making_of, History, event_of, last_goal, note, note_made, note_succeeded, note_failed, note_closed}
use Rattle.model.specs.Demand3.{is_for}
use Rattle.model.specs.Formed.{Acceptable, Formed}
use Rattle.model.proofs.OriginLaws.{eqb_same, origin_equal, origin_same, same_origin_lem}
use Rattle.situation.proofs.ChosenLaws.{Apt}
use Rattle.model.proofs.InstanceLaws.{waiting-awake, waiting_idle, suspended_idle, tried-some, past_up}
use Rattle.model.proofs.LinkedLaws.{job}
use Rattle.model.proofs.LocalLaws.{top_sound, local_popped}
use Rattle.model.proofs.FormedLaws.{first_sound}
use Rattle.model.proofs.Invariant.{is_open, is_early, is_lost, Invariant, id_once, queue_once}
use Rattle.model.proofs.InvariantSteps
use Rattle.model.proofs.Step.{Step}

-- ---- Looking back

-- the one making of an id tells its event
pub made_for : (k : ℕ) (o : Origin) (l : List Making) → count (λ x. eqb k x.id) l ≤ 1
    → 1 ≤ count (λ x. eqb k x.id && same_origin o x.event) l → event_of k l ≡ o
unfolding event_of
made_for k o [] a b = absurd (omega arith)
made_for k o (x ∷ l) a b = go (eqb k x.id) (same_origin o x.event) refl a b (made_for k o l)
  where
    less : count (λ y. eqb k y.id && same_origin o y.event) l ≤ count (λ y. eqb k y.id) l
    less = total_le (λ y. bit (eqb k y.id && same_origin o y.event)) (λ y. bit (eqb k y.id)) l (λ y. bit_left (eqb k y.id) (same_origin o y.event))

    go : (c d : Bool) → same_origin o x.event ≡ d → bit c + count (λ y. eqb k y.id) l ≤ 1
        → 1 ≤ bit (c && d) + count (λ y. eqb k y.id && same_origin o y.event) l
        → (count (λ y. eqb k y.id) l ≤ 1 → 1 ≤ count (λ y. eqb k y.id && same_origin o y.event) l → event_of k l ≡ o)
        → cond c x.event (event_of k l) ≡ o
    go true true e p q r = sym (origin_equal o x.event e)
    go true false e p q r = absurd (omega (arith, less))
    go false d e p q r = r (omega arith) (omega arith)

-- the goal of a suspended instance is its last G's
pub goal_last : (posted : List _) (t : Instance) (o : Origin) (J : List Job) → is_suspended t.status ≡ true
    → count (is_lost posted) (job t o ∷ J) ≡ 0 → goal_of t ≡ last_goal t.id posted
goal_last posted t o J s h = origin_equal _ _ (go (is_suspended t.status) (same_origin (goal_of t) (last_goal t.id posted)) s (bit-none _ (omega (arith, h))))
  where
    go : (a b : Bool) → a ≡ true → (a && not b) ≡ false → b ≡ true
    go true true p q = refl
    go true false p q = both_ways {b = true} refl q
    go false b p q = both_ways p refl

-- ---- E and F: the first instance ends, with its event first

module _ {h : History} {e : Event} {q : List Event} {t : Instance} {o : Origin} {J : List Job} {n m : ℕ}
    (i : Invariant h (e ∷ q) (job t o ∷ J) n m) (g : o ≡ e.origin) (s : is_suspended t.status ≡ false) where
  own : event_of t.id h.made ≡ o
  own = made_for t.id o h.made (id_once i t.id)
      (omega (arith, i.known (λ x. eqb t.id x.id && same_origin o x.event), ap bit (and_both (eqb t.id t.id) (same_origin o o) (eqb_same t.id) (origin_same o))))

  -- no other queued event has this origin
  only : (x : Origin) (plan : ℕ) → same_origin x o ≡ true → count (is_open x plan) q ≡ 0
  only x plan a = let l = total_le (λ y. bit (is_open x plan y)) (λ y. bit (is_of x y)) q (λ y. bit_left (is_of x y) (not (has y.failed plan))) in
      omega (arith, l, queue_once i x, ap bit a, ap (λ y. bit (same_origin x y)) g)

  -- E: what happens to the one below is left open
  closing : {J' : List Job} → ((p : Making → Bool) → count (λ j. p (making_of j)) J ≡ count (λ j. p (making_of j)) J')
      → ((p : Origin → Bool) → count (λ y. is_goal y.origin && p y.origin) q ≡ count (λ j. is_suspended j.instance.status && p (goal_of j.instance)) J')
      → count (is_lost h.posted) J' ≡ 0 → total (λ j. count (is_early j.instance) h.tries) J' ≡ 0
      → Invariant (note_succeeded (note_closed h (event_of t.id h.made)) t.id) q J' n m
  closing same goals lasts passed = record {
    ids = i.ids;
    numbers = i.numbers;
    instances = λ p. omega (arith, i.instances p, same (λ x. p x.id));
    events = λ p. omega (arith, i.events p, ap (λ x. bit (p x)) own, ap (λ x. bit (p x)) g);
    goals = goals;
    known = λ p. omega (arith, i.known p, same p);
    lasts = lasts;
    arrived = i.arrived;
    plans = i.plans;
    unfailed = λ x plan u. let r = i.unfailed x plan (omega arith) in by_cases (same_origin x o)
        (λ a. absurd (omega (arith, only x plan a)))
        (λ f. omega (arith, r, same (is_for x plan), ap (λ b. bit (b && eqb plan t.plan)) f));
    posts = i.posts;
    tries = i.tries;
    passed = passed;
    recent = i.recent;
  }

  -- F
  failing : Invariant (note_failed h t.id) (marked t.plan e ∷ q) J n m
  failing = record {
    ids = i.ids;
    numbers = i.numbers;
    instances = λ p. omega (arith, i.instances p);
    events = i.events;
    goals = λ p. omega (arith, i.goals p, ap (λ c. bit (c && p (goal_of t))) s);
    known = λ p. omega (arith, i.known p);
    lasts = omega (arith, i.lasts);
    arrived = i.arrived;
    plans = i.plans;
    unfailed = unfailed_marked;
    posts = i.posts;
    tries = i.tries;
    passed = omega (arith, i.passed);
    recent = i.recent;
  }
    where
      unfailed_marked : (x : Origin) (plan : ℕ) → 1 ≤ bit (is_of x e && not (has (insert e.failed t.plan) plan)) + count (is_open x plan) q
          → count (is_for x plan) h.made ≤ count (λ j. is_for x plan (making_of j)) J
      unfailed_marked x plan u = by_cases (eqb plan t.plan)
          -- the plan that failed: no event of this origin is open for it any more
          (λ b. let d : has (insert e.failed t.plan) plan ≡ true = subst (λ y. has (insert e.failed t.plan) y ≡ true) (sym (eqb-true plan t.plan b)) (insert-has e.failed t.plan) in
          let z : bit (is_of x e && not (has (insert e.failed t.plan) plan)) ≡ 0 = ap (λ c. bit (is_of x e && not c)) d ∙ ap bit (and_second (is_of x e) false refl) in
          by_cases (same_origin x o)
          (λ a. absurd (omega (arith, only x plan a)))
          (λ f. omega (arith, i.unfailed x plan (omega arith), ap (λ c. bit (c && eqb plan t.plan)) f)))
          -- another plan
          (λ b. let d = insert_other e.failed t.plan plan (eqb-false plan t.plan b) in
          let r = i.unfailed x plan (omega (arith, ap (λ c. bit (is_of x e && not c)) d)) in
          omega (arith, r, ap (λ c. bit (same_origin x o && c)) b, ap bit (and_second (same_origin x o) false refl)))

  -- E of a bottom
  closing_bottom : is_goal o ≡ false → Invariant (note_succeeded (note_closed h (event_of t.id h.made)) t.id) q J n m
  closing_bottom x = closing (λ p. refl) (λ p. omega (arith, i.goals p, ap (λ y. bit (is_goal y && p y)) (sym g), ap (λ b. bit (b && p o)) x, ap (λ c. bit (c && p (goal_of t))) s)) (omega (arith, i.lasts)) (omega (arith, i.passed))

-- E of one above its poster, which steps past its goal
closing_above : (library : Library) {h : History} {e : Event} {q : List Event} {t c : Instance} {u : Origin} {J : List Job} {n m : ℕ} (i : Invariant h (e ∷ q) (job t (goal_of c) ∷ job c u ∷ J) n m)
    → goal_of c ≡ e.origin → is_suspended t.status ≡ false → is_suspended c.status ≡ true → c.state < (branch_of library c).next
    → Invariant (note_succeeded (note_closed h (event_of t.id h.made)) t.id) q (job (past_branch library c) u ∷ J) n m
unfolding past_branch
closing_above library {h} {t = t} {c = c} i g s w up = closing i g s (λ p. refl)
    (λ p. omega (arith, i.goals p, ap (λ x. bit (is_goal x && p x)) g, ap (λ b. bit (b && p (goal_of t))) s, ap (λ b. bit (b && p (goal_of c))) w))
    (omega (arith, i.lasts))
    (omega (arith, i.passed, InvariantSteps.fewer_early c c.env (branch_of library c).next 0 Active h.tries (InvariantSteps.onward_state c.state c.tried (branch_of library c).next 0 up)))

-- ---- M

open_event : (e : Event) (q : List Event) (o : Origin) (plan : ℕ) → e.origin ≡ o → has e.failed plan ≡ false → 1 ≤ count (is_open o plan) (e ∷ q)
open_event e q o plan p u = omega (arith, ap bit (and_both (is_of o e) (not (has e.failed plan)) (same_origin_lem o e.origin (sym p)) (ap not u)))

-- ---- Every step

module _ {library : Library} (r : Acceptable library) where
  made_external_kept : {h : History} {e : Event} {q : List Event} {J : List Job} {n m : ℕ} (chosen : Chosen) (k : ℕ) → e.origin ≡ External k
      → count (serves e.origin) J ≡ 0
      → Apt e.kind e.failed library.plans chosen → Invariant h (e ∷ q) J n m
      → Invariant (note_made h (making (m + 1) chosen.plan (External k))) (e ∷ q) (job (new_instance m chosen) (External k) ∷ J) n (m + 1)
  made_external_kept {e = e} {q = q} {J = J} {m = m} chosen k p z a i =
      InvariantSteps.making_one i (External k) chosen.plan (new_instance m chosen) refl refl refl (subst (λ u. count (serves u) J ≡ 0) p z) (open_event e q (External k) chosen.plan p a.unfailed)

  made_goal_kept : {h : History} {e : Event} {q : List Event} {t : Instance} {u : Origin} {J : List Job} {n m : ℕ} (chosen : Chosen) (x : ℕ)
      → x ≡ t.id → e.origin ≡ goal_of t
      → is_suspended t.status ≡ true → count (serves e.origin) (job t u ∷ J) ≡ 0 → Apt e.kind e.failed library.plans chosen
      → Invariant h (e ∷ q) (job t u ∷ J) n m
      → Invariant (note_made h (making (m + 1) chosen.plan (last_goal x h.posted))) (e ∷ q) (job (new_instance m chosen) (goal_of t) ∷ job t u ∷ J) n (m + 1)
  made_goal_kept {h} {e} {q} {t} {u} {J} {n} {m} chosen x d p s z a i =
      subst (λ y. Invariant (note_made h (making (m + 1) chosen.plan y)) (e ∷ q) (job (new_instance m chosen) (goal_of t) ∷ job t u ∷ J) n (m + 1))
      (goal_last h.posted t u J s i.lasts ∙ ap (λ y. last_goal y h.posted) (sym d))
      (InvariantSteps.making_one i (goal_of t) chosen.plan (new_instance m chosen) refl refl refl (subst (λ y. count (serves y) (job t u ∷ J) ≡ 0) p z) (open_event e q (goal_of t) chosen.plan p a.unfailed))

  pub step_kept : {h : History} {b : List Literal} {n m n' m' : ℕ} {c : Call} {q q' : List Event} {ks ks' : List Intention} {a : Answer}
      → Step library n m c q ks a n' m' q' ks' → Formed library b q ks n m → Invariant h q (live ks) n m → Invariant (note h c a) q' (live ks') n' m'
  unfolding note live jobs_on past_branch
  step_kept Step.idle w i = i
  step_kept (Step.refused number e) w i = i
  step_kept (Step.taken kind l x g f y) w i = InvariantSteps.taking i kind l
  step_kept (Step.dropped k p z) w i = InvariantSteps.dropping i k p
  step_kept (Step.unmet x y z o p s u) w i = InvariantSteps.waking i p s (Goal x y z) o
  step_kept (Step.made_external chosen k p z x f y) w i = made_external_kept chosen k p z x i
  step_kept (Step.made_goal chosen x d p s z y f) w i = made_goal_kept chosen x d p s z y i
  step_kept (Step.missed {t = t} x s g) w i =
      InvariantSteps.trying i t.env t.state (t.tried + 1) Active (InvariantSteps.onward_branch t.state t.tried) (InvariantSteps.behind-branch t.state t.tried) s refl
  step_kept (Step.stepped {t = t} x v s g e) w i =
      InvariantSteps.trying i v x.next 0 Active (InvariantSteps.onward_state t.state t.tried x.next 0 g.up) (InvariantSteps.behind-state t.state t.tried x.next 0 g.up) s refl
  step_kept (Step.done {t = t} x l s g k) w i =
      InvariantSteps.trying i t.env t.state (t.tried + 1) Waiting (InvariantSteps.onward_branch t.state t.tried) (InvariantSteps.behind-branch t.state t.tried) s refl
  step_kept (Step.posted x l s g o) w i = InvariantSteps.posting i x.kind l s
  step_kept (Step.failed_bottom s g) w i = failing i g s
  step_kept (Step.failed_above s g) w i = failing i g s
  step_kept (Step.succeeded_bottom s g) w i = closing_bottom i g s refl
  step_kept (Step.succeeded_above {k = k} {t = t} {c = c} {below = below} s g d) w i =
      let x = top_sound c (event_on k below) (local_popped t (goal_of c) w.local) in
      closing_above library i g s d (past_up library r c x (tried-some c.tried _ c.status x.status (suspended_idle c.status d)))
  step_kept (Step.worked {t = t} d) w i = let x = first_sound w in
      InvariantSteps.resuming i t.env (branch_of library t).next 0
      (InvariantSteps.onward_state t.state t.tried (branch_of library t).next 0 (past_up library r t x (tried-some t.tried _ t.status x.status (waiting_idle t.status d)))) (waiting-awake t.status d)
  step_kept (Step.not_worked_lem {t = t} d) w i = InvariantSteps.resuming i t.env t.state t.tried (InvariantSteps.onward_same t.state t.tried) (waiting-awake t.status d)
