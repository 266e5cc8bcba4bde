-- Each change of events and instances keeps what relates them to the history, on lists whose changed elements stand first.
use Prim.Native.Nat.{ℕ, ◌+◌, ◌≤◌, ◌<◌}
use mathlib.Core.Path.{◌≡◌, refl, sym, ap, ◌∙◌, subst}
use mathlib.Core.List.{List, ◌∷◌}
use mathlib.Core.Bool.{true, false, cond, ◌&&◌, ◌||◌, not}
use native.Mathlib.Omega.{arith}
use lib.Dec.{eqb, ltb, leb}
use borrow.Author.Tests.{eqb-true, eqb-false, ltb-true, leb-true, lt-ltb, le-ltb, le-leb, lt-leb, ne_eqb}
use Rattle.lists.specs.Counts.{bit, total, count}
use Rattle.lists.proofs.BoolLaws.{by_cases, and_parts}
use Rattle.lists.proofs.AndLaws.{and_first, and_second}
use Rattle.lists.proofs.CountLaws.{bit_left, bit_le_one, bit_and, total_le, total_unless, total_zero}
use Rattle.literal.specs.declared.Literal.{Literal}
use Rattle.literal.specs.declared.Env.{Env}
use Rattle.situation.specs.FailedSet.{has}
use Rattle.model.specs.declared.Event.{Event}
use Rattle.model.specs.declared.Instance.{Instance}
use Rattle.model.specs.declared.Status.{Status}
use Rattle.model.specs.declared.Status.TheVariants.{Active, Suspended}
use Rattle.model.specs.declared.Origin.{Origin}
use Rattle.model.specs.declared.Origin.TheVariants.{External}
use Rattle.model.specs.Instance.{is_suspended, moved, try_next, awake}
use Rattle.model.specs.Live.{is_goal, same_origin, is_of, goal_of, Job, serves}
use Rattle.model.specs.Report.{new_event}
use Rattle.model.specs.Try.{new_goal}
use Rattle.model.specs.State.{cycle}
use Rattle.model.specs.History.{Spot, spot, goal_at, same_spot, making, making_of, History, last_goal, note_made, note_taken, note_posted, note_closed, note_tried}
use Rattle.model.specs.Demand3.{is_for, arrivals}
use Rattle.model.proofs.OriginLaws.{eqb_same, origin_equal, same_origin_lem, goal_tried}
use Rattle.model.proofs.LinkedLaws.{job}
use Rattle.model.proofs.Invariant.{is_open, is_ahead, is_early, is_lost, Invariant, down_next, down_above, live_once, live_old, no_plan_lem}

-- ---- Events

module _ {h : History} {q : List Event} {J : List Job} {n m : ℕ} (i : Invariant h q J n m) where
  -- an event that has not arrived has had no plan
  pub unfailed_new : (u : Origin) (w : ℕ) → arrivals h u ≡ 0 → (o : Origin) (plan : ℕ)
      → 1 ≤ bit (same_origin o u && not (has w plan)) + count (is_open o plan) q
      → count (is_for o plan) h.made ≤ count (λ j. is_for o plan (making_of j)) J
  unfailed_new u w z o plan e = by_cases (same_origin o u)
      (λ t. let z₁ : arrivals h o ≡ 0 = subst (λ x. arrivals h x ≡ 0) (sym (origin_equal o u t)) z in omega (arith, no_plan_lem i o plan z₁))
      (λ f. i.unfailed o plan (omega (arith, ap (λ b. bit (b && not (has w plan))) f)))

  -- T
  pub taking : (kind : ℕ) (l : Literal) → Invariant (note_taken h (n + 1)) (new_event (n + 1) kind l ∷ q) J (n + 1) m
  unfolding same_origin
  taking kind l = record {
    ids = i.ids;
    numbers = ap (λ x. (n + 1) ∷ x) i.numbers ∙ down_next n;
    instances = i.instances;
    events = λ p. omega (arith, i.events p);
    goals = λ p. omega (arith, i.goals p);
    known = i.known;
    lasts = i.lasts;
    arrived = λ o e. omega (arith, i.arrived o e);
    plans = i.plans;
    unfailed = unfailed_new (External (n + 1)) 0 (omega (arith, total_zero h.posted, ap (count (eqb (n + 1))) i.numbers, down_above (n + 1) n (omega arith)));
    posts = i.posts;
    tries = i.tries;
    passed = i.passed;
    recent = i.recent;
  }

-- N: an external event goes
pub dropping : {h : History} {e : Event} {q : List Event} {J : List Job} {n m : ℕ} → Invariant h (e ∷ q) J n m → (k : ℕ) → e.origin ≡ External k
    → Invariant (note_closed h (External k)) q J n m
dropping i k g = record {
  ids = i.ids;
  numbers = i.numbers;
  instances = i.instances;
  events = λ p. omega (arith, i.events p, ap (λ x. bit (p x)) g);
  goals = λ p. omega (arith, i.goals p, ap (λ x. bit (is_goal x && p x)) g);
  known = i.known;
  lasts = i.lasts;
  arrived = i.arrived;
  plans = i.plans;
  unfailed = λ o plan x. i.unfailed o plan (omega arith);
  posts = i.posts;
  tries = i.tries;
  passed = i.passed;
  recent = i.recent;
}

-- U: a goal goes, and its poster is active again
pub waking : {h : History} {e : Event} {q : List Event} {t : Instance} {u : Origin} {J : List Job} {n m : ℕ}
    → Invariant h (e ∷ q) (job t u ∷ J) n m → e.origin ≡ goal_of t
    → is_suspended t.status ≡ true → (o : Origin) → e.origin ≡ o → Invariant (note_closed h o) q (job (awake t) u ∷ J) n m
waking {t = t} i g s o g₁ = record {
  ids = i.ids;
  numbers = i.numbers;
  instances = i.instances;
  events = λ p. omega (arith, i.events p, ap (λ x. bit (p x)) g₁);
  goals = λ p. omega (arith, i.goals p, ap (λ x. bit (is_goal x && p x)) g, ap (λ b. bit (b && p (goal_of t))) s);
  known = i.known;
  lasts = omega (arith, i.lasts);
  arrived = i.arrived;
  plans = i.plans;
  unfailed = λ o plan x. i.unfailed o plan (omega arith);
  posts = i.posts;
  tries = i.tries;
  passed = i.passed;
  recent = i.recent;
}

-- ---- M: an instance is made for a queued event that nobody serves and for which its plan has not failed

module _ {h : History} {q : List Event} {J : List Job} {n m : ℕ} (i : Invariant h q J n m) (o : Origin) (plan : ℕ) (x : Instance) (new : x.id ≡ m + 1) (same : x.plan ≡ plan)
    (awake : is_suspended x.status ≡ false) (z : count (serves o) J ≡ 0) (u : 1 ≤ count (is_open o plan) q) where
  queued : 1 ≤ count (is_of o) q
  queued = let l = total_le (λ e. bit (is_open o plan e)) (λ e. bit (is_of o e)) q (λ e. bit_left (is_of o e) (not (has e.failed plan))) in omega (arith, l)

  unmade : count (is_for o plan) h.made ≡ 0
  unmade = let l = total_le (λ j. bit (is_for o plan (making_of j))) (λ j. bit (serves o j)) J (λ j. bit_left (serves o j) (eqb plan j.instance.plan)) in omega (arith, i.unfailed o plan u, l)

  early_new : (t : Spot) → bit (is_early x t) ≤ bit (ltb m t.id)
  early_new t = by_cases (eqb t.id x.id)
      (λ e. omega (arith, ap bit (lt-ltb m t.id (omega (arith, eqb-true t.id x.id e))), bit_le_one (is_early x t)))
      (λ e. omega (arith, ap bit (and_first (eqb t.id x.id) (is_ahead x.state x.tried t.state t.branch) e)))

  later : (a : ℕ) → bit (ltb (m + 1) a) ≤ bit (ltb m a)
  later a = by_cases (ltb (m + 1) a)
      (λ e. omega (arith, ap bit (lt-ltb m a (omega (arith, ltb-true (m + 1) a e))), bit_le_one (ltb (m + 1) a)))
      (λ e. omega (arith, ap bit e))

  pub making_one : Invariant (note_made h (making (m + 1) plan o)) q (job x o ∷ J) n (m + 1)
  making_one = record {
    ids = ap (λ l. (m + 1) ∷ l) i.ids ∙ down_next m;
    numbers = i.numbers;
    instances = λ p. omega (arith, i.instances p, ap (λ k. bit (p k)) new);
    events = i.events;
    goals = λ p. omega (arith, i.goals p, ap (λ b. bit (b && p (goal_of x))) awake);
    known = λ p. omega (arith, i.known p, ap (λ k. bit (p (making k x.plan o))) new, ap (λ k. bit (p (making (m + 1) k o))) same);
    lasts = omega (arith, i.lasts, ap bit (and_first (is_suspended x.status) (not (same_origin (goal_of x) (last_goal x.id h.posted))) awake));
    arrived = λ v e. by_cases (same_origin v o)
        (λ t. let q₁ : 1 ≤ count (is_of v) q = subst (λ y. 1 ≤ count (is_of y) q) (sym (origin_equal v o t)) queued in omega (arith, i.events (same_origin v)))
        (λ f. i.arrived v (omega (arith, ap bit f)));
    plans = λ v r. by_cases (same_origin v o && eqb r plan)
        (λ t. let p = and_parts (same_origin v o) (eqb r plan) t in
        let c : count (is_for v r) h.made ≡ 0 = subst (λ y. count (is_for y r) h.made ≡ 0) (sym (origin_equal v o p.0)) (subst (λ y. count (is_for o y) h.made ≡ 0) (sym (eqb-true r plan p.1)) unmade) in omega (arith, ap bit t))
        (λ f. omega (arith, i.plans v r, ap bit f));
    unfailed = λ v r e. omega (arith, i.unfailed v r e, ap (λ k. bit (same_origin v o && eqb r k)) same);
    posts = i.posts;
    tries = i.tries;
    passed = omega (arith, i.passed, i.recent, total_le (λ t. bit (is_early x t)) (λ t. bit (ltb m t.id)) h.tries early_new);
    recent = omega (arith, i.recent, total_le (λ t. bit (ltb (m + 1) t.id)) (λ t. bit (ltb m t.id)) h.tries (λ t. later t.id));
  }

-- ---- Places in a plan

-- what is ahead of (s', k') is ahead of (s, k)
abbrev pub Onward : ℕ → ℕ → ℕ → ℕ → Type 0
Onward s k s' k' = (t b : ℕ) → bit (is_ahead s' k' t b) ≤ bit (is_ahead s k t b)

ahead-state : (s k t b : ℕ) → s < t → bit (is_ahead s k t b) ≡ 1
ahead-state s k t b l = ap (λ x. bit (x || (eqb s t && leb k b))) (lt-ltb s t l)

pub onward_state : (s k s' k' : ℕ) → s < s' → Onward s k s' k'
onward_state s k s' k' l t b = by_cases (ltb s' t)
    (λ e. let l₁ = ltb-true s' t e in omega (arith, ahead-state s k t b (omega arith), bit_le_one (is_ahead s' k' t b)))
    (λ e. by_cases (eqb s' t)
    (λ f. let f₁ = eqb-true s' t f in omega (arith, ahead-state s k t b (omega arith), bit_le_one (is_ahead s' k' t b)))
    (λ f. let z : bit (is_ahead s' k' t b) ≡ 0 = rw (e, f) in omega arith))

pub onward_branch : (s k : ℕ) → Onward s k s (k + 1)
onward_branch s k t b = by_cases (leb (k + 1) b)
    (λ e. let f : leb k b ≡ true = le-leb k b (omega (arith, leb-true (k + 1) b e)) in rw (e, f) (omega arith))
    (λ e. by_cases (ltb s t) (λ g. rw g (omega arith)) (λ g. by_cases (eqb s t) (λ x. let z : bit (is_ahead s (k + 1) t b) ≡ 0 = rw (g, x, e) in omega arith) (λ x. let z : bit (is_ahead s (k + 1) t b) ≡ 0 = rw (g, x) in omega arith)))

pub onward_same : (s k : ℕ) → Onward s k s k
onward_same s k t b = omega arith

-- a try at (s, k) is not ahead of (s', k')
abbrev pub Behind : ℕ → ℕ → ℕ → ℕ → Type 0
Behind s k s' k' = bit (is_ahead s' k' s k) ≡ 0

pub behind-state : (s k s' k' : ℕ) → s < s' → Behind s k s' k'
behind-state s k s' k' l = let e = le-ltb s' s (omega arith) in let f = ne_eqb s' s (λ x. omega arith) in rw (e, f)

pub behind-branch : (s k : ℕ) → Behind s k s (k + 1)
behind-branch s k = let e = le-ltb s s (omega arith) in let f = lt-leb (k + 1) k (omega arith) in rw (e, eqb_same s, f)

pub fewer_early : (t : Instance) (v : Env) (s k : ℕ) (u : Status) (l : List Spot) → Onward t.state t.tried s k
    → count (is_early (moved t v s k u)) l ≤ count (is_early t) l
fewer_early t v s k u l a = total_le (λ x. bit (is_early (moved t v s k u) x)) (λ x. bit (is_early t x)) l
    (λ x. bit_and (eqb x.id t.id) (is_ahead s k x.state x.branch) (is_ahead t.state t.tried x.state x.branch) (a x.state x.branch))

abbrev here : Instance → Spot
here t = spot t.id t.state t.tried

-- ---- S, B, D and G: the first instance tries its next branch

module _ {h : History} {q : List Event} {t : Instance} {w : Origin} {J : List Job} {n m : ℕ} (i : Invariant h q (job t w ∷ J) n m) where
  alone : count (λ j. eqb t.id j.instance.id) J ≡ 0
  alone = omega (arith, live_once i t.id, ap bit (eqb_same t.id))

  same_early : (x : Spot) → bit (same_spot (here t) x) ≤ bit (is_early t x)
  unfolding same_origin
  same_early x = by_cases (same_spot (here t) x)
      (λ e. let o = origin_equal (goal_at (here t)) (goal_at x) e in
      let a : t.id ≡ x.id = cc in let b : t.state ≡ x.state = cc in let c : t.tried ≡ x.branch = cc in
      let l : is_early t x ≡ true = rw (← a, ← b, ← c, eqb_same t.id, le-ltb t.state t.state (omega arith), eqb_same t.state, le-leb t.tried t.tried (omega arith)) in
      omega (arith, ap bit l, bit_le_one (same_spot (here t) x)))
      (λ e. omega (arith, ap bit e))

  untried : count (same_spot (here t)) h.tries ≡ 0
  untried = omega (arith, i.passed, total_le (λ x. bit (same_spot (here t) x)) (λ x. bit (is_early t x)) h.tries same_early)

  tries_new : (x : Spot) → bit (same_spot x (here t)) + count (same_spot x) h.tries ≤ 1
  tries_new x = by_cases (same_spot x (here t))
      (λ e. let z : count (same_spot x) h.tries ≡ 0 = subst (λ o. count (λ y. same_origin o (goal_at y)) h.tries ≡ 0) (sym (origin_equal (goal_at x) (goal_at (here t)) e)) untried in omega (arith, bit_le_one (same_spot x (here t))))
      (λ e. omega (arith, i.tries x, ap bit e))

  passed_new : (v : Env) (s k : ℕ) (u : Status) → Onward t.state t.tried s k → Behind t.state t.tried s k
      → total (λ j. count (is_early j.instance) (here t ∷ h.tries)) (job (moved t v s k u) w ∷ J) ≡ 0
  passed_new v s k u a b =
      let r = total_unless (λ j. eqb t.id j.instance.id) (λ j. bit (is_early j.instance (here t)) + count (is_early j.instance) h.tries) (λ j. count (is_early j.instance) h.tries) J alone
      (λ j e. omega (arith, ap bit (and_first (eqb t.id j.instance.id) (is_ahead j.instance.state j.instance.tried t.state t.tried) e))) in
      omega (arith, r, i.passed, fewer_early t v s k u h.tries a, bit_and (eqb t.id t.id) (is_ahead s k t.state t.tried) false (omega (arith, b)), ap bit (and_second (eqb t.id t.id) false refl))

  recent_new : bit (ltb m t.id) + count (λ x. ltb m x.id) h.tries ≡ 0
  recent_new = omega (arith, live_old i, i.recent)

  pub trying : (v : Env) (s k : ℕ) (u : Status) → Onward t.state t.tried s k → Behind t.state t.tried s k
      → is_suspended t.status ≡ false → is_suspended u ≡ false
      → Invariant (note_tried h cycle (here t)) q (job (moved t v s k u) w ∷ J) n m
  trying v s k u a b e f = record {
    ids = i.ids;
    numbers = i.numbers;
    instances = i.instances;
    events = i.events;
    goals = λ p. omega (arith, i.goals p, ap (λ c. bit (c && p (goal_of t))) e, ap (λ c. bit (c && p (goal_of (moved t v s k u)))) f);
    known = i.known;
    lasts = omega (arith, i.lasts, ap bit (and_first (is_suspended u) (not (same_origin (goal_of (moved t v s k u)) (last_goal t.id h.posted))) f));
    arrived = i.arrived;
    plans = i.plans;
    unfailed = i.unfailed;
    posts = λ x. omega (arith, i.posts x);
    tries = tries_new;
    passed = passed_new v s k u a b;
    recent = recent_new;
  }

  -- outcomes, which are no tries
  pub resuming : (v : Env) (s k : ℕ) → Onward t.state t.tried s k → is_suspended t.status ≡ false
      → Invariant h q (job (moved t v s k Active) w ∷ J) n m
  resuming v s k a e = record {
    ids = i.ids;
    numbers = i.numbers;
    instances = i.instances;
    events = i.events;
    goals = λ p. omega (arith, i.goals p, ap (λ c. bit (c && p (goal_of t))) e);
    known = i.known;
    lasts = omega (arith, i.lasts);
    arrived = i.arrived;
    plans = i.plans;
    unfailed = i.unfailed;
    posts = i.posts;
    tries = i.tries;
    passed = omega (arith, i.passed, fewer_early t v s k Active h.tries a);
    recent = i.recent;
  }

  -- G
  pub posting : (kind : ℕ) (l : Literal) → is_suspended t.status ≡ false
      → Invariant (note_posted (note_tried h cycle (here t)) (here t)) (new_goal t kind l ∷ q) (job (try_next Suspended t) w ∷ J) n m
  unfolding same_origin last_goal
  posting kind l e = record {
    ids = i.ids;
    numbers = i.numbers;
    instances = i.instances;
    events = λ p. omega (arith, i.events p);
    goals = λ p. omega (arith, i.goals p, ap (λ c. bit (c && p (goal_of t))) e, ap (λ x. bit (p x)) (goal_tried t Suspended));
    known = i.known;
    lasts = omega (arith, lasts_rest, lasts_top, i.lasts);
    arrived = λ o x. omega (arith, i.arrived o x);
    plans = i.plans;
    unfailed = unfailed_new i (goal_at (here t)) 0 (omega (arith, total_zero h.taken, i.posts (here t), untried));
    posts = λ x. omega (arith, i.posts x);
    tries = tries_new;
    passed = passed_new t.env t.state (t.tried + 1) Suspended (onward_branch t.state t.tried) (behind-branch t.state t.tried);
    recent = recent_new;
  }
    where
      turned : (j : Job) → eqb t.id j.instance.id ≡ false → eqb j.instance.id t.id ≡ false
      turned j f = ne_eqb j.instance.id t.id (λ x. eqb-false t.id j.instance.id f (sym x))

      lasts_rest : count (is_lost (here t ∷ h.posted)) J ≡ count (is_lost h.posted) J
      lasts_rest = total_unless (λ j. eqb t.id j.instance.id) _ _ J alone
          (λ j f. ap (λ c. bit (is_suspended j.instance.status && not (same_origin (goal_of j.instance) (cond c (goal_at (here t)) (last_goal j.instance.id h.posted))))) (turned j f))

      lasts_top : bit (not (same_origin (goal_of (try_next Suspended t)) (last_goal t.id (here t ∷ h.posted)))) ≡ 0
      lasts_top =
          ap (λ c. bit (not (same_origin (goal_of (try_next Suspended t)) (cond c (goal_at (here t)) (last_goal t.id h.posted))))) (eqb_same t.id)
          ∙ ap (λ c. bit (not c)) (same_origin_lem (goal_of (try_next Suspended t)) (goal_at (here t)) (goal_tried t Suspended))
