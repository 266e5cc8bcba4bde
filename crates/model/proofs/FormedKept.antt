-- Every step leads from a well-formed state to a well-formed one: the facts, constructor by constructor.
use Prim.Native.Nat.{ℕ, ◌+◌, ◌-◌, ◌≤◌, ◌<◌}
use mathlib.Core.Path.{◌≡◌, refl, sym, ap, ◌∙◌, subst}
use mathlib.Core.List.{List, [], ◌∷◌}
use mathlib.Core.Bool.{true, false, not}
use native.Mathlib.Omega.{arith}
use lib.Dec.{eqb, ltb, leb}
use lib.ListN.{length, get_or}
use borrow.Author.Tests.{lt-ltb}
use Rattle.std.specs.List.{list_any}
use Rattle.lists.specs.Counts.{bit, count, Every}
use Rattle.lists.proofs.BoolLaws.{both_ways, and_both}
use Rattle.lists.proofs.CountLaws.{count_less}
use Rattle.lists.proofs.TestCounts.{some-any}
use Rattle.literal.specs.declared.Literal.{Literal}
use Rattle.literal.specs.declared.Env.{Env}
use Rattle.literal.specs.Literal.{is_ground, same}
use Rattle.literal.specs.Environment.{instantiate}
use Rattle.literal.proofs.LiteralLaws.{equal_same}
use Rattle.belief.specs.Beliefs.{are_beliefs}
use Rattle.library.specs.declared.Branch.{Branch}
use Rattle.library.specs.Plan.{Library, no_plan, no_branch}
use Rattle.situation.specs.FailedSet.{has}
use Rattle.situation.specs.Applicable.{Chosen}
use Rattle.model.specs.declared.Event.{Event}
use Rattle.model.specs.declared.Instance.{Instance}
use Rattle.model.specs.declared.Origin.{Origin}
use Rattle.model.specs.declared.Origin.TheVariants.{External}
use Rattle.model.specs.declared.Status.{Status}
use Rattle.model.specs.declared.Status.TheVariants.{Active, Waiting, Suspended}
use Rattle.model.specs.declared.Answer.{Answer}
use Rattle.model.specs.State.{most_number, most_stacks, most_external, Intention, Call}
use Rattle.model.specs.Instance.{is_suspended, plan_of, branches_of, branch_of, moved, try_next, awake, past_branch, is_action_kind, is_goal_kind}
use Rattle.model.specs.Live.{is_goal, is_external, is_of, goal_of, event_on, jobs_on, live, serves}
use Rattle.model.specs.Report.{new_event}
use Rattle.model.specs.Event.{new_instance, opened}
use Rattle.model.specs.Try.{new_goal}
use Rattle.model.specs.End.{marked}
use Rattle.model.specs.Turn.{height_of}
use Rattle.model.specs.WellFormed.{is_numbered, is_within, is_status, is_stack, is_served, is_goal_for}
use Rattle.model.specs.Formed.{Acceptable, Sound, Stacked, Local, Linked, Formed}
use Rattle.model.proofs.OriginLaws.{same_origin_lem, goal_tried, eqb_same}
use Rattle.situation.proofs.ChosenLaws.{Apt}
use Rattle.model.proofs.InstanceLaws.{waiting-awake, waiting_idle, suspended_idle, tried-some, stack-both, Branching, past_sound}
use Rattle.model.proofs.TryLaws.{Posting}
use Rattle.model.proofs.LinkedLaws
use Rattle.model.proofs.LinkedLaws.{job}
use Rattle.model.proofs.LocalLaws.{number_new, origin_new, local_taken, local_goal, local_closed, local_marked, local_moved, local_popped, local_made, top_sound}
use Rattle.model.proofs.FormedLaws.{stack, first_sound, first_stacked}
use Rattle.model.proofs.Step.{Step}

-- an instance that is active again, where it was
awake_sound : {library : Library} (x : Instance) → Sound library x → Sound library (awake x)
unfolding plan_of branches_of is_status
awake_sound x c = record { plan = c.plan; state = c.state; tried = c.tried; env = c.env; status = refl }

-- a stack whose top is awake after it
awake_stacked : (k : ℕ) (t x : Instance) (below : List Instance) → Stacked (stack k t below) → is_suspended x.status ≡ false
    → Stacked (stack k x below)
awake_stacked k t x below h e = record { asleep = h.asleep; height = h.height; room = λ s. both_ways s e }

restacked : (k k' : Intention) (ks : List Intention) → Every is_stack (k ∷ ks) → Stacked k' → Every is_stack (k' ∷ ks)
restacked k k' ks h s = omega (arith, ap (λ b. bit (not b)) (stack-both k' s))

-- the one below a top
lower : (k : ℕ) (t c : Instance) (below : List Instance) → Stacked (stack k t (c ∷ below)) → Stacked (stack k c below)
lower k t c below h = record { asleep = omega (arith, h.asleep); height = omega (arith, h.height); room = λ s. omega (arith, h.height) }

-- other beliefs that keep the rules
pub retable : {library : Library} {b b' : List Literal} {q : List Event} {ks : List Intention} {n m : ℕ} → are_beliefs b' ≡ true
    → Formed library b q ks n m → Formed library b' q ks n m
retable t i = record { table = t; local = i.local; linked = i.linked; few = i.few; stacked = i.stacked; taken_small = i.taken_small; made_small = i.made_small }

module _ {library : Library} {b : List Literal} {n m : ℕ} where
  -- other events and stacks, on the same beliefs and counts
  with_parts : {q q' : List Event} {ks ks' : List Intention} → Formed library b q ks n m → Local library q' (live ks') n m → Linked library q' (live ks')
      → length ks' ≤ most_stacks → Every is_stack ks' → Formed library b q' ks' n m
  with_parts i local linked few stacked =
      record { table = i.table; local = local; linked = linked; few = few; stacked = stacked; taken_small = i.taken_small; made_small = i.made_small }

  -- ---- Events

  taken_formed : {q : List Event} {ks : List Intention} (kind : ℕ) (l : Literal) → leb kind 2 ≡ true → is_ground l ≡ true → n < most_number
      → count is_external q < most_external
      → Formed library b q ks n m → Formed library b (new_event (n + 1) kind l ∷ q) ks (n + 1) m
  taken_formed {q} kind l a g f h i = record {
    table = i.table;
    local = local_taken kind l a g h i.local;
    linked = LinkedLaws.link_taken i.linked (new_event (n + 1) kind l) (count_less (is_of (External (n + 1))) (λ e. not (is_numbered n e.origin)) q i.local.numbers (λ e. origin_new n e.origin)) refl;
    few = i.few;
    stacked = i.stacked;
    taken_small = omega arith;
    made_small = i.made_small;
  }

  dropped_formed : {e : Event} {q : List Event} {ks : List Intention} → is_goal e.origin ≡ false → count (serves e.origin) (live ks) ≡ 0
      → Formed library b (e ∷ q) ks n m → Formed library b q ks n m
  dropped_formed {e} g z i = with_parts i (local_closed e i.local) (LinkedLaws.link_dropped i.linked g z) i.few i.stacked

  unmet_formed : {e : Event} {q : List Event} {k : ℕ} {t : Instance} {below : List Instance} {ks : List Intention} → e.origin ≡ goal_of t
      → is_suspended t.status ≡ true
      → count (serves e.origin) (live (stack k t below ∷ ks)) ≡ 0 → Formed library b (e ∷ q) (stack k t below ∷ ks) n m
      → Formed library b q (stack k (awake t) below ∷ ks) n m
  unfolding live jobs_on
  unmet_formed {e} {q} {k} {t} {below} {ks} p s z i = with_parts i
      (local_moved t (awake t) (event_on k below) refl (awake_sound t (first_sound i)) (local_closed e i.local))
      (LinkedLaws.link_woken i.linked p s z) i.few
      (restacked (stack k t below) (stack k (awake t) below) ks i.stacked (awake_stacked k t (awake t) below (first_stacked i) refl))

  -- ---- A new instance

  module _ {e : Event} {q : List Event} {ks : List Intention} (r : Acceptable library) (chosen : Chosen) (a : Apt e.kind e.failed library.plans chosen) (i : Formed library b (e ∷ q) ks n m) where
    new_sound : Sound library (new_instance m chosen)
    unfolding plan_of is_status
    new_sound = record { plan = a.there; state = r.begun chosen.plan a.there; tried = omega arith; env = a.env; status = refl }

    new_served : (o : Origin) → e.origin ≡ o → list_any (is_served library (job (new_instance m chosen) o)) (e ∷ q) ≡ true
    unfolding is_served plan_of
    new_served o p = some-any (is_served library (job (new_instance m chosen) o)) (e ∷ q) (omega (
      arith,
      ap bit
          (and_both (is_of o e) _ (same_origin_lem o e.origin (sym p)) (and_both (eqb (get_or library.plans chosen.plan no_plan).kind e.kind) (not (has e.failed chosen.plan)) a.kind_agrees (ap not a.unfailed))),
    ))

    new_id : count (λ j. eqb (m + 1) j.instance.id) (live ks) ≡ 0
    new_id = count_less (λ j. eqb (m + 1) j.instance.id) (λ j. not (is_within m j.instance.id)) (live ks) i.local.ids (λ j. number_new m j.instance.id)

    made_external_formed : (k : ℕ) → e.origin ≡ External k → count (serves e.origin) (live ks) ≡ 0 → m < most_number → length ks < most_stacks
        → Formed library b (e ∷ q) (opened k (new_instance m chosen) ∷ ks) n (m + 1)
    unfolding live jobs_on
    made_external_formed k p z f h = record {
      table = i.table;
      local = local_made (new_instance m chosen) (External k) refl new_sound i.local;
      linked = LinkedLaws.link_made i.linked new_id refl (subst (λ u. count (serves u) (live ks) ≡ 0) p z) (new_served (External k) p);
      few = omega arith;
      stacked = omega (
        arith,
        i.stacked,
        ap (λ c. bit (not c)) (stack-both (opened k (new_instance m chosen)) (record { asleep = refl; height = omega arith; room = λ s. omega arith })),
      );
      taken_small = i.taken_small;
      made_small = omega arith;
    }

  made_goal_formed : {e : Event} {q : List Event} {k : ℕ} {t : Instance} {below : List Instance} {ks : List Intention} → Acceptable library
      → (chosen : Chosen)
      → e.origin ≡ goal_of t → is_suspended t.status ≡ true → count (serves e.origin) (live (stack k t below ∷ ks)) ≡ 0
      → Apt e.kind e.failed library.plans chosen → m < most_number
      → Formed library b (e ∷ q) (stack k t below ∷ ks) n m → Formed library b (e ∷ q) (stack k (new_instance m chosen) (t ∷ below) ∷ ks) n (m + 1)
  unfolding live jobs_on new_sound new_served new_id
  made_goal_formed {e} {q} {k} {t} {below} {ks} r chosen p s z a f i = let h = first_stacked i in record {
    table = i.table;
    local = local_made (new_instance m chosen) (goal_of t) refl (new_sound r chosen a i) i.local;
    linked = LinkedLaws.link_made i.linked (new_id r chosen a i) refl (subst (λ u. count (serves u) (live (stack k t below ∷ ks)) ≡ 0) p z) (new_served r chosen a i (goal_of t) p);
    few = i.few;
    stacked = restacked (stack k t below) (stack k (new_instance m chosen) (t ∷ below)) ks i.stacked
        (record { asleep = omega (arith, h.asleep, ap (λ c. bit (not c)) s); height = omega (arith, h.room s); room = λ x. both_ways x refl });
    taken_small = i.taken_small;
    made_small = omega arith;
  }

  -- ---- The top moves on

  module _ {q : List Event} {k : ℕ} {t : Instance} {below : List Instance} {ks : List Intention} (i : Formed library b q (stack k t below ∷ ks) n m) (s : is_suspended t.status ≡ false) where
    moved_formed : (v : Env) (a c : ℕ) (u : Status) → is_suspended u ≡ false → Sound library (moved t v a c u)
        → Formed library b q (stack k (moved t v a c u) below ∷ ks) n m
    unfolding live jobs_on
    moved_formed v a c u f h = with_parts i (local_moved t (moved t v a c u) (event_on k below) refl h i.local)
        (LinkedLaws.link_moved i.linked s v a c u f) i.few
        (restacked (stack k t below) (stack k (moved t v a c u) below) ks i.stacked (awake_stacked k t (moved t v a c u) below (first_stacked i) f))

    -- the branch just tried is the instance's
    latest : (x : Branch) → Branching library t x → (u : Status) → branch_of library (try_next u t) ≡ x
    unfolding branch_of branches_of plan_of
    latest x g u = let e : t.tried + 1 - 1 ≡ t.tried = omega arith in ap (λ j. get_or (branches_of library t) j no_branch) e ∙ g.here

    tried_sound : (x : Branch) → Branching library t x → (u : Status) → is_status (t.tried + 1) x.kind u ≡ true → Sound library (try_next u t)
    unfolding branches_of plan_of
    tried_sound x g u f = let c = first_sound i in
        record { plan = c.plan; state = c.state; tried = omega (arith, g.untried); env = c.env; status = ap (λ y. is_status (t.tried + 1) y.kind u) (latest x g u) ∙ f }

    posted_formed : (x : Branch) (g : Literal) → Branching library t x
        → Posting (height_of (stack k t below)) x.kind (instantiate t.env x.literal) g
        → Formed library b (new_goal t x.kind g ∷ q) (stack k (try_next Suspended t) below ∷ ks) n m
    unfolding live jobs_on is_status is_goal_for
    posted_formed x g h o =
        let y = try_next Suspended t in
        let l = latest x h Suspended in
        let p : is_status (t.tried + 1) x.kind Suspended ≡ true = and_both (ltb 0 (t.tried + 1)) (is_goal_kind x.kind) (lt-ltb 0 (t.tried + 1) (omega arith)) o.is_goal_lem in
        let fit : is_goal_for library y (new_goal t x.kind g) ≡ true =
        and_both (is_of (goal_of y) (new_goal t x.kind g)) _ (same_origin_lem _ _ (goal_tried t Suspended))
        (and_both (eqb (branch_of library y).kind x.kind) _ (ap (λ z. eqb z.kind x.kind) l ∙ eqb_same x.kind)
        (ap (λ z. same (instantiate t.env z.literal) g) l ∙ equal_same _ _ (sym o.same_literal))) in
        with_parts i
        (local_goal (new_goal t x.kind g) refl o.ground refl (local_moved t y (event_on k below) refl (tried_sound x h Suspended p) i.local))
        (LinkedLaws.link_posted i.linked s (new_goal t x.kind g) (sym (goal_tried t Suspended)) fit) i.few
        (restacked (stack k t below) (stack k y below) ks i.stacked (record { asleep = (first_stacked i).asleep; height = (first_stacked i).height; room = λ z. o.low }))

  -- ---- The top ends

  module _ {e : Event} {q : List Event} {k : ℕ} {t : Instance} {ks : List Intention} (s : is_suspended t.status ≡ false) where
    failed_bottom_formed : External k ≡ e.origin → Formed library b (e ∷ q) (stack k t [] ∷ ks) n m
        → Formed library b (marked t.plan e ∷ q) ks n m
    unfolding live jobs_on
    failed_bottom_formed g i = with_parts i (local_marked e t.plan (first_sound i).plan (local_popped t (External k) i.local))
        (LinkedLaws.link_failed i.linked g s t.plan) (omega (arith, i.few)) (omega (arith, i.stacked))

    succeeded_bottom_formed : External k ≡ e.origin → Formed library b (e ∷ q) (stack k t [] ∷ ks) n m → Formed library b q ks n m
    unfolding live jobs_on
    succeeded_bottom_formed g i = with_parts i (local_closed e (local_popped t (External k) i.local))
        (LinkedLaws.link_closed i.linked g s (ap is_goal (sym g))) (omega (arith, i.few)) (omega (arith, i.stacked))

    failed_above_formed : {c : Instance} {below : List Instance} → goal_of c ≡ e.origin → Formed library b (e ∷ q) (stack k t (c ∷ below) ∷ ks) n m
        → Formed library b (marked t.plan e ∷ q) (stack k c below ∷ ks) n m
    unfolding live jobs_on
    failed_above_formed {c} {below} g i = with_parts i
        (local_marked e t.plan (first_sound i).plan (local_popped t (goal_of c) i.local))
        (LinkedLaws.link_failed i.linked g s t.plan) i.few
        (restacked (stack k t (c ∷ below)) (stack k c below) ks i.stacked (lower k t c below (first_stacked i)))

    succeeded_above_formed : {c : Instance} {below : List Instance} → Acceptable library → goal_of c ≡ e.origin → is_suspended c.status ≡ true
        → Formed library b (e ∷ q) (stack k t (c ∷ below) ∷ ks) n m → Formed library b q (stack k (past_branch library c) below ∷ ks) n m
    unfolding live jobs_on past_branch
    succeeded_above_formed {c} {below} r g w i =
        let l = local_popped t (goal_of c) i.local in
        let h = lower k t c below (first_stacked i) in
        let x = top_sound c (event_on k below) l in
        with_parts i
        (local_closed e (local_moved c (past_branch library c) (event_on k below) refl (past_sound library r c x (tried-some c.tried _ c.status x.status (suspended_idle c.status w)) c.env x.env) l))
        (LinkedLaws.link_past i.linked g s (sym g) w c.env (branch_of library c).next 0 Active refl) i.few
        (restacked (stack k t (c ∷ below)) (stack k (past_branch library c) below) ks i.stacked (awake_stacked k c (past_branch library c) below h refl))

-- ---- Every step

pub step_formed : {library : Library} → Acceptable library
    → {b : List Literal} {n m n' m' : ℕ} {c : Call} {q q' : List Event} {ks ks' : List Intention} {a : Answer}
    → Step library n m c q ks a n' m' q' ks' → Formed library b q ks n m → Formed library b q' ks' n' m'
unfolding is_status past_branch plan_of branches_of
step_formed r Step.idle i = i
step_formed r (Step.refused number e) i = i
step_formed r (Step.taken kind l x g f h) i = taken_formed kind l x g f h i
step_formed r (Step.dropped k p z) i = dropped_formed (ap is_goal p) z i
step_formed r (Step.unmet x y z o p s u) i = unmet_formed p s u i
step_formed r (Step.made_external chosen k p z x f h) i = made_external_formed r chosen x i k p z f h
step_formed r (Step.made_goal chosen x d p s z y f) i = made_goal_formed r chosen p s z y f i
step_formed r (Step.missed {t = t} x s g) i = moved_formed i s t.env t.state (t.tried + 1) Active refl (tried_sound i s x g Active refl)
step_formed r (Step.stepped {t = t} x v s g e) i = let c = first_sound i in
    moved_formed i s v x.next 0 Active refl (record { plan = c.plan; state = g.inside; tried = omega arith; env = e; status = refl })
step_formed r (Step.done {t = t} x l s g k) i =
    moved_formed i s t.env t.state (t.tried + 1) Waiting refl (tried_sound i s x g Waiting (and_both (ltb 0 (t.tried + 1)) (is_action_kind x.kind) (lt-ltb 0 (t.tried + 1) (omega arith)) k))
step_formed r (Step.posted x g s h o) i = posted_formed i s x g h o
step_formed r (Step.failed_bottom s g) i = failed_bottom_formed s g i
step_formed r (Step.failed_above s g) i = failed_above_formed s g i
step_formed r (Step.succeeded_bottom s g) i = succeeded_bottom_formed s g i
step_formed r (Step.succeeded_above s g w) i = succeeded_above_formed s r g w i
step_formed {library} r (Step.worked {t = t} w) i = let c = first_sound i in
    moved_formed i (waiting-awake t.status w) t.env (branch_of library t).next 0 Active refl (past_sound library r t c (tried-some t.tried _ t.status c.status (waiting_idle t.status w)) t.env c.env)
step_formed {library} r (Step.not_worked_lem {t = t} w) i = let c = first_sound i in
    moved_formed i (waiting-awake t.status w) t.env t.state t.tried Active refl (awake_sound t c)
