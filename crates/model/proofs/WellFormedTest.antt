-- The test for well-formed states and the facts say the same: each part of the test is the count that the facts speak of.
use Prim.Native.Nat.{ℕ, ◌^◌, ◌≤◌}
use mathlib.Core.Path.{◌≡◌, refl, sym, ap, ◌∙◌, subst}
use mathlib.Core.List.{List, [], ◌∷◌}
use mathlib.Core.Logic.{◌↔◌}
use mathlib.Core.Bool.{Bool, true, false, ◌&&◌, ◌||◌, not}
use native.Mathlib.Omega.{arith}
use lib.Dec.{eqb, ltb, leb}
use lib.ListN.{length}
use borrow.Author.Tests.{le-leb, leb-true, eqb-true, eqb-false}
use Rattle.std.specs.List.{list_any, list_all}
use Rattle.lists.specs.Search.{distinct}
use Rattle.lists.specs.Counts.{bit, count, Every}
use Rattle.lists.proofs.BoolLaws.{by_cases, both_ways, and_parts, and_both}
use Rattle.lists.proofs.AndLaws.{all_both}
use Rattle.lists.proofs.CountLaws.{bit_left, bit_right, total_le, total_zero, count_less}
use Rattle.lists.proofs.TestCounts.{all_every, every_all, any_some, some-any, distinct_once, once_distinct}
use Rattle.literal.specs.Literal.{is_ground}
use Rattle.belief.specs.Beliefs.{are_beliefs}
use Rattle.library.specs.Plan.{Library}
use Rattle.model.specs.declared.Event.{Event}
use Rattle.model.specs.declared.Origin.{Origin}
use Rattle.model.specs.declared.Origin.TheVariants.{External, Goal}
use Rattle.model.specs.State.{most_number, most_stacks, AgentState}
use Rattle.model.specs.Instance.{is_suspended, last_tried}
use Rattle.model.specs.Live.{is_goal, same_origin, is_of, goal_of, Job, live}
use Rattle.model.specs.Report.{told_kind}
use Rattle.model.specs.WellFormed.{is_within, is_numbered, is_event_sound, same_event, are_events, is_sound, is_instance, are_instances, is_stack, is_served, same_served, is_goal_for, has_goal, is_posted, has_poster, are_served, is_well_formed}
use Rattle.model.specs.Formed.{WellFormed}
use Rattle.model.proofs.OriginLaws.{eqb_same, origin_equal, origin_same}

-- ---- Tests of two parts, over a list

both_every : {A : Type 0} (p q : A → Bool) (xs : List A) → Every p xs → Every q xs → Every (λ x. p x && q x) xs
both_every p q xs h k = all_every _ xs (all_both p q xs ∙ and_both (list_all p xs) (list_all q xs) (every_all p xs h) (every_all q xs k))

every_parts : {A : Type 0} (p q : A → Bool) (xs : List A) → Every (λ x. p x && q x) xs → (list_all p xs ≡ true) × (list_all q xs ≡ true)
every_parts p q xs h = and_parts (list_all p xs) (list_all q xs) (sym (all_both p q xs) ∙ every_all _ xs h)

left_every : {A : Type 0} (p q : A → Bool) (xs : List A) → Every (λ x. p x && q x) xs → Every p xs
left_every p q xs h = all_every p xs (every_parts p q xs h).0

right_every : {A : Type 0} (p q : A → Bool) (xs : List A) → Every (λ x. p x && q x) xs → Every q xs
right_every p q xs h = all_every q xs (every_parts p q xs h).1

-- ---- Goals and their posters

module _ (q : List Event) (J : List Job) where
  abbrev queued : Origin → ℕ
  queued o = count (λ e. is_goal e.origin && is_of o e) q

  abbrev asleep : Origin → ℕ
  asleep o = count (is_posted o) J

  -- a goal that is queued has a poster
  pub goals_posted : ((o : Origin) → queued o ≡ asleep o) → (part : List Event)
      → ((o : Origin) → count (λ e. is_goal e.origin && is_of o e) part ≤ queued o) → Every (has_poster J) part
  unfolding has_poster
  goals_posted h [] less = refl
  goals_posted h (e ∷ part) less =
      omega (
        arith,
        goals_posted h part (λ o. omega (arith, less o)),
        ap (λ b. bit (not b)) (by_cases (is_goal e.origin)
            (λ g. ap (λ b. not b || list_any (is_posted e.origin) J) g ∙ some-any (is_posted e.origin) J (omega (arith, h e.origin, less e.origin, ap bit (and_both (is_goal e.origin) (is_of e.origin e) g (origin_same e.origin)))))
            (λ g. ap (λ b. not b || list_any (is_posted e.origin) J) g)),
      )

  module _ (library : Library) (ids : (k : ℕ) → count (λ j. eqb k j.instance.id) J ≤ 1) (once : (o : Origin) → count (is_of o) q ≤ 1) (posters : Every (has_goal library q) J) (posted : Every (has_poster J) q) where
    one_poster : (o : Origin) → asleep o ≤ 1
    unfolding same_origin
    one_poster (External n) = omega (
      arith,
      total_le (λ j. bit (is_posted (External n) j)) (λ j. 0) J (λ j. bit_right (is_suspended j.instance.status) false),
      total_zero J,
    )
    one_poster (Goal i s b) = omega (
      arith,
      ids i,
      total_le (λ j. bit (is_posted (Goal i s b) j)) (λ j. bit (eqb i j.instance.id)) J (λ j. omega (arith, bit_right (is_suspended j.instance.status) (same_origin (Goal i s b) (goal_of j.instance)), bit_left (eqb i j.instance.id) (eqb s j.instance.state && eqb b (last_tried j.instance)))),
    )

    one_goal : (o : Origin) → queued o ≤ 1
    one_goal o = omega (
      arith,
      once o,
      total_le (λ e. bit (is_goal e.origin && is_of o e)) (λ e. bit (is_of o e)) q (λ e. bit_right (is_goal e.origin) (is_of o e)),
    )

    -- a suspended instance of which no goal is queued has none
    none_posted : (o : Origin) → queued o ≡ 0 → asleep o ≡ 0
    unfolding has_goal is_goal_for same_origin
    none_posted o z = count_less (is_posted o) (λ j. not (has_goal library q j)) J posters (λ j. go j (is_suspended j.instance.status) (same_origin o (goal_of j.instance)) refl)
      where
        goal_queued : (u : Origin) (e : Event) (c : Bool) → is_goal u ≡ true → bit (is_of u e && c) ≤ bit (is_goal e.origin && is_of u e)
        goal_queued (External n) e c g = both_ways g refl
        goal_queued (Goal i s b) e c g = at e.origin
          where
            at : (w : Origin) → bit (same_origin (Goal i s b) w && c) ≤ bit (is_goal w && same_origin (Goal i s b) w)
            at (External n) = omega arith
            at (Goal x y v) = bit_left (same_origin (Goal i s b) (Goal x y v)) c

        none_for : (j : Job) → same_origin o (goal_of j.instance) ≡ true → list_any (is_goal_for library j.instance) q ≡ false
        none_for j e = by_cases (list_any (is_goal_for library j.instance) q)
            (λ t. let z₁ : queued (goal_of j.instance) ≡ 0 = subst (λ u. queued u ≡ 0) (origin_equal o (goal_of j.instance) e) z in
            absurd (omega (arith, any_some (is_goal_for library j.instance) q t, total_le (λ x. bit (is_goal_for library j.instance x)) (λ x. bit (is_goal x.origin && is_of (goal_of j.instance) x)) q (λ x. goal_queued (goal_of j.instance) x _ refl))))
            (λ f. f)

        go : (j : Job) (a b : Bool) → same_origin o (goal_of j.instance) ≡ b
            → bit (a && b) ≤ bit (not (not a || list_any (is_goal_for library j.instance) q))
        go j true true e = omega (arith, ap (λ c. bit (not c)) (none_for j e))
        go j true false e = omega arith
        go j false b e = omega arith

    -- a queued goal that nobody posted is none
    none-queued : (o : Origin) → asleep o ≡ 0 → queued o ≡ 0
    unfolding has_poster
    none-queued o z = count_less (λ e. is_goal e.origin && is_of o e) (λ e. not (has_poster J e)) q posted (λ e. go e (is_goal e.origin) (is_of o e) refl)
      where
        none_for : (e : Event) → is_of o e ≡ true → list_any (is_posted e.origin) J ≡ false
        none_for e f = by_cases (list_any (is_posted e.origin) J)
            (λ t. let z₁ : asleep e.origin ≡ 0 = subst (λ u. asleep u ≡ 0) (origin_equal o e.origin f) z in absurd (omega (arith, any_some (is_posted e.origin) J t)))
            (λ x. x)

        go : (e : Event) (a b : Bool) → is_of o e ≡ b → bit (a && b) ≤ bit (not (not a || list_any (is_posted e.origin) J))
        go e true true f = omega (arith, ap (λ c. bit (not c)) (none_for e f))
        go e true false f = omega arith
        go e false b f = omega arith

    pub goals_same : (o : Origin) → queued o ≡ asleep o
    goals_same o = by_cases (eqb (queued o) 0)
        (λ e. let z = eqb-true (queued o) 0 e in omega (arith, none_posted o z))
        (λ e. by_cases (eqb (asleep o) 0)
        (λ f. let z = eqb-true (asleep o) 0 f in omega (arith, none-queued o z))
        (λ f. omega (arith, one_poster o, one_goal o, some_of (queued o) e, some_of (asleep o) f)))
      where
        some_of : (n : ℕ) → eqb n 0 ≡ false → 1 ≤ n
        some_of n e = omega (arith, eqb-false n 0 e)

-- ---- The facts pass the test

module _ (library : Library) (s : AgentState) where
  abbrev J : List Job
  J = live s.stacks

  pub formed_test : WellFormed library s → is_well_formed library s ≡ true
  unfolding is_well_formed are_events is_event_sound are_instances is_instance are_served
  formed_test w = rw (
    w.table,
    le-leb _ _ w.taken_small,
    le-leb _ _ w.made_small,
    events,
    instances,
    le-leb _ _ w.few,
    every_all is_stack s.stacks w.stacked,
    services,
  )
    where
      events : are_events library s.taken s.queue ≡ true
      events =
          and_both (list_all (is_event_sound library s.taken) s.queue) _
          (every_all (is_event_sound library s.taken) s.queue
          (both_every (λ e. is_numbered s.taken e.origin) _ s.queue w.local.numbers
          (both_every (λ e. is_goal e.origin || leb e.kind told_kind) _ s.queue w.local.kinds
          (both_every (λ e. is_ground e.literal) (λ e. ltb e.failed (2 ^ length library.plans)) s.queue w.local.grounds w.local.failures))))
          (and_both (distinct same_event s.queue) _ (once_distinct (λ (e : Event). e.origin) same_origin origin_equal origin_same s.queue w.linked.event_once) (le-leb _ _ w.local.few))

      instances : are_instances library s.made J ≡ true
      instances =
          and_both (list_all (is_instance library s.made) J) _
          (every_all (is_instance library s.made) J (both_every (λ j. is_within s.made j.instance.id) (λ j. is_sound library j.instance) J w.local.ids w.local.sounds))
          (once_distinct (λ (j : Job). j.instance.id) eqb eqb-true eqb_same J w.linked.id_once)

      services : are_served library s.queue J ≡ true
      services =
          and_both (list_all (λ j. list_any (is_served library j) s.queue) J) _ (every_all (λ j. list_any (is_served library j) s.queue) J w.linked.served)
          (and_both (distinct same_served J) _ (once_distinct (λ (j : Job). j.event) same_origin origin_equal origin_same J w.linked.served_once)
          (and_both (list_all (has_goal library s.queue) J) _ (every_all (has_goal library s.queue) J w.linked.posters)
          (every_all (has_poster J) s.queue (goals_posted s.queue J w.linked.goals s.queue (λ o. omega arith)))))

  -- ---- The test gives the facts

  pub test_formed : is_well_formed library s ≡ true → WellFormed library s
  unfolding is_well_formed are_events is_event_sound are_instances is_instance are_served
  test_formed e =
      let a = and_parts (are_beliefs s.beliefs) _ e in
      let b = and_parts (leb s.taken most_number) _ a.1 in
      let c = and_parts (leb s.made most_number) _ b.1 in
      let d = and_parts (are_events library s.taken s.queue) _ c.1 in
      let f = and_parts (are_instances library s.made J) _ d.1 in
      let g = and_parts (leb (length s.stacks) most_stacks) _ f.1 in
      let h = and_parts (list_all is_stack s.stacks) (are_served library s.queue J) g.1 in
      let d₁ = and_parts (list_all (is_event_sound library s.taken) s.queue) _ d.0 in
      let d₂ = and_parts (distinct same_event s.queue) _ d₁.1 in
      let sound = all_every (is_event_sound library s.taken) s.queue d₁.0 in
      let sound₁ = right_every (λ x. is_numbered s.taken x.origin) _ s.queue sound in
      let sound₂ = right_every (λ x. is_goal x.origin || leb x.kind told_kind) _ s.queue sound₁ in
      let f₁ = and_parts (list_all (is_instance library s.made) J) _ f.0 in
      let own = all_every (is_instance library s.made) J f₁.0 in
      let h₁ = and_parts (list_all (λ j. list_any (is_served library j) s.queue) J) _ h.1 in
      let h₂ = and_parts (distinct same_served J) _ h₁.1 in
      let h₃ = and_parts (list_all (has_goal library s.queue) J) _ h₂.1 in
      let ids = distinct_once (λ (j : Job). j.instance.id) eqb eqb-true J f₁.1 in
      let once = distinct_once (λ (x : Event). x.origin) same_origin origin_equal s.queue d₂.0 in
      let posters = all_every (has_goal library s.queue) J h₃.0 in
      record {
        table = a.0;
        local = record {
          ids = left_every (λ j. is_within s.made j.instance.id) (λ j. is_sound library j.instance) J own;
          numbers = left_every (λ x. is_numbered s.taken x.origin) _ s.queue sound;
          few = leb-true _ _ d₂.1;
          kinds = left_every (λ x. is_goal x.origin || leb x.kind told_kind) _ s.queue sound₁;
          grounds = left_every (λ x. is_ground x.literal) _ s.queue sound₂;
          sounds = right_every (λ j. is_within s.made j.instance.id) (λ j. is_sound library j.instance) J own;
          failures = right_every (λ x. is_ground x.literal) _ s.queue sound₂;
        };
        linked = record {
          id_once = ids;
          event_once = once;
          served_once = distinct_once (λ (j : Job). j.event) same_origin origin_equal J h₂.0;
          served = all_every (λ j. list_any (is_served library j) s.queue) J h₁.0;
          goals = goals_same s.queue J library ids once posters (all_every (has_poster J) s.queue h₃.1);
          posters = posters;
        };
        few = leb-true _ _ g.0;
        stacked = all_every is_stack s.stacks h.0;
        taken_small = leb-true _ _ b.0;
        made_small = leb-true _ _ c.0;
      }

  -- so they say the same
  pub well_formed_facts : (is_well_formed library s ≡ true) ↔ WellFormed library s
  well_formed_facts = (test_formed, formed_test)
