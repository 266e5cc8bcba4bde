-- How events and instances belong together is kept by each change that a call makes, on lists whose changed elements stand first.
use Prim.Native.Nat.{ℕ, ◌+◌, ◌≤◌}
use mathlib.Core.Path.{◌≡◌, refl, sym, ap, ◌∙◌, subst}
use mathlib.Core.List.{List, ◌∷◌}
use mathlib.Core.Bool.{Bool, true, false, ◌&&◌, ◌||◌, not}
use native.Mathlib.Omega.{arith}
use lib.Dec.{eqb}
use borrow.Author.Tests.{eqb-true, eq-eqb}
use Rattle.std.specs.List.{list_any}
use Rattle.lists.specs.Counts.{bit, count, Every}
use Rattle.lists.proofs.BoolLaws.{by_cases, both_ways}
use Rattle.lists.proofs.AndLaws.{and_first, and_second}
use Rattle.lists.proofs.CountLaws.{bit_le_one, total_le, total_same, total_unless, total_zero, count_less}
use Rattle.lists.proofs.TestCounts.{any_none, any_some, some-any, none_any}
use Rattle.lists.proofs.LikeLaws.{Like}
use Rattle.literal.specs.declared.Env.{Env}
use Rattle.library.specs.Plan.{Library}
use Rattle.model.specs.declared.Event.{Event}
use Rattle.model.specs.declared.Instance.{Instance}
use Rattle.model.specs.declared.Status.{Status}
use Rattle.model.specs.declared.Status.TheVariants.{Suspended}
use Rattle.model.specs.declared.Origin.{Origin}
use Rattle.model.specs.declared.Origin.TheVariants.{External, Goal}
use Rattle.model.specs.Instance.{is_suspended, plan_of, moved, try_next, awake}
use Rattle.model.specs.Live.{is_goal, same_origin, is_of, goal_of, Job, serves}
use Rattle.model.specs.End.{marked}
use Rattle.model.specs.WellFormed.{is_served, is_goal_for, has_goal, is_posted}
use Rattle.model.specs.Formed.{Linked}
use Rattle.model.proofs.OriginLaws.{eqb_same, origin_equal, same_origin_lem, origin_turned, goal_external}

abbrev pub job : Instance → Origin → Job
job x origin = record { instance = x; event = origin }

-- ---- Order does not matter

pub any_like : {A : Type 0} (test : A → Bool) {xs ys : List A} → Like xs ys → list_any test xs ≡ list_any test ys
any_like test {xs} {ys} a = by_cases (list_any test xs)
    (λ e. e ∙ sym (some-any test ys (omega (arith, any_some test xs e, a.sums (λ x. bit (test x))))))
    (λ e. e ∙ sym (none_any test ys (omega (arith, any_none test xs e, a.sums (λ x. bit (test x))))))

pub relink : {library : Library} {q q' : List Event} {J J' : List Job} → Like q q' → Like J J' → Linked library q J → Linked library q' J'
unfolding has_goal
relink {library} {q} {q'} {J} {J'} a b i = record {
  id_once = λ k. omega (arith, i.id_once k, b.sums (λ j. bit (eqb k j.instance.id)));
  event_once = λ o. omega (arith, i.event_once o, a.sums (λ e. bit (is_of o e)));
  served_once = λ o. omega (arith, i.served_once o, b.sums (λ j. bit (serves o j)));
  served = sym (total_same (λ j. bit (not (list_any (is_served library j) q))) (λ j. bit (not (list_any (is_served library j) q'))) J' (λ j. ap (λ c. bit (not c)) (any_like (is_served library j) a))) ∙ sym (b.sums _) ∙ i.served;
  goals = λ o. sym (a.sums _) ∙ i.goals o ∙ b.sums _;
  posters = sym (total_same (λ j. bit (not (has_goal library q j))) (λ j. bit (not (has_goal library q' j))) J' (λ j. ap (λ c. bit (not (not (is_suspended j.instance.status) || c))) (any_like (is_goal_for library j.instance) a))) ∙ sym (b.sums _) ∙ i.posters;
}

-- ---- Tests on one event

served_off : (library : Library) (j : Job) (e : Event) → same_origin e.origin j.event ≡ false → is_served library j e ≡ false
unfolding is_served
served_off library j e f = and_first _ _ (origin_turned e.origin j.event f)

goal_off : (library : Library) (x : Instance) (e : Event) → same_origin e.origin (goal_of x) ≡ false → is_goal_for library x e ≡ false
unfolding is_goal_for
goal_off library x e f = and_first _ _ (origin_turned e.origin (goal_of x) f)

-- what holds with less holds with more
or_more : (a b : Bool) → bit (not (a || b)) ≤ bit (not b)
or_more true b = omega arith
or_more false b = omega arith

or_mono : (a b c : Bool) → bit (not b) ≤ bit (not c) → bit (not (a || b)) ≤ bit (not (a || c))
or_mono true b c h = omega arith
or_mono false b c h = h

or_left : (a b : Bool) → a ≡ true → bit (not (a || b)) ≡ 0
or_left true b e = refl
or_left false b e = both_ways {b = false} e refl

-- ---- A new event

module _ {library : Library} {q : List Event} {J : List Job} (i : Linked library q J) (e : Event) (z : count (is_of e.origin) q ≡ 0) where
  once_more : (o : Origin) → bit (is_of o e) + count (is_of o) q ≤ 1
  once_more o = by_cases (is_of o e)
      (λ t. let z₁ : count (is_of o) q ≡ 0 = subst (λ u. count (is_of u) q ≡ 0) (sym (origin_equal o e.origin t)) z in omega (arith, ap bit t))
      (λ f. omega (arith, i.event_once o, ap bit f))

  served_more : Every (λ j. list_any (is_served library j) (e ∷ q)) J
  served_more = omega (
    arith,
    i.served,
    total_le (λ j. bit (not (list_any (is_served library j) (e ∷ q)))) (λ j. bit (not (list_any (is_served library j) q))) J (λ j. or_more (is_served library j e) _),
  )

  posters_more : (part : List Job) → Every (has_goal library q) part → Every (has_goal library (e ∷ q)) part
  unfolding has_goal
  posters_more part h = omega (
    arith,
    total_le (λ j. bit (not (has_goal library (e ∷ q) j))) (λ j. bit (not (has_goal library q j))) part (λ j. or_mono (not (is_suspended j.instance.status)) _ _ (or_more (is_goal_for library j.instance e) _)),
  )

  -- T
  pub link_taken : is_goal e.origin ≡ false → Linked library (e ∷ q) J
  link_taken g = record {
    id_once = i.id_once;
    event_once = once_more;
    served_once = i.served_once;
    served = served_more;
    goals = λ o. omega (arith, i.goals o, ap (λ b. bit (b && is_of o e)) g);
    posters = posters_more J i.posters;
  }

-- ---- An event that goes: others have as much as before

pub served_less : (library : Library) (q : List Event) (J : List Job) (e : Event) → count (serves e.origin) J ≡ 0
    → Every (λ j. list_any (is_served library j) (e ∷ q)) J → Every (λ j. list_any (is_served library j) q) J
served_less library q J e z h = sym (total_unless (serves e.origin) (λ j. bit (not (list_any (is_served library j) (e ∷ q)))) (λ j. bit (not (list_any (is_served library j) q))) J z
    (λ j f. ap (λ c. bit (not (c || list_any (is_served library j) q))) (served_off library j e f))) ∙ h

pub posters_less : (library : Library) (q : List Event) (J : List Job) (e : Event) → count (is_posted e.origin) J ≡ 0
    → Every (has_goal library (e ∷ q)) J → Every (has_goal library q) J
unfolding has_goal
posters_less library q J e z h = sym (total_unless (is_posted e.origin) (λ j. bit (not (has_goal library (e ∷ q) j))) (λ j. bit (not (has_goal library q j))) J z (λ j f. go j (is_suspended j.instance.status) f)) ∙ h
  where
    go : (j : Job) (b : Bool) → (b && same_origin e.origin (goal_of j.instance)) ≡ false
        → bit (not (not b || (is_goal_for library j.instance e || list_any (is_goal_for library j.instance) q))) ≡ bit (not (not b || list_any (is_goal_for library j.instance) q))
    go j true f = ap (λ c. bit (not (c || list_any (is_goal_for library j.instance) q))) (goal_off library j.instance e f)
    go j false f = refl

-- nobody has an external event for a goal
pub no_poster : (o : Origin) (J : List Job) → is_goal o ≡ false → count (is_posted o) J ≡ 0
no_poster o J p = total_same (λ j. bit (is_posted o j)) (λ j. 0) J (λ j. ap bit (and_second (is_suspended j.instance.status) _ (origin_turned _ _ (goal_external (goal_of j.instance) o refl p)))) ∙ total_zero J

-- nobody but the first has its goal
pub other_goals : (t : Instance) (o u : Origin) (J : List Job) → ((k : ℕ) → count (λ j. eqb k j.instance.id) (job t o ∷ J) ≤ 1) → u ≡ goal_of t
    → count (is_posted u) J ≡ 0
unfolding same_origin
other_goals t o u J once p = count_less (is_posted u) (λ j. eqb t.id j.instance.id) J (omega (arith, once t.id, ap bit (eqb_same t.id))) (λ j. go j)
  where
    go : (j : Job) → bit (is_posted u j) ≤ bit (eqb t.id j.instance.id)
    go j = by_cases (same_origin u (goal_of j.instance))
        (λ e. let a = sym p ∙ origin_equal u (goal_of j.instance) e in let b : t.id ≡ j.instance.id = cc in omega (arith, ap bit (eq-eqb t.id j.instance.id b), bit_le_one (is_posted u j)))
        (λ e. omega (arith, ap bit (and_second (is_suspended j.instance.status) _ e)))

-- N
pub link_dropped : {library : Library} {e : Event} {q : List Event} {J : List Job} → Linked library (e ∷ q) J → is_goal e.origin ≡ false
    → count (serves e.origin) J ≡ 0 → Linked library q J
link_dropped {library} {e} {q} {J} i g z = record {
  id_once = i.id_once;
  event_once = λ o. omega (arith, i.event_once o);
  served_once = i.served_once;
  served = served_less library q J e z i.served;
  goals = λ o. omega (arith, i.goals o, ap (λ b. bit (b && is_of o e)) g);
  posters = posters_less library q J e (no_poster e.origin J g) i.posters;
}

-- ---- The first instance

module _ {library : Library} {t : Instance} {o : Origin} {J : List Job} where
  -- U
  pub link_woken : {e : Event} {q : List Event} → Linked library (e ∷ q) (job t o ∷ J) → e.origin ≡ goal_of t → is_suspended t.status ≡ true
      → count (serves e.origin) (job t o ∷ J) ≡ 0 → Linked library q (job (awake t) o ∷ J)
  unfolding is_served plan_of has_goal
  link_woken {e} {q} i p s z = record {
    id_once = i.id_once;
    event_once = λ u. omega (arith, i.event_once u);
    served_once = i.served_once;
    served = served_less library q (job t o ∷ J) e z i.served;
    goals = λ u. omega (arith, i.goals u, ap (λ x. bit (is_goal x && same_origin u x)) p, ap (λ b. bit (b && same_origin u (goal_of t))) s);
    posters = omega (arith, posters_less library q J e (other_goals t o e.origin J i.id_once p) (omega (arith, i.posters)));
  }

  -- M
  pub link_made : {q : List Event} → Linked library q J → count (λ j. eqb t.id j.instance.id) J ≡ 0 → is_suspended t.status ≡ false
      → count (serves o) J ≡ 0 → list_any (is_served library (job t o)) q ≡ true → Linked library q (job t o ∷ J)
  unfolding has_goal
  link_made {q} i n s z f = record {
    id_once = λ k. by_cases (eqb k t.id)
        (λ e. let n₁ : count (λ j. eqb k j.instance.id) J ≡ 0 = subst (λ a. count (λ j. eqb a j.instance.id) J ≡ 0) (sym (eqb-true k t.id e)) n in omega (arith, ap bit e))
        (λ e. omega (arith, i.id_once k, ap bit e));
    event_once = i.event_once;
    served_once = λ u. by_cases (same_origin u o)
        (λ e. let n₁ : count (serves u) J ≡ 0 = subst (λ a. count (serves a) J ≡ 0) (sym (origin_equal u o e)) z in omega (arith, ap bit e))
        (λ e. omega (arith, i.served_once u, ap bit e));
    served = omega (arith, i.served, ap (λ b. bit (not b)) f);
    goals = λ u. omega (arith, i.goals u, ap (λ c. bit (c && same_origin u (goal_of t))) s);
    posters = omega (arith, i.posters, ap (λ c. bit (not (not c || list_any (is_goal_for library t) q))) s);
  }

  module _ {q : List Event} (i : Linked library q (job t o ∷ J)) (s : is_suspended t.status ≡ false) where
    -- S, B, D and outcomes
    pub link_moved : (v : Env) (a k : ℕ) (u : Status) → is_suspended u ≡ false → Linked library q (job (moved t v a k u) o ∷ J)
    unfolding is_served plan_of has_goal
    link_moved v a k u f = record {
      id_once = i.id_once;
      event_once = i.event_once;
      served_once = i.served_once;
      served = i.served;
      goals = λ w. omega (arith, i.goals w, ap (λ c. bit (c && same_origin w (goal_of t))) s, ap (λ c. bit (c && same_origin w (goal_of (moved t v a k u)))) f);
      posters = omega (arith, i.posters, ap (λ c. bit (not (not c || list_any (is_goal_for library (moved t v a k u)) q))) f);
    }

    -- no goal of the first instance is queued
    pub unposted : (u : Origin) (x : Instance) → x.id ≡ t.id → u ≡ goal_of x → count (is_of u) q ≡ 0
    unfolding same_origin
    unposted u x d p = total_same (λ e. bit (is_of u e)) (λ e. bit (is_goal e.origin && is_of u e)) q (λ e. go e.origin (is_of u e) refl)
        ∙ omega (arith, i.goals u, other_goals x o u J (λ k. omega (arith, i.id_once k, ap (λ n. bit (eqb k n)) d)) p, ap (λ c. bit (c && same_origin u (goal_of t))) s)
      where
        go : (w : Origin) (b : Bool) → same_origin u w ≡ b → bit b ≡ bit (is_goal w && b)
        go (External n) b e = ap bit (sym e ∙ ap (λ y. same_origin y (External n)) p)
        go (Goal x y c) b e = refl

    -- G
    pub link_posted : (e : Event) → e.origin ≡ goal_of (try_next Suspended t) → is_goal_for library (try_next Suspended t) e ≡ true
        → Linked library (e ∷ q) (job (try_next Suspended t) o ∷ J)
    unfolding is_served plan_of has_goal
    link_posted e p g =
        let z = unposted e.origin (try_next Suspended t) refl p in
        record {
          id_once = i.id_once;
          event_once = once_more i e z;
          served_once = i.served_once;
          served = served_more i e z;
          goals = λ u. omega (arith, i.goals u, ap (λ x. bit (is_goal x && same_origin u x)) p, ap (λ c. bit (c && same_origin u (goal_of t))) s);
          posters = omega (
            arith,
            posters_more i e z J (omega (arith, i.posters)),
            or_left (is_goal_for library (try_next Suspended t) e) (list_any (is_goal_for library (try_next Suspended t)) q) g,
          );
        }

-- ---- The end of the first instance, with its event first

module _ {library : Library} {e : Event} {q : List Event} {t : Instance} {o : Origin} {J : List Job}
    (i : Linked library (e ∷ q) (job t o ∷ J)) (g : o ≡ e.origin) (s : is_suspended t.status ≡ false) where
  unshared : count (serves e.origin) J ≡ 0
  unshared = omega (arith, i.served_once e.origin, ap bit (same_origin_lem e.origin o (sym g)))

  -- E of a bottom
  pub link_closed : is_goal e.origin ≡ false → Linked library q J
  link_closed x = record {
    id_once = λ k. omega (arith, i.id_once k);
    event_once = λ u. omega (arith, i.event_once u);
    served_once = λ u. omega (arith, i.served_once u);
    served = served_less library q J e unshared (omega (arith, i.served));
    goals = λ u. omega (arith, i.goals u, ap (λ b. bit (b && is_of u e)) x, ap (λ c. bit (c && same_origin u (goal_of t))) s);
    posters = posters_less library q J e (no_poster e.origin J x) (omega (arith, i.posters));
  }

  -- F
  pub link_failed : (plan : ℕ) → Linked library (marked plan e ∷ q) J
  unfolding has_goal is_goal_for
  link_failed plan = record {
    id_once = λ k. omega (arith, i.id_once k);
    event_once = i.event_once;
    served_once = λ u. omega (arith, i.served_once u);
    served = omega (
      arith,
      total_le (λ j. bit (not (list_any (is_served library j) (marked plan e ∷ q)))) (λ j. bit (not (list_any (is_served library j) q))) J (λ j. or_more (is_served library j (marked plan e)) _),
      served_less library q J e unshared (omega (arith, i.served)),
    );
    goals = λ u. omega (arith, i.goals u, ap (λ c. bit (c && same_origin u (goal_of t))) s);
    posters = omega (arith, i.posters);
  }

-- E of one whose poster, below it, steps past its goal
pub link_past : {library : Library} {e : Event} {q : List Event} {t c : Instance} {o u : Origin} {J : List Job}
    → Linked library (e ∷ q) (job t o ∷ job c u ∷ J)
    → o ≡ e.origin → is_suspended t.status ≡ false → e.origin ≡ goal_of c → is_suspended c.status ≡ true
    → (v : Env) (a k : ℕ) (status : Status) → is_suspended status ≡ false → Linked library q (job (moved c v a k status) u ∷ J)
unfolding is_served plan_of has_goal
link_past {library} {e} {q} {t} {c} {o} {u} {J} i g s p w v a k status f = record {
  id_once = λ n. omega (arith, i.id_once n);
  event_once = λ x. omega (arith, i.event_once x);
  served_once = λ x. omega (arith, i.served_once x);
  served = served_less library q (job c u ∷ J) e (unshared i g s) (omega (arith, i.served));
  goals = λ x. omega (arith, i.goals x, ap (λ y. bit (is_goal y && same_origin x y)) p, ap (λ b. bit (b && same_origin x (goal_of t))) s, ap (λ b. bit (b && same_origin x (goal_of c))) w, ap (λ b. bit (b && same_origin x (goal_of (moved c v a k status)))) f);
  posters = omega (
    arith,
    posters_less library q J e (other_goals c u e.origin J (λ n. omega (arith, i.id_once n)) p) (omega (arith, i.posters)),
    ap (λ b. bit (not (not b || list_any (is_goal_for library (moved c v a k status)) q))) f,
  );
}
