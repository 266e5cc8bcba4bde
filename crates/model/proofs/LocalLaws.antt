-- What holds of each event and each instance by itself is kept by each change, on lists whose changed elements stand first.
use Prim.Native.Nat.{ℕ, ◌+◌, ◌^◌, ◌≤◌, ◌<◌}
use mathlib.Core.Path.{◌≡◌, refl, sym, ap, ◌∙◌}
use mathlib.Core.List.{List, ◌∷◌}
use mathlib.Core.Bool.{true, ◌||◌, not}
use native.Mathlib.Omega.{arith}
use lib.Dec.{ltb, leb, eqb}
use lib.ListN.{length}
use lib.Pow.{pow_pos}
use borrow.Author.Tests.{lt-ltb, ltb-true, le-leb, leb-true, lt-leb, eqb-true}
use Rattle.lists.specs.Counts.{bit, count}
use Rattle.lists.proofs.BoolLaws.{by_cases, both_ways, and_parts, and_both}
use Rattle.lists.proofs.AndLaws.{and_second}
use Rattle.lists.proofs.CountLaws.{bit_le_one, bit_every, total_le}
use Rattle.lists.proofs.LikeLaws.{Like}
use Rattle.literal.specs.declared.Literal.{Literal}
use Rattle.literal.specs.Literal.{is_ground}
use Rattle.library.specs.Plan.{Library}
use Rattle.situation.specs.FailedSet.{insert}
use Rattle.situation.proofs.FailedLaws.{insert_below}
use Rattle.model.specs.declared.Event.{Event}
use Rattle.model.specs.declared.Instance.{Instance}
use Rattle.model.specs.declared.Origin.{Origin}
use Rattle.model.specs.declared.Origin.TheVariants.{External, Goal}
use Rattle.model.specs.State.{most_external}
use Rattle.model.specs.Live.{is_goal, is_external, same_origin, Job}
use Rattle.model.specs.Report.{told_kind, new_event}
use Rattle.model.specs.End.{marked}
use Rattle.model.specs.WellFormed.{is_within, is_numbered, is_sound}
use Rattle.model.specs.Formed.{Sound, Local}
use Rattle.model.proofs.InstanceLaws.{sound_both, sound_parts}
use Rattle.model.proofs.LinkedLaws.{job}

-- ---- Order does not matter

pub relocal : {library : Library} {q q' : List Event} {J J' : List Job} {n m : ℕ} → Like q q' → Like J J' → Local library q J n m
    → Local library q' J' n m
relocal a b i = record {
  ids = sym (b.sums _) ∙ i.ids;
  numbers = sym (a.sums _) ∙ i.numbers;
  few = omega (arith, i.few, a.sums (λ e. bit (is_external e)));
  kinds = sym (a.sums _) ∙ i.kinds;
  grounds = sym (a.sums _) ∙ i.grounds;
  sounds = sym (b.sums _) ∙ i.sounds;
  failures = sym (a.sums _) ∙ i.failures;
}

-- ---- Numbers in a range

pub within_more : (n k : ℕ) → bit (not (is_within (n + 1) k)) ≤ bit (not (is_within n k))
within_more n k = by_cases (is_within n k)
    (λ e. let p = and_parts (leb 1 k) (leb k n) e in
    let c : is_within (n + 1) k ≡ true = and_both (leb 1 k) (leb k (n + 1)) p.0 (le-leb k (n + 1) (omega (arith, leb-true k n p.1))) in omega (arith, ap (λ x. bit (not x)) c))
    (λ e. omega (arith, ap (λ x. bit (not x)) e, bit_le_one (not (is_within (n + 1) k))))

pub within_new : (n : ℕ) → is_within (n + 1) (n + 1) ≡ true
within_new n = and_both (leb 1 (n + 1)) (leb (n + 1) (n + 1)) (le-leb 1 (n + 1) (omega arith)) (le-leb (n + 1) (n + 1) (omega arith))

numbered_more : (n : ℕ) (o : Origin) → bit (not (is_numbered (n + 1) o)) ≤ bit (not (is_numbered n o))
numbered_more n (External k) = within_more n k
numbered_more n (Goal i s b) = omega arith

-- the next number is not in the range
pub number_new : (n k : ℕ) → bit (eqb (n + 1) k) ≤ bit (not (is_within n k))
number_new n k = by_cases (eqb (n + 1) k)
    (λ e. let d = eqb-true (n + 1) k e in omega (arith, ap bit e, ap (λ x. bit (not x)) (and_second (leb 1 k) (leb k n) (lt-leb k n (omega arith)))))
    (λ e. omega (arith, ap bit e))

pub origin_new : (n : ℕ) (o : Origin) → bit (same_origin (External (n + 1)) o) ≤ bit (not (is_numbered n o))
unfolding same_origin
origin_new n (External k) = number_new n k
origin_new n (Goal i s b) = omega arith

none-failed : (k : ℕ) → bit (not (ltb 0 (2 ^ k))) ≡ 0
none-failed k = ap (λ b. bit (not b)) (lt-ltb 0 (2 ^ k) (pow_pos k))

-- ---- Events

module _ {library : Library} {q : List Event} {J : List Job} {n m : ℕ} where
  -- T
  pub local_taken : (kind : ℕ) (l : Literal) → leb kind told_kind ≡ true → is_ground l ≡ true → count is_external q < most_external
      → Local library q J n m
      → Local library (new_event (n + 1) kind l ∷ q) J (n + 1) m
  local_taken kind l a g f i = record {
    ids = i.ids;
    numbers = omega (
      arith,
      i.numbers,
      ap (λ b. bit (not b)) (within_new n),
      total_le (λ e. bit (not (is_numbered (n + 1) e.origin))) (λ e. bit (not (is_numbered n e.origin))) q (λ e. numbered_more n e.origin),
    );
    few = omega arith;
    kinds = omega (arith, i.kinds, ap (λ b. bit (not b)) a);
    grounds = omega (arith, i.grounds, ap (λ b. bit (not b)) g);
    sounds = i.sounds;
    failures = omega (arith, i.failures, none-failed (length library.plans));
  }

  -- G: a goal more
  pub local_goal : (e : Event) → is_goal e.origin ≡ true → is_ground e.literal ≡ true → e.failed ≡ 0 → Local library q J n m
      → Local library (e ∷ q) J n m
  local_goal e g l f i = record {
    ids = i.ids;
    numbers = omega (arith, i.numbers, any-number e.origin g);
    few = omega (arith, i.few, ap (λ b. bit (not b)) g);
    kinds = omega (arith, i.kinds, ap (λ b. bit (not (b || leb e.kind told_kind))) g);
    grounds = omega (arith, i.grounds, ap (λ b. bit (not b)) l);
    sounds = i.sounds;
    failures = omega (arith, i.failures, ap (λ x. bit (not (ltb x (2 ^ length library.plans)))) f, none-failed (length library.plans));
  }
    where
      any-number : (o : Origin) → is_goal o ≡ true → bit (not (is_numbered n o)) ≡ 0
      any-number (External k) x = both_ways x refl
      any-number (Goal a b c) x = refl

  -- N, U and E: an event less
  pub local_closed : (e : Event) → Local library (e ∷ q) J n m → Local library q J n m
  local_closed e i = record {
    ids = i.ids;
    numbers = omega (arith, i.numbers);
    few = omega (arith, i.few);
    kinds = omega (arith, i.kinds);
    grounds = omega (arith, i.grounds);
    sounds = i.sounds;
    failures = omega (arith, i.failures);
  }

  -- F: a failed plan more
  pub local_marked : (e : Event) (plan : ℕ) → plan < length library.plans → Local library (e ∷ q) J n m → Local library (marked plan e ∷ q) J n m
  local_marked e plan h i = record {
    ids = i.ids;
    numbers = i.numbers;
    few = i.few;
    kinds = i.kinds;
    grounds = i.grounds;
    sounds = i.sounds;
    failures = omega (
      arith,
      i.failures,
      ap (λ b. bit (not b)) (lt-ltb (insert e.failed plan) (2 ^ length library.plans) (insert_below e.failed plan (length library.plans) old h)),
    );
  }
    where
      old : e.failed < 2 ^ length library.plans
      old = ltb-true e.failed (2 ^ length library.plans) (bit_every (ltb e.failed (2 ^ length library.plans)) (omega (arith, i.failures)))

  -- ---- Instances

  -- the first instance is another of the same id
  pub local_moved : (t x : Instance) (o : Origin) → x.id ≡ t.id → Sound library x → Local library q (job t o ∷ J) n m
      → Local library q (job x o ∷ J) n m
  local_moved t x o e s i = record {
    ids = omega (arith, i.ids, ap (λ k. bit (not (is_within m k))) e);
    numbers = i.numbers;
    few = i.few;
    kinds = i.kinds;
    grounds = i.grounds;
    sounds = omega (arith, i.sounds, ap (λ b. bit (not b)) (sound_both library x s));
    failures = i.failures;
  }

  -- the first instance goes
  pub local_popped : (t : Instance) (o : Origin) → Local library q (job t o ∷ J) n m → Local library q J n m
  local_popped t o i = record {
    ids = omega (arith, i.ids);
    numbers = i.numbers;
    few = i.few;
    kinds = i.kinds;
    grounds = i.grounds;
    sounds = omega (arith, i.sounds);
    failures = i.failures;
  }

  -- M: an instance more
  pub local_made : (x : Instance) (o : Origin) → x.id ≡ m + 1 → Sound library x → Local library q J n m → Local library q (job x o ∷ J) n (m + 1)
  local_made x o e s i = record {
    ids = omega (
      arith,
      i.ids,
      ap (λ k. bit (not (is_within (m + 1) k))) e,
      ap (λ b. bit (not b)) (within_new m),
      total_le (λ j. bit (not (is_within (m + 1) j.instance.id))) (λ j. bit (not (is_within m j.instance.id))) J (λ j. within_more m j.instance.id),
    );
    numbers = i.numbers;
    few = i.few;
    kinds = i.kinds;
    grounds = i.grounds;
    sounds = omega (arith, i.sounds, ap (λ b. bit (not b)) (sound_both library x s));
    failures = i.failures;
  }

  pub top_sound : (t : Instance) (o : Origin) → Local library q (job t o ∷ J) n m → Sound library t
  top_sound t o i = sound_parts library t (bit_every (is_sound library t) (omega (arith, i.sounds)))
