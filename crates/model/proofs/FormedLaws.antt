-- The facts of a well-formed state do not depend on the order of queue and stacks; what they say of a first stack, and of a pending goal.
use Prim.Native.Nat.{ℕ, ◌+◌, ◌≤◌}
use mathlib.Core.Path.{◌≡◌, sym, ap, ◌∙◌}
use mathlib.Core.List.{List, [], ◌∷◌, ◌++◌}
use mathlib.Core.Bool.{true, ◌&&◌}
use native.Mathlib.Omega.{arith}
use lib.Dec.{leb}
use lib.ListN.{length}
use Rattle.std.specs.List.{list_all}
use Rattle.lists.specs.Counts.{bit, count}
use Rattle.lists.proofs.BoolLaws.{and_parts}
use Rattle.lists.proofs.CountLaws.{bit_left, bit_right, bit_every, total-append, total-length, total_le}
use Rattle.lists.proofs.TestCounts.{any_some}
use Rattle.lists.proofs.LikeLaws.{Like, like_each}
use Rattle.literal.specs.declared.Literal.{Literal}
use Rattle.literal.specs.Literal.{is_ground}
use Rattle.belief.specs.Beliefs.{most_beliefs, are_sound, are_beliefs}
use Rattle.library.specs.Plan.{Library}
use Rattle.model.specs.declared.Event.{Event}
use Rattle.model.specs.declared.Instance.{Instance}
use Rattle.model.specs.declared.Origin.{Origin}
use Rattle.model.specs.State.{Intention}
use Rattle.model.specs.Instance.{is_suspended}
use Rattle.model.specs.Live.{is_goal, same_origin, is_of, goal_of, event_on, Job, jobs_on, jobs_of, live, serves, is_poster}
use Rattle.model.specs.WellFormed.{is_served, is_posted, is_stack}
use Rattle.model.specs.Formed.{Sound, Stacked, Formed}
use Rattle.model.proofs.InstanceLaws.{stack-parts}
use Rattle.model.proofs.LinkedLaws.{job, relink}
use Rattle.model.proofs.LocalLaws.{relocal, top_sound}

abbrev pub stack : ℕ → Instance → List Instance → Intention
stack external top below = record { external = external; top = top; below = below }

pub like_live : {ks ks' : List Intention} → Like ks ks' → Like (live ks) (live ks')
unfolding live
like_live a = like_each jobs_of a

pub reform : {library : Library} {b : List Literal} {q q' : List Event} {ks ks' : List Intention} {n m : ℕ} → Like q q' → Like ks ks'
    → Formed library b q ks n m → Formed library b q' ks' n m
reform {ks = ks} {ks' = ks'} a b i = record {
  table = i.table;
  local = relocal a (like_live b) i.local;
  linked = relink a (like_live b) i.linked;
  few = omega (arith, i.few, total-length ks, total-length ks', b.sums (λ k. 1));
  stacked = sym (b.sums _) ∙ i.stacked;
  taken_small = i.taken_small;
  made_small = i.made_small;
}

pub beliefs_ground : (beliefs : List Literal) → are_beliefs beliefs ≡ true → list_all is_ground beliefs ≡ true
unfolding are_beliefs
beliefs_ground beliefs h = (and_parts (list_all is_ground beliefs) _ (and_parts (leb (length beliefs) most_beliefs) (are_sound beliefs) h).1).0

-- ---- A first stack

-- the live instances of a first stack and of the others
abbrev pub rest : ℕ → List Instance → List Intention → List Job
rest external below ks = jobs_on external below ++ live ks

module _ {library : Library} {b : List Literal} {q : List Event} {external : ℕ} {t : Instance} {below : List Instance} {ks : List Intention} {n m : ℕ}
    (i : Formed library b q (stack external t below ∷ ks) n m) where
  pub first_sound : Sound library t
  unfolding live jobs_on
  first_sound = top_sound t (event_on external below) i.local

  pub first_stacked : Stacked (stack external t below)
  first_stacked = stack-parts (stack external t below) (bit_every (is_stack (stack external t below)) (omega (arith, i.stacked)))

  -- the event that its top serves is queued
  pub first_served : 1 ≤ count (is_of (event_on external below)) q
  unfolding live jobs_on is_served
  first_served =
      let own = any_some (is_served library (job t (event_on external below))) q (bit_every _ (omega (arith, i.linked.served))) in
      omega (arith, total_le (λ e. bit (is_served library (job t (event_on external below)) e)) (λ e. bit (is_of (event_on external below) e)) q (λ e. bit_left (is_of (event_on external below) e) _))

-- ---- The poster of a pending goal is the top of a stack

-- whoever is below a top is served
below_served : (o : Origin) (external : ℕ) (t : Instance) (below : List Instance)
    → count (is_posted o) (jobs_on external below) ≤ count (serves o) (jobs_on external (t ∷ below))
unfolding jobs_on
below_served o external t [] = omega arith
below_served o external t (x ∷ below) = omega (arith, bit_right (is_suspended x.status) (same_origin o (goal_of x)), below_served o external x below)

posters_top : (o : Origin) (ks : List Intention) → count (is_posted o) (live ks) ≤ count (is_poster o) ks + count (serves o) (live ks)
unfolding live jobs_on
posters_top o [] = omega arith
posters_top o (k ∷ ks) = omega (
  arith,
  posters_top o ks,
  below_served o k.external k.top k.below,
  total-append (λ j. bit (is_posted o j)) (jobs_on k.external k.below) (live ks),
  total-append (λ j. bit (serves o j)) (jobs_on k.external k.below) (live ks),
)

pub poster_found : {library : Library} {b : List Literal} {e : Event} {q : List Event} {ks : List Intention} {n m : ℕ}
    → Formed library b (e ∷ q) ks n m
    → is_goal e.origin ≡ true → is_of e.origin e ≡ true → count (serves e.origin) (live ks) ≡ 0 → 1 ≤ count (is_poster e.origin) ks
poster_found {e = e} {ks = ks} i g o z = omega (
  arith,
  i.linked.goals e.origin,
  ap (λ b. bit (b && is_of e.origin e)) g,
  ap bit o,
  posters_top e.origin ks,
)
