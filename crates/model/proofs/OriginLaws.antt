-- Origins that are the same are equal, and every origin is the same as itself.
use Prim.Native.Nat.{ℕ, ◌+◌, ◌-◌}
use mathlib.Core.Path.{◌≡◌, refl, sym, ap, ◌∙◌}
use mathlib.Core.Bool.{true, false, ◌&&◌}
use native.Mathlib.Omega.{arith}
use lib.Dec.{eqb}
use borrow.Author.Tests.{eqb-true, eq-eqb}
use Rattle.lists.proofs.BoolLaws.{by_cases, both_ways, and_parts, and_both}
use Rattle.model.specs.declared.Instance.{Instance}
use Rattle.model.specs.declared.Origin.{Origin}
use Rattle.model.specs.declared.Origin.TheVariants.{External, Goal}
use Rattle.model.specs.declared.Status.{Status}
use Rattle.model.specs.Instance.{try_next}
use Rattle.model.specs.Live.{is_goal, same_origin, goal_of}

pub eqb_same : (n : ℕ) → eqb n n ≡ true
eqb_same n = eq-eqb n n refl

pub origin_equal : (o u : Origin) → same_origin o u ≡ true → o ≡ u
unfolding same_origin
origin_equal (External n) (External m) e = ap External (eqb-true n m e)
origin_equal (External n) (Goal j t c) e = both_ways e refl
origin_equal (Goal i s b) (External m) e = both_ways e refl
origin_equal (Goal i s b) (Goal j t c) e =
    let p = and_parts (eqb i j) (eqb s t && eqb b c) e in
    let q = and_parts (eqb s t) (eqb b c) p.1 in
    let x = eqb-true i j p.0 in
    let y = eqb-true s t q.0 in
    let z = eqb-true b c q.1 in
    cc

pub origin_same : (o : Origin) → same_origin o o ≡ true
unfolding same_origin
origin_same (External n) = eqb_same n
origin_same (Goal i s b) = and_both (eqb i i) (eqb s s && eqb b b) (eqb_same i) (and_both (eqb s s) (eqb b b) (eqb_same s) (eqb_same b))

-- an equation as a test
pub same_origin_lem : (o u : Origin) → o ≡ u → same_origin o u ≡ true
same_origin_lem o u e = rw (← e) (origin_same o)

-- two that differ differ turned round
pub origin_turned : (o u : Origin) → same_origin o u ≡ false → same_origin u o ≡ false
origin_turned o u e = by_cases (same_origin u o) (λ t. both_ways (same_origin_lem o u (sym (origin_equal u o t))) e) (λ f. f)

-- an external event is no goal
pub goal_external : (o u : Origin) → is_goal o ≡ true → is_goal u ≡ false → same_origin o u ≡ false
unfolding same_origin
goal_external (External n) u p q = both_ways p refl
goal_external (Goal i s b) (External m) p q = refl
goal_external (Goal i s b) (Goal j t c) p q = both_ways refl q

-- the goal of an instance that has just tried its next branch
pub goal_tried : (x : Instance) (status : Status) → goal_of (try_next status x) ≡ Goal x.id x.state x.tried
goal_tried x status = let e : x.tried + 1 - 1 ≡ x.tried = omega arith in ap (Goal x.id x.state) e

-- and the test is the same turned round
pub same_turned : (o u : Origin) → same_origin o u ≡ same_origin u o
same_turned o u = by_cases (same_origin o u)
    (λ e. e ∙ sym (same_origin_lem u o (sym (origin_equal o u e))))
    (λ e. e ∙ sym (origin_turned o u e))
