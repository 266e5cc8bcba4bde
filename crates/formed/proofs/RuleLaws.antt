-- The tests of one event, instance or stack, way by way: each test on the way passed, and the one that fails or decides.
use Prim.Native.Nat.{ℕ, ◌+◌, ◌*◌, ◌/◌, ◌^◌, ◌<◌, ◌≤◌, min}
use native.Mathlib.Nat.{div-eq_of_lt, div-lt_iff_lt-mul, one-mul}
use native.Mathlib.Omega.{arith}
use mathlib.Core.Path.{◌≡◌, ap, sym, ◌∙◌}
use mathlib.Core.Bool.{Bool, true, false, not, ◌&&◌, and-false, and-true}
use mathlib.Core.List.{List}
use lib.ListN.{length, take, length-take}
use lib.Dec.{leb, ltb, eqb}
use lib.Pow.{pow_pos, pow_mono}
use borrow.Author.Tests.{le-leb, lt-leb, lt-ltb, eq-eqb, ne_eqb, ltb-true, ltb-false}
use Rattle.std.specs.List.{list_all}
use Rattle.lists.proofs.BoolLaws.{by_cases}
use Rattle.lists.proofs.AndLaws.{and_first}
use Rattle.model.specs.declared.Instance.{Instance}
use Rattle.model.specs.Instance.{is_suspended}
use Rattle.model.specs.WellFormed.{is_stack}
use Rattle.state.specs.declared.Stack.{Stack}
use Rattle.state.specs.View.{most_below, depth_of, down, view_stack}
use Rattle.state.proofs.StackLaws.{length-down}
use Rattle.formed.proofs.ListLaws.{all-down}

-- ---- An event

pub all_plans : (failed plans : ℕ) → failed < 4294967296 → 32 ≤ plans → true ≡ ltb failed (2 ^ plans)
all_plans failed plans h g =
    let p : 2 ^ 32 ≤ 2 ^ plans = pow_mono {i = 32} {j = plans} g in
    sym (lt-ltb failed (2 ^ plans) (omega arith))

-- no bit is left where the bits of existing plans are shifted out
pub shifted_out : (failed plans : ℕ) → eqb (failed / 2 ^ plans) 0 ≡ ltb failed (2 ^ plans)
shifted_out failed plans =
    by_cases (ltb failed (2 ^ plans))
    (λ e. rw e (eq-eqb (failed / 2 ^ plans) 0 (div-eq_of_lt (ltb-true failed (2 ^ plans) e))))
    (λ e. rw e (ne_eqb (failed / 2 ^ plans) 0 (λ z. left_over z (ltb-false failed (2 ^ plans) e))))
  where
    left_over : failed / 2 ^ plans ≡ 0 → 2 ^ plans ≤ failed → ⊥
    left_over z h =
        let small : failed / 2 ^ plans < 1 = omega arith in
        let below : failed < 1 * 2 ^ plans = (div-lt_iff_lt-mul (pow_pos plans)).0 small in
        omega (arith, (rw one-mul at below))

-- ---- A stack

module _ (stack : Stack) where
  -- the instances below the top, in either order
  pub below_asleep : (below : List Instance) (asleep : Bool) → length below ≡ depth_of stack → stack.depth ≤ 7 → below ≡ take (depth_of stack) stack.below
      → asleep ≡ list_all (λ (x : Instance). is_suspended x.status) below → list_all (λ (x : Instance). is_suspended x.status) (down stack.depth stack.below) ≡ asleep
  below_asleep below asleep len fits b a =
      let e : depth_of stack ≡ stack.depth = omega arith in
      let long : stack.depth ≤ length stack.below = omega (arith, len, ap length b, length-take (depth_of stack) stack.below) in
      all-down (λ (x : Instance). is_suspended x.status) stack.depth stack.below long
      ∙ sym (a ∙ ap (list_all (λ (x : Instance). is_suspended x.status)) (b ∙ ap (λ (n : ℕ). take n stack.below) e))

  pub too_deep : 7 < stack.depth → false ≡ (leb stack.depth most_below && is_stack (view_stack stack))
  too_deep h = rw (lt-leb stack.depth 7 h)

  module _ (fits : stack.depth ≤ 7) (asleep : Bool) (a : list_all (λ (x : Instance). is_suspended x.status) (down stack.depth stack.below) ≡ asleep) where
    in_parts : (leb stack.depth most_below && is_stack (view_stack stack))
        ≡ (asleep && (leb (stack.depth + 1) 8 && not (is_suspended stack.top.status && leb 8 (stack.depth + 1))))
    unfolding is_stack
    in_parts =
        let e : min stack.depth 7 ≡ stack.depth = omega arith in
        rw (le-leb stack.depth 7 fits, e, length-down stack.depth stack.below, a)

    pub awake_below : asleep ≡ false → false ≡ (leb stack.depth most_below && is_stack (view_stack stack))
    awake_below h = sym (in_parts ∙ and_first asleep _ h)

    pub low_stack : asleep ≡ true → stack.depth < 7 → true ≡ (leb stack.depth most_below && is_stack (view_stack stack))
    low_stack h low =
        sym (in_parts ∙ rw (h, le-leb (stack.depth + 1) 8 (omega arith), lt-leb 8 (stack.depth + 1) (omega arith), and-false))

    pub full-stack : asleep ≡ true → 7 ≤ stack.depth → not (is_suspended stack.top.status) ≡ (leb stack.depth most_below && is_stack (view_stack stack))
    full-stack h high =
        sym (in_parts ∙ rw (h, le-leb (stack.depth + 1) 8 (omega arith), le-leb 8 (stack.depth + 1) (omega arith), and-true))
