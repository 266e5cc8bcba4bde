-- What the searches over a state's arrays answer, as places in the lists that they mean.
use Prim.Native.Nat.{ℕ, suc, ◌+◌, ◌<◌}
use native.Mathlib.Omega.{arith}
use mathlib.Core.Path.{◌≡◌, refl, ap, sym, ◌∙◌}
use mathlib.Core.Bool.{true, false}
use mathlib.Core.List.{List, [], ◌∷◌, map}
use lib.ListN.{length, take, drop, get_or, length-append}
use lib.Seq.{drop-cons}
use native.Mathlib.Numerals.{add-one}
use Rattle.std.specs.List.{list_any}
use Rattle.model.specs.declared.Instance.{Instance}
use Rattle.model.specs.declared.Origin.{Origin}
use Rattle.model.specs.declared.Origin.TheVariants.{External}
use Rattle.model.specs.Live.{same_origin, live, jobs_on, jobs_of, serves}
use Rattle.state.specs.declared.Stack.{Stack}
use Rattle.state.specs.View.{depth_of, down, view_stack}
use Rattle.state.specs.Search.{has_goal}
use Rattle.state.proofs.StackLaws.{length-down}
use Rattle.state.proofs.ViewLaws.{served_stack}

-- a job for each instance
jobs-length : (external : ℕ) (xs : List Instance) → length (jobs_on external xs) ≡ length xs
unfolding jobs_on
jobs-length external [] = refl
jobs-length external (x ∷ xs) = ap suc (jobs-length external xs)

-- the live instances from the stack at i on: its own, and those of the stacks after it
pub live_more : (stacks : List Stack) (i depth : ℕ) (d : Stack) → i < length stacks → depth ≡ depth_of (get_or stacks i d)
    → length (live (map view_stack (drop i stacks))) ≡ depth + 1 + length (live (map view_stack (drop (i + 1) stacks)))
unfolding live
live_more stacks i depth d low deep =
    let k = get_or stacks i d in
    let own = jobs-length k.external (k.top ∷ down (depth_of k) k.below) in
    rw (add-one i)
    (ap (λ (ks : List Stack). length (live (map view_stack ks))) (drop-cons stacks i d low)
    ∙ length-append (jobs_of (view_stack k)) (live (map view_stack (drop (suc i) stacks)))
    ∙ omega (arith, own, deep, length-down (depth_of k) k.below))

module _ (origin : Origin) (stack : Stack) (len : length stack.below ≡ 7) where
  -- the bottom serves it
  pub served_bottom : same_origin origin (External stack.external) ≡ true → true ≡ list_any (serves origin) (jobs_of (view_stack stack))
  served_bottom e = sym (served_stack origin stack len ∙ rw e)

  -- else one above the instance whose goal it is
  pub served_above : same_origin origin (External stack.external) ≡ false
      → list_any (has_goal origin) (take (depth_of stack) stack.below) ≡ list_any (serves origin) (jobs_of (view_stack stack))
  served_above e = sym (served_stack origin stack len ∙ rw e)
