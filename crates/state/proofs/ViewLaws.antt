-- Laws of the view: lengths, and searches over a state's arrays instead of the lists that they mean.
use Prim.Native.Nat.{ℕ, zero, suc, ◌<◌, ◌≤◌, min}
use native.Mathlib.Omega.{arith}
use mathlib.Core.Path.{◌≡◌, refl, ap, sym, ◌∙◌}
use mathlib.Core.Bool.{Bool, true, false, ◌||◌, or_assoc, or-false, or_comm}
use mathlib.Core.List.{List, [], ◌∷◌, ◌++◌, map}
use lib.ListN.{length, take, get_or, length-take, length-map, get_or-map}
use lib.Seq.{take-suc, take_all, get_or-take}
use Rattle.std.proofs.lemmas.List.{take_min}
use Rattle.std.specs.List.{list_any}
use Rattle.model.specs.declared.Instance.{Instance}
use Rattle.model.specs.declared.Origin.{Origin}
use Rattle.model.specs.declared.Origin.TheVariants.{External}
use Rattle.lists.specs.Counts.{each}
use Rattle.model.specs.Live.{same_origin, Job, jobs_on, jobs_of, live, serves}
use Rattle.state.specs.declared.Stack.{Stack}
use Rattle.state.specs.declared.State.{State}
use Rattle.state.specs.View.{no_instance, depth_of, down, view_stack, stacked_of, queued_of, view_queue, view_stacks}
use Rattle.state.specs.Search.{has_goal}

-- ---- Lengths

pub length_queue : (s : State) → length s.queue ≡ 88 → length (view_queue s) ≡ queued_of s
length_queue s h = length-take (queued_of s) s.queue ∙ omega arith

pub length-stacks : (s : State) → length s.stacks ≡ 8 → length (view_stacks s) ≡ stacked_of s
length-stacks s h = length-map (take (stacked_of s) s.stacks) view_stack ∙ length-take (stacked_of s) s.stacks ∙ omega arith

-- the first stacks of a slice
pub first_stacks : (stacks : List Stack) (n : ℕ) → n ≡ min (length stacks) 8 → take n stacks ≡ take 8 stacks
first_stacks stacks n e =
    let turned : n ≡ min 8 (length stacks) = omega (arith, e) in
    ap (λ (m : ℕ). take m stacks) turned ∙ take_min 8 stacks

-- the stacks in use are the first of themselves
pub standing_all : (s : State) (stacks : List Stack) → stacks ≡ take (stacked_of s) s.stacks → length stacks ≡ stacked_of s
    → map view_stack (take 8 stacks) ≡ view_stacks s
standing_all s stacks e size = ap (map view_stack) (take_all 8 stacks (omega (arith, size)) ∙ e)

-- ---- Tests on lists

module _ {A : Type 0} (test : A → Bool) where
  pub any-joined : (xs ys : List A) → list_any test (xs ++ ys) ≡ (list_any test xs || list_any test ys)
  any-joined [] ys = refl
  any-joined (x ∷ xs) ys = ap (λ (b : Bool). test x || b) (any-joined xs ys) ∙ sym (or_assoc (test x) (list_any test xs) (list_any test ys))

-- ---- Instances below a top

-- the same instances, in the other order
pub any-down : (test : Instance → Bool) (n : ℕ) (xs : List Instance) → n ≤ length xs → list_any test (down n xs) ≡ list_any test (take n xs)
unfolding down
any-down test zero xs h = refl
any-down test (suc n) xs h =
    ap (λ (b : Bool). test (get_or xs n no_instance) || b) (any-down test n xs (omega arith))
    ∙ or_comm (test (get_or xs n no_instance)) (list_any test (take n xs))
    ∙ sym (ap (list_any test) (take-suc xs n no_instance (omega arith)) ∙ any-joined test (take n xs) (get_or xs n no_instance ∷ [])
    ∙ ap (λ (b : Bool). list_any test (take n xs) || b) (or-false (test (get_or xs n no_instance))))

-- ---- Who serves an event

-- an instance of a stack serves it: the bottom, or one above the instance whose goal it is
served_on : (origin : Origin) (external : ℕ) (x : Instance) (below : List Instance)
    → list_any (serves origin) (jobs_on external (x ∷ below)) ≡ (same_origin origin (External external) || list_any (has_goal origin) below)
unfolding jobs_on
served_on origin external x [] = refl
served_on origin external x (y ∷ below) =
    ap (λ (b : Bool). has_goal origin y || b) (served_on origin external y below)
    ∙ swap (has_goal origin y) (same_origin origin (External external)) (list_any (has_goal origin) below)
  where
    swap : (a b c : Bool) → (a || (b || c)) ≡ (b || (a || c))
    swap true true c = refl
    swap true false c = refl
    swap false b c = refl

pub served_stack : (origin : Origin) (stack : Stack) → length stack.below ≡ 7
    → list_any (serves origin) (jobs_of (view_stack stack)) ≡ (same_origin origin (External stack.external) || list_any (has_goal origin) (take (depth_of stack) stack.below))
served_stack origin stack h =
    served_on origin stack.external stack.top (down (depth_of stack) stack.below)
    ∙ ap (λ (b : Bool). same_origin origin (External stack.external) || b) (any-down (has_goal origin) (depth_of stack) stack.below (omega arith))

-- an instance of some stack
pub live-any : (test : Job → Bool) (stacks : List Stack) → list_any test (live (map view_stack stacks)) ≡ list_any (λ k. list_any test (jobs_of (view_stack k))) stacks
unfolding live
live-any test [] = refl
live-any test (k ∷ stacks) =
    any-joined test (jobs_of (view_stack k)) (each jobs_of (map view_stack stacks))
    ∙ ap (λ (b : Bool). list_any test (jobs_of (view_stack k)) || b) (live-any test stacks)

-- ---- Elements

-- the stack at a place of the view
pub stack_at_lem : (s : State) (i : ℕ) (d : Stack) → i < stacked_of s → get_or (view_stacks s) i (view_stack d) ≡ view_stack (get_or s.stacks i d)
stack_at_lem s i d h = get_or-map view_stack (take (stacked_of s) s.stacks) i d ∙ ap view_stack (get_or-take (stacked_of s) s.stacks i d h)
