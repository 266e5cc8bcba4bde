-- What the stacks' changes mean in the view.
use Prim.Native.Nat.{ℕ, zero, suc, ◌+◌, ◌-◌, ◌<◌, ◌≤◌, min}
use native.Mathlib.Numerals.{add-one}
use native.Mathlib.Omega.{arith}
use mathlib.Core.Path.{◌≡◌, refl, ap, sym, ◌∙◌}
use mathlib.Core.List.{List, [], ◌∷◌, ◌++◌, map, map-append}
use lib.ListN.{length, take, set, get_or}
use lib.Seq.{take-suc-set, take-set-lt, set_out, get_or-set_same, get_or-set_other}
use lib.Dec.{ltb}
use borrow.Author.Tests.{lt-ltb, ltb-true, ltb-false}
use Rattle.lists.specs.Gap.{remove_at}
use Rattle.lists.proofs.BoolLaws.{by_cases}
use Rattle.lists.proofs.GapLaws.{gap_take, gap_last, remove_at-past}
use Rattle.lists.proofs.ArrayLaws.{map-set, map-removed}
use Rattle.model.specs.declared.Instance.{Instance}
use Rattle.model.specs.State.{Intention}
use Rattle.model.specs.Event.{pushed}
use Rattle.model.specs.End.{popped}
use Rattle.state.specs.declared.Stack.{Stack}
use Rattle.state.specs.declared.State.{State}
use Rattle.state.specs.View.{no_instance, depth_of, down, view_stack, stacked_of, view_stacks}
use Rattle.state.specs.Stacks.{push, pop, under_top, open_last, put_at, drop_at, turn_last}
use Rattle.state.proofs.ViewLaws.{length-stacks}

-- ---- One stack

down-set : (n : ℕ) (xs : List Instance) (i : ℕ) (x : Instance) → n ≤ i → down n (set xs i x) ≡ down n xs
unfolding down
down-set zero xs i x h = refl
down-set (suc n) xs i x h =
    let e : get_or (set xs i x) n no_instance ≡ get_or xs n no_instance = get_or-set_other xs i n x no_instance (λ q. absurd (omega arith)) in
    rw (e, down-set n xs i x (omega arith))

down-push : (n : ℕ) (xs : List Instance) (x : Instance) → n < length xs → down (n + 1) (set xs n x) ≡ x ∷ down n xs
unfolding down
down-push n xs x h = rw (add-one n, get_or-set_same xs n x no_instance h, down-set n xs n x (omega arith))

down-pop : (n : ℕ) (xs : List Instance) → 0 < n → down n xs ≡ get_or xs (n - 1) no_instance ∷ down (n - 1) xs
unfolding down
down-pop zero xs h = absurd (omega arith)
down-pop (suc n) xs h = let e : suc n - 1 ≡ n = omega arith in rw e

pub length-down : (n : ℕ) (xs : List Instance) → length (down n xs) ≡ n
unfolding down
length-down zero xs = refl
length-down (suc n) xs = ap suc (length-down n xs)

module _ (stack : Stack) where
  -- one instance more on top
  pub push-view : (x : Instance) → length stack.below ≡ 7 → stack.depth < 7 → view_stack (push stack x) ≡ pushed x (view_stack stack)
  unfolding push
  push-view x len h =
      let now : min stack.depth 7 ≡ stack.depth = omega arith in
      let next : min (stack.depth + 1) 7 ≡ stack.depth + 1 = omega arith in
      let below = down-push stack.depth stack.below stack.top (omega arith) in
      rw (lt-ltb stack.depth 7 h, next, now) (λ i. record { external = stack.external; top = x; below = below i })

  -- the instances below the top are the one under it and the rest
  pub below_view : 0 < depth_of stack → (view_stack stack).below ≡ under_top stack ∷ (view_stack (pop stack (under_top stack))).below
  unfolding under_top pop
  below_view h =
      let now : min (depth_of stack - 1) 7 ≡ depth_of stack - 1 = omega arith in
      rw now (down-pop (depth_of stack) stack.below h)

  -- the stack without its top: the one below is changed
  pub pop-view : (change : Instance → Instance) → 0 < depth_of stack
      → popped stack.external change (view_stack stack).below ≡ view_stack (pop stack (change (under_top stack))) ∷ []
  unfolding popped pop under_top
  pop-view change h =
      let now : min (depth_of stack - 1) 7 ≡ depth_of stack - 1 = omega arith in
      rw (down-pop (depth_of stack) stack.below h, now)

  -- an emptied stack goes
  pub pop-none : (change : Instance → Instance) → depth_of stack ≡ 0 → popped stack.external change (view_stack stack).below ≡ []
  unfolding popped down
  pop-none change h = rw h

-- ---- The stacks

module _ (s : State) (len : length s.stacks ≡ 8) where
  pub open_view : (stack : Stack) → s.stacked < 8 → view_stacks (open_last s stack) ≡ view_stacks s ++ (view_stack stack ∷ [])
  unfolding open_last
  open_view stack h =
      let now : min s.stacked 8 ≡ s.stacked = omega arith in
      let next : min (s.stacked + 1) 8 ≡ suc s.stacked = omega arith in
      rw (lt-ltb s.stacked 8 h, next, now)
      (ap (map view_stack) (take-suc-set s.stacks s.stacked stack (omega arith)) ∙ map-append view_stack (take s.stacked s.stacks) (stack ∷ []))

  pub put_view : (place : ℕ) (stack : Stack) → view_stacks (put_at s place stack) ≡ set (view_stacks s) place (view_stack stack)
  unfolding put_at
  put_view place stack = by_cases (ltb place (stacked_of s))
      (λ h. rw h (ap (map view_stack) (take-set-lt (stacked_of s) s.stacks place stack (ltb-true place (stacked_of s) h))
      ∙ map-set view_stack (take (stacked_of s) s.stacks) place stack))
      (λ h. rw h (sym (set_out (view_stacks s) place (view_stack stack) (omega (arith, length-stacks s len, ltb-false place (stacked_of s) h)))))

  pub drop-view : (place : ℕ) → view_stacks (drop_at s place) ≡ remove_at place (view_stacks s)
  unfolding drop_at
  drop-view place = by_cases (ltb place (stacked_of s))
      (λ h. let low = ltb-true place (stacked_of s) h in
      let now : min (stacked_of s - 1) 8 ≡ stacked_of s - 1 = omega arith in
      rw (h, now) (ap (map view_stack) (gap_take s.stacks place (stacked_of s) low (omega arith)) ∙ map-removed view_stack place (take (stacked_of s) s.stacks)))
      (λ h. rw h (sym (remove_at-past place (view_stacks s) (omega (arith, length-stacks s len, ltb-false place (stacked_of s) h)))))

  -- the stack at a place goes, and another is last in turn
  pub last_view : (place : ℕ) (stack : Stack) → place < stacked_of s
      → view_stacks (turn_last s place stack) ≡ remove_at place (view_stacks s) ++ (view_stack stack ∷ [])
  unfolding turn_last
  last_view place stack low =
      let now : min (stacked_of s) 8 ≡ stacked_of s = omega arith in
      rw (lt-ltb place (stacked_of s) low, now)
      (ap (map view_stack) (gap_last s.stacks place (stacked_of s) low (omega arith) stack)
      ∙ map-append view_stack (remove_at place (take (stacked_of s) s.stacks)) (stack ∷ [])
      ∙ ap (λ (ks : List Intention). ks ++ (view_stack stack ∷ [])) (map-removed view_stack place (take (stacked_of s) s.stacks)))
