-- The counts of a state still fit after each of its changes.
use Prim.Native.Nat.{ℕ, suc, ◌+◌, ◌-◌, ◌<◌, ◌≤◌, min}
use native.Mathlib.Omega.{arith}
use mathlib.Core.Path.{◌≡◌, refl, ap, ◌∙◌}
use mathlib.Core.Bool.{true}
use mathlib.Core.List.{List, [], ◌∷◌, ◌++◌}
use lib.ListN.{length, take, set, get_or, length-take}
use lib.Seq.{take-suc-set, take-set-lt, get_or-take}
use lib.Dec.{ltb}
use borrow.Author.Tests.{le-leb, leb-true, ltb-true}
use Rattle.std.specs.List.{list_all}
use Rattle.lists.specs.Gap.{remove_at, close_gap}
use Rattle.lists.proofs.BoolLaws.{by_cases, and_both}
use Rattle.lists.proofs.AllLaws.{all_at, all_set}
use Rattle.lists.proofs.TestLaws.{all-joined, all-removed}
use Rattle.lists.proofs.GapLaws.{gap_take, gap_last}
use Rattle.model.specs.declared.Event.{Event}
use Rattle.model.specs.State.{most_stacks, most_queued}
use Rattle.state.specs.declared.Stack.{Stack}
use Rattle.state.specs.declared.State.{State}
use Rattle.state.specs.View.{queued_of, stacked_of, counts_fit}
use Rattle.state.specs.Queue.{with_queue, enqueue, dequeue, put_event}
use Rattle.state.specs.Stacks.{with_stacks, open_last, put_at, drop_at, turn_last}
use Rattle.state.proofs.CountParts.{is_shallow, Counts, counts-parts, counts_whole}

one_shallow : (stack : Stack) → stack.depth ≤ 7 → list_all is_shallow (stack ∷ []) ≡ true
one_shallow stack low = and_both (is_shallow stack) true (le-leb _ _ low) refl

module _ (s : State) (h : counts_fit s ≡ true) where
  counts : Counts s
  counts = counts-parts s h

  -- ---- The queue

  counts_queue : (queue : List Event) (n : ℕ) → n ≤ 88 → counts_fit (with_queue s queue n) ≡ true
  counts_queue queue n few =
      counts_whole (with_queue s queue n) (record { beliefs = counts.beliefs; queued = few; stacked = counts.stacked; depths = counts.depths })

  pub counts-enqueue : (event : Event) → counts_fit (enqueue s event) ≡ true
  unfolding enqueue
  counts-enqueue event = by_cases (ltb s.queued most_queued)
      (λ p. rw p (counts_queue (set s.queue s.queued event) (s.queued + 1) (omega (arith, ltb-true s.queued most_queued p))))
      (λ p. rw p h)

  pub counts-dequeue : (place : ℕ) → counts_fit (dequeue s place) ≡ true
  unfolding dequeue
  counts-dequeue place = by_cases (ltb place (queued_of s))
      (λ p. rw p (counts_queue (close_gap place (queued_of s - 1) s.queue) (queued_of s - 1) (omega arith)))
      (λ p. rw p h)

  pub counts-put_event : (place : ℕ) (event : Event) → counts_fit (put_event s place event) ≡ true
  unfolding put_event
  counts-put_event place event = by_cases (ltb place (queued_of s))
      (λ p. rw p (counts_queue (set s.queue place event) s.queued counts.queued))
      (λ p. rw p h)

  -- ---- The stacks

  pub counts_depth : (place : ℕ) (d : Stack) → length s.stacks ≡ 8 → place < stacked_of s → (get_or s.stacks place d).depth ≤ 7
  counts_depth place d len low =
      let deep = all_at is_shallow (take (stacked_of s) s.stacks) place d counts.depths (omega (arith, length-take (stacked_of s) s.stacks)) in
      leb-true _ _ (rw (get_or-take (stacked_of s) s.stacks place d low) at deep)

  counts-stacks : (stacks : List Stack) (n : ℕ) → n ≤ 8 → (kept : List Stack) → take (min n 8) stacks ≡ kept → list_all is_shallow kept ≡ true
      → counts_fit (with_stacks s stacks n) ≡ true
  counts-stacks stacks n few kept e deep =
      counts_whole (with_stacks s stacks n)
      (record { beliefs = counts.beliefs; queued = counts.queued; stacked = few; depths = ap (list_all is_shallow) e ∙ deep })

  module _ (len : length s.stacks ≡ 8) where
    pub counts_open : (stack : Stack) → stack.depth ≤ 7 → counts_fit (open_last s stack) ≡ true
    unfolding open_last
    counts_open stack low = by_cases (ltb s.stacked most_stacks)
        (λ p. let room = ltb-true s.stacked most_stacks p in
        let now : min s.stacked 8 ≡ s.stacked = omega arith in
        let next : min (s.stacked + 1) 8 ≡ suc s.stacked = omega arith in
        let held : list_all is_shallow (take s.stacked s.stacks) ≡ true = rw now at counts.depths in
        let kept : take (min (s.stacked + 1) 8) (set s.stacks s.stacked stack) ≡ take s.stacked s.stacks ++ (stack ∷ [])
        = rw next (take-suc-set s.stacks s.stacked stack (omega arith)) in
        rw p (counts-stacks (set s.stacks s.stacked stack) (s.stacked + 1) (omega arith) _ kept
        (all-joined is_shallow (take s.stacked s.stacks) (stack ∷ []) held (one_shallow stack low))))
        (λ p. rw p h)

    pub counts-put : (place : ℕ) (stack : Stack) → stack.depth ≤ 7 → counts_fit (put_at s place stack) ≡ true
    unfolding put_at
    counts-put place stack low = by_cases (ltb place (stacked_of s))
        (λ p. rw p (counts-stacks (set s.stacks place stack) s.stacked counts.stacked _
        (take-set-lt (stacked_of s) s.stacks place stack (ltb-true place (stacked_of s) p))
        (all_set is_shallow (take (stacked_of s) s.stacks) place stack counts.depths (le-leb _ _ low))))
        (λ p. rw p h)

    pub counts-drop : (place : ℕ) → counts_fit (drop_at s place) ≡ true
    unfolding drop_at
    counts-drop place = by_cases (ltb place (stacked_of s))
        (λ p. let low = ltb-true place (stacked_of s) p in
        let now : min (stacked_of s - 1) 8 ≡ stacked_of s - 1 = omega arith in
        let kept : take (min (stacked_of s - 1) 8) (close_gap place (stacked_of s - 1) s.stacks) ≡ remove_at place (take (stacked_of s) s.stacks)
        = rw now (gap_take s.stacks place (stacked_of s) low (omega arith)) in
        rw p (counts-stacks (close_gap place (stacked_of s - 1) s.stacks) (stacked_of s - 1) (omega arith) _ kept
        (all-removed is_shallow place (take (stacked_of s) s.stacks) counts.depths)))
        (λ p. rw p h)

    pub counts_last : (place : ℕ) (stack : Stack) → stack.depth ≤ 7 → counts_fit (turn_last s place stack) ≡ true
    unfolding turn_last
    counts_last place stack deep = by_cases (ltb place (stacked_of s))
        (λ p. let low = ltb-true place (stacked_of s) p in
        let now : min (stacked_of s) 8 ≡ stacked_of s = omega arith in
        let others = remove_at place (take (stacked_of s) s.stacks) in
        let moved = set (close_gap place (stacked_of s - 1) s.stacks) (stacked_of s - 1) stack in
        let kept : take (min (stacked_of s) 8) moved ≡ others ++ (stack ∷ []) = rw now (gap_last s.stacks place (stacked_of s) low (omega arith) stack) in
        rw p (counts-stacks moved (stacked_of s) (omega arith) _ kept
        (all-joined is_shallow others (stack ∷ []) (all-removed is_shallow place (take (stacked_of s) s.stacks) counts.depths) (one_shallow stack deep))))
        (λ p. rw p h)
