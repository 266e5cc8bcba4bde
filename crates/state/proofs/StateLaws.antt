-- What a change of the queue or the stacks leaves alone, and the whole view after it.
use Prim.Native.Nat.{ℕ, ◌+◌, ◌-◌, ◌<◌}
use mathlib.Core.Path.{◌≡◌, refl, ap, ◌∙◌}
use mathlib.Core.Bool.{Bool, true, false, cond}
use mathlib.Core.List.{List, [], ◌∷◌, ◌++◌}
use lib.ListN.{length, set}
use lib.Dec.{ltb}
use Rattle.lists.specs.Gap.{remove_at, close_gap}
use Rattle.model.specs.declared.Event.{Event}
use Rattle.model.specs.State.{requeued, restacked}
use Rattle.state.specs.declared.Stack.{Stack}
use Rattle.state.specs.declared.State.{State}
use Rattle.state.specs.View.{view_stack, queued_of, stacked_of, view_queue, view_stacks, view_state}
use Rattle.state.specs.Queue.{with_queue, enqueue, dequeue, put_event}
use Rattle.state.specs.Stacks.{with_stacks, open_last, put_at, drop_at, turn_last}
use Rattle.state.proofs.QueueLaws.{enqueue-view, dequeue-view, put_event-view}
use Rattle.state.proofs.StackLaws.{open_view, put_view, drop-view, last_view}

frame_queue : (b : Bool) (s : State) (queue : List Event) (queued : ℕ)
    → view_state (cond b (with_queue s queue queued) s) ≡ requeued (view_state s) (view_queue (cond b (with_queue s queue queued) s))
frame_queue true s queue queued = refl
frame_queue false s queue queued = refl

frame_stacked : (b : Bool) (s : State) (queue : List Event) (queued : ℕ) → stacked_of (cond b (with_queue s queue queued) s) ≡ stacked_of s
frame_stacked true s queue queued = refl
frame_stacked false s queue queued = refl

frame_stacks : (b : Bool) (s : State) (stacks : List Stack) (stacked : ℕ)
    → view_state (cond b (with_stacks s stacks stacked) s) ≡ restacked (view_state s) (view_stacks (cond b (with_stacks s stacks stacked) s))
frame_stacks true s stacks stacked = refl
frame_stacks false s stacks stacked = refl

module _ (s : State) where
  pub enqueue-state : (event : Event) → length s.queue ≡ 88 → s.queued < 88 → view_state (enqueue s event) ≡ requeued (view_state s) (view_queue s ++ (event ∷ []))
  unfolding enqueue
  enqueue-state event len h =
      frame_queue (ltb s.queued 88) s (set s.queue s.queued event) (s.queued + 1) ∙ ap (requeued (view_state s)) (enqueue-view s len event h)

  pub dequeue-state : (place : ℕ) → length s.queue ≡ 88 → view_state (dequeue s place) ≡ requeued (view_state s) (remove_at place (view_queue s))
  unfolding dequeue
  dequeue-state place len =
      frame_queue (ltb place (queued_of s)) s (close_gap place (queued_of s - 1) s.queue) (queued_of s - 1) ∙ ap (requeued (view_state s)) (dequeue-view s len place)

  pub put_event-state : (place : ℕ) (event : Event) → length s.queue ≡ 88 → view_state (put_event s place event) ≡ requeued (view_state s) (set (view_queue s) place event)
  unfolding put_event
  put_event-state place event len =
      frame_queue (ltb place (queued_of s)) s (set s.queue place event) s.queued ∙ ap (requeued (view_state s)) (put_event-view s len place event)

  -- a change of the queue leaves the number of stacks alone

  pub enqueue_stacked : (event : Event) → stacked_of (enqueue s event) ≡ stacked_of s
  unfolding enqueue
  enqueue_stacked event = frame_stacked (ltb s.queued 88) s (set s.queue s.queued event) (s.queued + 1)

  pub dequeue_stacked : (place : ℕ) → stacked_of (dequeue s place) ≡ stacked_of s
  unfolding dequeue
  dequeue_stacked place = frame_stacked (ltb place (queued_of s)) s (close_gap place (queued_of s - 1) s.queue) (queued_of s - 1)

  pub put_event_stacked : (place : ℕ) (event : Event) → stacked_of (put_event s place event) ≡ stacked_of s
  unfolding put_event
  put_event_stacked place event = frame_stacked (ltb place (queued_of s)) s (set s.queue place event) s.queued

  pub open_state : (stack : Stack) → length s.stacks ≡ 8 → s.stacked < 8 → view_state (open_last s stack) ≡ restacked (view_state s) (view_stacks s ++ (view_stack stack ∷ []))
  unfolding open_last
  open_state stack len h =
      frame_stacks (ltb s.stacked 8) s (set s.stacks s.stacked stack) (s.stacked + 1) ∙ ap (restacked (view_state s)) (open_view s len stack h)

  -- another stack at a place leaves all else alone
  pub put_frame : (place : ℕ) (stack : Stack) → view_state (put_at s place stack) ≡ restacked (view_state s) (view_stacks (put_at s place stack))
  unfolding put_at
  put_frame place stack = frame_stacks (ltb place (stacked_of s)) s (set s.stacks place stack) s.stacked

  pub put-state : (place : ℕ) (stack : Stack) → length s.stacks ≡ 8 → view_state (put_at s place stack) ≡ restacked (view_state s) (set (view_stacks s) place (view_stack stack))
  put-state place stack len = put_frame place stack ∙ ap (restacked (view_state s)) (put_view s len place stack)

  pub drop-state : (place : ℕ) → length s.stacks ≡ 8 → view_state (drop_at s place) ≡ restacked (view_state s) (remove_at place (view_stacks s))
  unfolding drop_at
  drop-state place len =
      frame_stacks (ltb place (stacked_of s)) s (close_gap place (stacked_of s - 1) s.stacks) (stacked_of s - 1) ∙ ap (restacked (view_state s)) (drop-view s len place)

  pub last_state : (place : ℕ) (stack : Stack) → length s.stacks ≡ 8 → place < stacked_of s
      → view_state (turn_last s place stack) ≡ restacked (view_state s) (remove_at place (view_stacks s) ++ (view_stack stack ∷ []))
  unfolding turn_last
  last_state place stack len low =
      frame_stacks (ltb place (stacked_of s)) s (set (close_gap place (stacked_of s - 1) s.stacks) (stacked_of s - 1) stack) (stacked_of s)
      ∙ ap (restacked (view_state s)) (last_view s len place stack low)
