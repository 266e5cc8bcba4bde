-- What a change of a row (lists) makes of a state: its queue or its stacks and their count.
use Prim.Native.Nat.{ℕ, ◌+◌, ◌-◌}
use mathlib.Core.Path.{◌≡◌, refl}
use mathlib.Core.Bool.{Bool, true, false, cond}
use mathlib.Core.List.{List}
use lib.ListN.{length, set}
use lib.Dec.{ltb}
use Rattle.lists.specs.Gap.{close_gap}
use Rattle.lists.specs.Row.{in_use}
use Rattle.lists.proofs.ArrayLaws.{length-mapped}
use Rattle.model.specs.declared.Event.{Event}
use Rattle.state.specs.declared.Stack.{Stack}
use Rattle.state.specs.declared.State.{State}
use Rattle.state.specs.View.{queued_of, stacked_of}
use Rattle.state.specs.Queue.{with_queue, enqueue, dequeue, put_event}
use Rattle.state.specs.Stacks.{with_stacks, open_last, put_at, drop_at, turn_last}

-- ---- The state with another row, or as it is

queue_if : (b : Bool) (s : State) (queue : List Event) (queued : ℕ)
    → with_queue s (cond b queue s.queue) (cond b queued s.queued) ≡ cond b (with_queue s queue queued) s
queue_if true s queue queued = refl
queue_if false s queue queued = refl

queue_kept : (b : Bool) (s : State) (queue : List Event) → with_queue s (cond b queue s.queue) s.queued ≡ cond b (with_queue s queue s.queued) s
queue_kept true s queue = refl
queue_kept false s queue = refl

stacks_if : (b : Bool) (s : State) (stacks : List Stack) (stacked : ℕ)
    → with_stacks s (cond b stacks s.stacks) (cond b stacked s.stacked) ≡ cond b (with_stacks s stacks stacked) s
stacks_if true s stacks stacked = refl
stacks_if false s stacks stacked = refl

stacks_kept : (b : Bool) (s : State) (stacks : List Stack) → with_stacks s (cond b stacks s.stacks) s.stacked ≡ cond b (with_stacks s stacks s.stacked) s
stacks_kept true s stacks = refl
stacks_kept false s stacks = refl

-- ---- The queue

module _ (s : State) (len : length s.queue ≡ 88) (queue : List Event) where
  pub enqueued : (queued : ℕ) (event : Event) → queue ≡ cond (ltb s.queued (length s.queue)) (set s.queue s.queued event) s.queue
      → queued ≡ cond (ltb s.queued (length s.queue)) (s.queued + 1) s.queued → with_queue s queue queued ≡ enqueue s event
  unfolding enqueue
  enqueued queued event e n = rw (e, n, len) (queue_if (ltb s.queued 88) s (set s.queue s.queued event) (s.queued + 1))

  pub dequeued : (queued place : ℕ)
      → queue ≡ cond (ltb place (in_use s.queued s.queue)) (close_gap place (in_use s.queued s.queue - 1) s.queue) s.queue
      → queued ≡ cond (ltb place (in_use s.queued s.queue)) (in_use s.queued s.queue - 1) s.queued → with_queue s queue queued ≡ dequeue s place
  unfolding dequeue
  dequeued queued place e n =
      rw (e, n, len) (queue_if (ltb place (queued_of s)) s (close_gap place (queued_of s - 1) s.queue) (queued_of s - 1))

  pub event_put : (place : ℕ) (event : Event) → queue ≡ cond (ltb place (in_use s.queued s.queue)) (set s.queue place event) s.queue
      → with_queue s queue s.queued ≡ put_event s place event
  unfolding put_event
  event_put place event e = rw (e, len) (queue_kept (ltb place (queued_of s)) s (set s.queue place event))

-- ---- The stacks

module _ (s : State) (len : length s.stacks ≡ 8) (stacks : List Stack) where
  pub opened : (stacked : ℕ) (stack : Stack) → stacks ≡ cond (ltb s.stacked (length s.stacks)) (set s.stacks s.stacked stack) s.stacks
      → stacked ≡ cond (ltb s.stacked (length s.stacks)) (s.stacked + 1) s.stacked → with_stacks s stacks stacked ≡ open_last s stack
  unfolding open_last
  opened stacked stack e n = rw (e, n, len) (stacks_if (ltb s.stacked 8) s (set s.stacks s.stacked stack) (s.stacked + 1))

  pub dropped : (stacked place : ℕ)
      → stacks ≡ cond (ltb place (in_use s.stacked s.stacks)) (close_gap place (in_use s.stacked s.stacks - 1) s.stacks) s.stacks
      → stacked ≡ cond (ltb place (in_use s.stacked s.stacks)) (in_use s.stacked s.stacks - 1) s.stacked → with_stacks s stacks stacked ≡ drop_at s place
  unfolding drop_at
  dropped stacked place e n =
      rw (e, n, len) (stacks_if (ltb place (stacked_of s)) s (close_gap place (stacked_of s - 1) s.stacks) (stacked_of s - 1))

  pub stack_put : (place : ℕ) (stack : Stack) → stacks ≡ cond (ltb place (in_use s.stacked s.stacks)) (set s.stacks place stack) s.stacks
      → with_stacks s stacks s.stacked ≡ put_at s place stack
  unfolding put_at
  stack_put place stack e = rw (e, len) (stacks_kept (ltb place (stacked_of s)) s (set s.stacks place stack))

  pub turned : (stacked place : ℕ) (stack : Stack)
      → stacks ≡ cond (ltb place (in_use s.stacked s.stacks)) (set (close_gap place (in_use s.stacked s.stacks - 1) s.stacks) (in_use s.stacked s.stacks - 1) stack) s.stacks
      → stacked ≡ cond (ltb place (in_use s.stacked s.stacks)) (in_use s.stacked s.stacks) s.stacked → with_stacks s stacks stacked ≡ turn_last s place stack
  unfolding turn_last
  turned stacked place stack e n =
      rw (e, n, len) (stacks_if (ltb place (stacked_of s)) s (set (close_gap place (stacked_of s - 1) s.stacks) (stacked_of s - 1) stack) (stacked_of s))

-- what finds each of them: an array's length is told of its elements as they are stored
pub ruleset queue_rows = (enqueued, dequeued, event_put, length-mapped)

pub ruleset stack_rows = (opened, dropped, stack_put, turned, length-mapped)
