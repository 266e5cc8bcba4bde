-- A move of a state is the move of its array and of its count.
use Prim.Native.Nat.{ℕ}
use mathlib.Core.Path.{◌≡◌, refl}
use mathlib.Core.Bool.{Bool, true, false, cond}
use mathlib.Core.List.{List}
use lib.Dec.{ltb}
use Rattle.model.specs.declared.Event.{Event}
use Rattle.state.specs.declared.Stack.{Stack}
use Rattle.state.specs.declared.State.{State}
use Rattle.state.specs.View.{queued_of, stacked_of}
use Rattle.state.specs.Queue.{with_queue, enqueue, dequeue, put_event}
use Rattle.state.specs.Stacks.{with_stacks, open_last, put_at, drop_at, turn_last}
use Rattle.moves.specs.declared.QueueMove.{QueueMove}
use Rattle.moves.specs.declared.QueueMove.TheVariants as queue
use Rattle.moves.specs.declared.StackMove.{StackMove}
use Rattle.moves.specs.declared.StackMove.TheVariants as stacks
use Rattle.moves.specs.Moves.{place_of, requeue, restack}
use Rattle.moves.specs.Parts.{place_in, events_after, queued_after, stacks_after, stacked_after}

module _ (s : State) where
  queue_parts : (test : Bool) (events : List Event) (queued : ℕ)
      → cond test (with_queue s events queued) s ≡ with_queue s (cond test events s.queue) (cond test queued s.queued)
  queue_parts true events queued = refl
  queue_parts false events queued = refl

  -- where the count stays
  queue_part : (test : Bool) (events : List Event)
      → cond test (with_queue s events s.queued) s ≡ with_queue s (cond test events s.queue) s.queued
  queue_part true events = refl
  queue_part false events = refl

  stacks-parts : (test : Bool) (stacks : List Stack) (stacked : ℕ)
      → cond test (with_stacks s stacks stacked) s ≡ with_stacks s (cond test stacks s.stacks) (cond test stacked s.stacked)
  stacks-parts true stacks stacked = refl
  stacks-parts false stacks stacked = refl

  stacks-part : (test : Bool) (stacks : List Stack)
      → cond test (with_stacks s stacks s.stacked) s ≡ with_stacks s (cond test stacks s.stacks) s.stacked
  stacks-part true stacks = refl
  stacks-part false stacks = refl

pub requeue_keeps : (s : State) → requeue queue.Keep s ≡ s
requeue_keeps s = refl

pub requeue-parts : (change : QueueMove) (s : State) → let place = place_in change s.queue s.queued in
    requeue change s ≡ with_queue s (events_after change place s.queue s.queued) (queued_after change place s.queued)
unfolding enqueue dequeue put_event
requeue-parts queue.Keep s = refl
requeue-parts (queue.Enqueue event) s = queue_parts s (ltb s.queued 88) _ _
requeue-parts (queue.Remove place) s = queue_parts s (ltb place (queued_of s)) _ _
requeue-parts (queue.Close origin) s = queue_parts s (ltb (place_of s origin) (queued_of s)) _ _
requeue-parts (queue.Mark origin plan) s = queue_part s (ltb (place_of s origin) (queued_of s)) _

pub restack-parts : (change : StackMove) (stack : Stack) (s : State)
    → restack change stack s ≡ with_stacks s (stacks_after change stack s.stacks s.stacked) (stacked_after change s.stacked)
unfolding open_last put_at drop_at turn_last
restack-parts stacks.Keep stack s = refl
restack-parts stacks.Open stack s = stacks-parts s (ltb s.stacked 8) _ _
restack-parts (stacks.Replace place) stack s = stacks-part s (ltb place (stacked_of s)) _
restack-parts (stacks.Last place) stack s = stacks-parts s (ltb place (stacked_of s)) _ _
restack-parts (stacks.Remove place) stack s = stacks-parts s (ltb place (stacked_of s)) _ _
