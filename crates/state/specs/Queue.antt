-- The queue's changes, every place of its array.
use Rattle.std.specs.Prelude.{ℕ, ◌+◌, ◌-◌, cond, List, set, ltb}
use Rattle.lists.specs.Gap.{close_gap}
use Rattle.model.specs.declared.Event.{Event}
use Rattle.model.specs.State.{most_queued}
use Rattle.situation.specs.FailedSet.{with_plan}
use Rattle.state.specs.declared.State.{State}
use Rattle.state.specs.View.{queued_of}

-- the state with another queue
abbrev pub with_queue : State → List Event → ℕ → State
with_queue s queue queued =
    record {
      beliefs = s.beliefs;
      queue = queue;
      queued = queued;
      stacks = s.stacks;
      stacked = s.stacked;
      taken = s.taken;
      made = s.made;
    }

-- one event more, last; nothing changes where there is no room
unfoldable pub enqueue : State → Event → State
enqueue s event = cond (ltb s.queued most_queued) (with_queue s (set s.queue s.queued event) (s.queued + 1)) s

-- without the event at a place, the gap closed; nothing changes where no event stands there
unfoldable pub dequeue : State → ℕ → State
dequeue s place = cond (ltb place (queued_of s)) (with_queue s (close_gap place (queued_of s - 1) s.queue) (queued_of s - 1)) s

-- the event with one failed plan more; a number that no plan has changes nothing
abbrev pub with_failure : Event → ℕ → Event
with_failure event plan =
    record { origin = event.origin; kind = event.kind; literal = event.literal; failed = with_plan event.failed plan }

-- another event at a place; nothing changes where no event stands there
unfoldable pub put_event : State → ℕ → Event → State
put_event s place event = cond (ltb place (queued_of s)) (with_queue s (set s.queue place event) s.queued) s
