-- What a move makes of the queue's and the stacks' arrays and counts, each for itself (document 01, "State").
-- Private vocabulary: no public contract rests on it; MoveLaws proves that a move is made of these parts.
use Rattle.std.specs.Prelude.{ℕ, ◌+◌, ◌-◌, min, Bool, true, false, cond, List, take, set, get_or, ltb}
use Rattle.lists.specs.Search.{position}
use Rattle.lists.specs.Gap.{close_gap}
use Rattle.model.specs.declared.Event.{Event}
use Rattle.model.specs.State.{most_stacks, most_queued, no_event}
use Rattle.model.specs.Live.{is_of}
use Rattle.state.specs.declared.Stack.{Stack}
use Rattle.state.specs.Queue.{with_failure}
use Rattle.moves.specs.declared.QueueMove.{QueueMove}
use Rattle.moves.specs.declared.QueueMove.TheVariants as queue
use Rattle.moves.specs.declared.StackMove.{StackMove}
use Rattle.moves.specs.declared.StackMove.TheVariants as stacks

-- how many places are in use
abbrev pub queued_in : ℕ → ℕ
queued_in queued = min queued most_queued

abbrev pub stacked_in : ℕ → ℕ
stacked_in stacked = min stacked most_stacks

-- ---- The queue

-- the queue may change
abbrev pub moves_queue : QueueMove → Bool
moves_queue queue.Keep = false
moves_queue (queue.Enqueue event) = true
moves_queue (queue.Remove place) = true
moves_queue (queue.Close origin) = true
moves_queue (queue.Mark origin plan) = true

-- the place of the event that goes or is marked; the count where there is none
abbrev pub place_in : QueueMove → List Event → ℕ → ℕ
place_in queue.Keep events queued = queued_in queued
place_in (queue.Enqueue event) events queued = queued_in queued
place_in (queue.Remove place) events queued = place
place_in (queue.Close origin) events queued = position (is_of origin) (take (queued_in queued) events)
place_in (queue.Mark origin plan) events queued = position (is_of origin) (take (queued_in queued) events)

-- the events, with that place
abbrev pub events_after : QueueMove → ℕ → List Event → ℕ → List Event
events_after queue.Keep place events queued = events
events_after (queue.Enqueue event) place events queued = cond (ltb queued most_queued) (set events queued event) events
events_after (queue.Remove at) place events queued =
    cond (ltb place (queued_in queued)) (close_gap place (queued_in queued - 1) events) events
events_after (queue.Close origin) place events queued =
    cond (ltb place (queued_in queued)) (close_gap place (queued_in queued - 1) events) events
events_after (queue.Mark origin plan) place events queued =
    cond (ltb place (queued_in queued)) (set events place (with_failure (get_or events place no_event) plan)) events

-- their count
abbrev pub queued_after : QueueMove → ℕ → ℕ → ℕ
queued_after queue.Keep place queued = queued
queued_after (queue.Enqueue event) place queued = cond (ltb queued most_queued) (queued + 1) queued
queued_after (queue.Remove at) place queued = cond (ltb place (queued_in queued)) (queued_in queued - 1) queued
queued_after (queue.Close origin) place queued = cond (ltb place (queued_in queued)) (queued_in queued - 1) queued
queued_after (queue.Mark origin plan) place queued = queued

-- ---- The stacks

abbrev pub stacks_after : StackMove → Stack → List Stack → ℕ → List Stack
stacks_after stacks.Keep stack old stacked = old
stacks_after stacks.Open stack old stacked = cond (ltb stacked most_stacks) (set old stacked stack) old
stacks_after (stacks.Replace place) stack old stacked = cond (ltb place (stacked_in stacked)) (set old place stack) old
stacks_after (stacks.Last place) stack old stacked =
    cond (ltb place (stacked_in stacked)) (set (close_gap place (stacked_in stacked - 1) old) (stacked_in stacked - 1) stack) old
stacks_after (stacks.Remove place) stack old stacked =
    cond (ltb place (stacked_in stacked)) (close_gap place (stacked_in stacked - 1) old) old

-- their count
abbrev pub stacked_after : StackMove → ℕ → ℕ
stacked_after stacks.Keep stacked = stacked
stacked_after stacks.Open stacked = cond (ltb stacked most_stacks) (stacked + 1) stacked
stacked_after (stacks.Replace place) stacked = stacked
stacked_after (stacks.Last place) stacked = cond (ltb place (stacked_in stacked)) (stacked_in stacked) stacked
stacked_after (stacks.Remove place) stacked = cond (ltb place (stacked_in stacked)) (stacked_in stacked - 1) stacked
