-- Cycle (document 01, "The three calls", Cycle; dMARS 8.1, eventselect and planselect; 8.4, SelectIntention).
-- Departs from dMARS: the event taken up is the first pending one, where eventselect is the head of the queue; a stack runs while served
-- events are queued, where SelectIntention asks for an empty queue.
use Rattle.std.specs.Prelude.{Option, None, Some, [], length}
use Rattle.lists.specs.Places.{Placed, first}
use Rattle.library.specs.Plan.{Library}
use Rattle.situation.specs.Applicable.{Chosen, choose}
use Rattle.model.specs.declared.Event.{Event}
use Rattle.model.specs.declared.Answer.TheVariants.{Idle}
use Rattle.model.specs.State.{Intention, AgentState, Reply, reply}
use Rattle.model.specs.Live.{live, is_ready}
use Rattle.model.specs.Event.{take_up}
use Rattle.model.specs.Turn.{is_running, turn}

-- the first pending event that may be taken up
unfoldable pub next_event : AgentState → Option (Placed Event)
next_event s = first (is_ready (live s.stacks) (length s.stacks)) s.queue

-- the first stack whose top is active
unfoldable pub next_stack : AgentState → Option (Placed Intention)
next_stack s = first is_running s.stacks

-- the first applicable plan with its first solution
unfoldable pub choice_for : Library → AgentState → Event → Option Chosen
choice_for library s event = choose s.beliefs event.kind event.literal event.failed library.plans

-- by the next event and the next stack: the event is taken up; without one the stack runs; nothing to do: idle
unfoldable pub cycle_by : Library → AgentState → Option (Placed Event) → Option (Placed Intention) → Reply
cycle_by library s (Some event) stack = take_up s event (choice_for library s event.it)
cycle_by library s None (Some stack) = turn library s stack
cycle_by library s None None = reply Idle [] s

-- cycle
unfoldable pub cycled : Library → AgentState → Reply
cycled library s = cycle_by library s (next_event s) (next_stack s)
