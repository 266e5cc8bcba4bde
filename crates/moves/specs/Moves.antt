-- What a move makes of a state, every place of its arrays (document 01, "State").
use Rattle.std.specs.Prelude.{ℕ, get_or}
use Rattle.lists.specs.Search.{position}
use Rattle.model.specs.declared.Origin.{Origin}
use Rattle.model.specs.State.{no_event}
use Rattle.model.specs.Live.{is_of}
use Rattle.state.specs.declared.Stack.{Stack}
use Rattle.state.specs.declared.State.{State}
use Rattle.state.specs.View.{view_queue}
use Rattle.state.specs.Queue.{enqueue, dequeue, with_failure, put_event}
use Rattle.state.specs.Stacks.{open_last, put_at, drop_at, turn_last}
use Rattle.moves.specs.declared.QueueMove.{QueueMove}
use Rattle.moves.specs.declared.QueueMove.TheVariants as queue
use Rattle.moves.specs.declared.StackMove.{StackMove}
use Rattle.moves.specs.declared.StackMove.TheVariants as stacks
use Rattle.moves.specs.declared.Numbering.{Numbering}
use Rattle.moves.specs.declared.Numbering.TheVariants as numbering

-- the event of this origin
abbrev pub place_of : State → Origin → ℕ
place_of s origin = position (is_of origin) (view_queue s)

abbrev pub requeue : QueueMove → State → State
requeue queue.Keep s = s
requeue (queue.Enqueue event) s = enqueue s event
requeue (queue.Remove place) s = dequeue s place
requeue (queue.Close origin) s = dequeue s (place_of s origin)
requeue (queue.Mark origin plan) s = put_event s (place_of s origin) (with_failure (get_or s.queue (place_of s origin) no_event) plan)

abbrev pub restack : StackMove → Stack → State → State
restack stacks.Keep stack s = s
restack stacks.Open stack s = open_last s stack
restack (stacks.Replace place) stack s = put_at s place stack
restack (stacks.Last place) stack s = turn_last s place stack
restack (stacks.Remove place) stack s = drop_at s place

abbrev pub taken_by : Numbering → ℕ → ℕ
taken_by numbering.Keep taken = taken
taken_by (numbering.Taken number) taken = number
taken_by (numbering.Made number) taken = taken

abbrev pub made_by : Numbering → ℕ → ℕ
made_by numbering.Keep made = made
made_by (numbering.Taken number) made = made
made_by (numbering.Made number) made = number

abbrev pub renumber : Numbering → State → State
renumber numbering s =
    record {
      beliefs = s.beliefs;
      queue = s.queue;
      queued = s.queued;
      stacks = s.stacks;
      stacked = s.stacked;
      taken = taken_by numbering s.taken;
      made = made_by numbering s.made;
    }
