-- What the end of an instance does to the queue (document 01, "The three calls": success closes the event, failure adds the plan
-- to its failed set and leaves it in its place; dMARS 8.5, AchievePlan and FailPlan).
use Rattle.model.specs.State.{Intention}
use Rattle.model.specs.End.{served_by}
use Rattle.moves.specs.declared.QueueMove.{QueueMove}
use Rattle.moves.specs.declared.QueueMove.TheVariants as queue
use Rattle.trials.specs.declared.changes.Ending.{Ending}
use Rattle.trials.specs.declared.changes.Ending.TheVariants.{Success, Failure}

-- by how the top of the stack ends
abbrev pub end_move : Ending → Intention → QueueMove
end_move Success stack = queue.Close (served_by stack)
end_move Failure stack = queue.Mark (served_by stack) stack.top.plan
