-- The end of an instance (document 01, "Cycle", success and failure; dMARS 8.5, AchievePlan, AchievePlanOnly, AchievePlanAndIntention
-- and FailPlan).
-- Departs from dMARS: no bindings flow back to the poster, which steps past its goal (AchievePlanOnly gives it bindings and makes it
-- active); a failed event keeps its place in the queue (FailPlan leaves the place open), also a bottom's, whose failure 8.5 leaves out.
use Rattle.std.specs.Prelude.{ℕ, List, [], ◌∷◌}
use Rattle.lists.specs.Search.{position}
use Rattle.lists.specs.Gap.{remove_at}
use Rattle.lists.specs.Places.{Placed, first, change_at}
use Rattle.library.specs.declared.Action.{Action}
use Rattle.library.specs.Plan.{Library}
use Rattle.situation.specs.FailedSet.{insert}
use Rattle.model.specs.declared.Event.{Event}
use Rattle.model.specs.declared.Instance.{Instance}
use Rattle.model.specs.declared.Origin.{Origin}
use Rattle.model.specs.declared.Answer.{Answer}
use Rattle.model.specs.declared.Answer.TheVariants.{Succeeded, Failed}
use Rattle.model.specs.State.{Intention, AgentState, Reply, reply, after}
use Rattle.model.specs.Instance.{plan_of, past_branch}
use Rattle.model.specs.Live.{is_of, event_on}
use Rattle.model.specs.Changes.{effects}
use Rattle.model.specs.Try.{last_in_turn}

-- ---- The event

-- the event that the top of a stack serves
abbrev pub served_by : Intention → Origin
served_by stack = event_on stack.external stack.below

-- the event is closed: it leaves the queue
unfoldable pub close_event : Origin → List Event → List Event
close_event origin queue = remove_at (position (is_of origin) queue) queue

-- the event with one failed plan more
abbrev pub marked : ℕ → Event → Event
marked plan event = record { origin = event.origin; kind = event.kind; literal = event.literal; failed = insert event.failed plan }

-- the plan has failed for the event, which stays in its place
unfoldable pub mark_event : ℕ → Origin → List Event → List Event
mark_event plan origin queue = change_at (marked plan) queue (first (is_of origin) queue)

-- ---- The stack

-- the stack without its top, the one below changed; an emptied stack goes
unfoldable pub popped : ℕ → (Instance → Instance) → List Instance → List Intention
popped external change [] = []
popped external change (x ∷ below) = record { external = external; top = change x; below = below } ∷ []

-- an instance ends: a list runs, it is popped, the queue is another, the one below is changed, and the stack goes last
unfoldable pub end_top : AgentState → Placed Intention → Answer → List Action → List Event → (Instance → Instance) → Reply
end_top s stack answer actions queue change =
    let changes = effects s.beliefs stack.it.top.env actions in
    reply answer changes (after s changes queue (last_in_turn s stack (popped stack.it.external change stack.it.below)))

-- success runs the success list, pops, closes the event; a poster below steps past its goal
unfoldable pub succeed : Library → AgentState → Placed Intention → Reply
succeed library s stack =
    let x = stack.it.top in
    end_top s stack (Succeeded x.id) (plan_of library x).success (close_event (served_by stack.it) s.queue) (past_branch library)

-- failure runs the failure list, pops, adds the plan to the event's failed set; a poster below stays suspended
unfoldable pub fail : Library → AgentState → Placed Intention → Reply
fail library s stack =
    let x = stack.it.top in
    end_top s stack (Failed x.id) (plan_of library x).failure (mark_event x.plan (served_by stack.it) s.queue) (λ below. below)
