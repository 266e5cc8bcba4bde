-- Which event each live instance serves, and which events are pending (document 01, "State"; dMARS 7.1, Intention; 7.2, Event).
use Rattle.std.specs.Prelude.{ℕ, Bool, true, false, not, ◌&&◌, ◌||◌, List, [], ◌∷◌, ltb, eqb}
use Rattle.std.specs.List.{list_any}
use Rattle.lists.specs.Counts.{each}
use Rattle.model.specs.declared.Event.{Event}
use Rattle.model.specs.declared.Instance.{Instance}
use Rattle.model.specs.declared.Origin.{Origin}
use Rattle.model.specs.declared.Origin.TheVariants.{External, Goal}
use Rattle.model.specs.State.{most_stacks, Intention}
use Rattle.model.specs.Instance.{is_suspended, last_tried}

-- ---- Origins

-- a goal's, not an external event's
abbrev pub is_goal : Origin → Bool
is_goal (External n) = false
is_goal (Goal i s b) = true

-- an external event
abbrev pub is_external : Event → Bool
is_external event = not (is_goal event.origin)

-- events are told apart by origin
unfoldable pub same_origin : Origin → Origin → Bool
same_origin (External n) (External m) = eqb n m
same_origin (External n) (Goal j t c) = false
same_origin (Goal i s b) (External m) = false
same_origin (Goal i s b) (Goal j t c) = eqb i j && (eqb s t && eqb b c)

-- the event has this origin
abbrev pub is_of : Origin → Event → Bool
is_of origin event = same_origin origin event.origin

-- the goal of a suspended instance: of its present state and branch
abbrev pub goal_of : Instance → Origin
goal_of x = Goal x.id x.state (last_tried x)

-- ---- Who serves what

-- the event of an instance that stands on these: the goal of the one below, or at the bottom the stack's external event
abbrev pub event_on : ℕ → List Instance → Origin
event_on external [] = External external
event_on external (x ∷ below) = goal_of x

-- an instance and the event that it serves
pub record Job : Type 0 where
  pub instance : Instance
  pub event : Origin

-- these instances, from the top down, with the event of each
unfoldable pub jobs_on : ℕ → List Instance → List Job
jobs_on external [] = []
jobs_on external (x ∷ below) = record { instance = x; event = event_on external below } ∷ jobs_on external below

-- those of a stack
abbrev pub jobs_of : Intention → List Job
jobs_of stack = jobs_on stack.external (stack.top ∷ stack.below)

-- the live instances, with the event of each
unfoldable pub live : List Intention → List Job
live stacks = each jobs_of stacks

-- the instance serves the event of this origin
abbrev pub serves : Origin → Job → Bool
serves origin job = same_origin origin job.event

-- an event is pending if no instance serves it
unfoldable pub is_pending : List Job → Event → Bool
is_pending jobs event = not (list_any (serves event.origin) jobs)

-- a pending event that may be taken up: external ones are passed over while there are 8 stacks
unfoldable pub is_ready : List Job → ℕ → Event → Bool
is_ready jobs stacks event = is_pending jobs event && (is_goal event.origin || ltb stacks most_stacks)

-- the top posted this goal: the poster of a pending goal is the top of its stack
abbrev pub is_poster : Origin → Intention → Bool
is_poster origin stack = is_suspended stack.top.status && same_origin origin (goal_of stack.top)
