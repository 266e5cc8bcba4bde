-- Taking up a pending event (document 01, "Cycle", first paragraph; dMARS 8.1, eventselect; 8.3, NewPlanInst and CreatePlanInst).
-- Departs from dMARS: where no plan applies the event is closed.
use Rattle.std.specs.Prelude.{ℕ, ◌+◌, cond, List, [], ◌∷◌, ◌++◌, ltb, Option, None, Some}
use Rattle.lists.specs.Gap.{remove_at}
use Rattle.lists.specs.Places.{Placed, first, change_at}
use Rattle.situation.specs.FailedSet.{size_of}
use Rattle.situation.specs.Applicable.{Chosen}
use Rattle.model.specs.declared.Event.{Event}
use Rattle.model.specs.declared.Instance.{Instance}
use Rattle.model.specs.declared.Origin.{Origin}
use Rattle.model.specs.declared.Origin.TheVariants.{External, Goal}
use Rattle.model.specs.declared.Status.TheVariants.{Active}
use Rattle.model.specs.declared.Answer.TheVariants.{Dropped, Unmet, MadeExternal, MadeGoal}
use Rattle.model.specs.State.{most_number, Intention, AgentState, Reply, reply, refuse, after}
use Rattle.model.specs.Instance.{awake}
use Rattle.model.specs.Live.{is_poster}

-- ---- Made: an applicable plan was chosen (dMARS 8.3, NewPlanInst)

-- a new active instance, id counted from 1
abbrev pub new_instance : ℕ → Chosen → Instance
new_instance made chosen = record { id = made + 1; plan = chosen.plan; env = chosen.env; state = 0; tried = 0; status = Active }

-- a new stack for an external event
abbrev pub opened : ℕ → Instance → Intention
opened external x = record { external = external; top = x; below = [] }

-- on the poster's stack
abbrev pub pushed : Instance → Intention → Intention
pushed x stack = record { external = stack.external; top = x; below = stack.top ∷ stack.below }

-- one instance more is made
abbrev pub with_made : AgentState → List Intention → AgentState
with_made s stacks = record { beliefs = s.beliefs; queue = s.queue; stacks = stacks; taken = s.taken; made = s.made + 1 }

-- on a new stack last in turn, or on the poster's stack
unfoldable pub make : AgentState → Chosen → Origin → Reply
make s chosen (External n) =
    reply (MadeExternal (s.made + 1) chosen.plan n) []
    (with_made s (s.stacks ++ (opened n (new_instance s.made chosen) ∷ [])))
make s chosen (Goal i state branch) =
    reply (MadeGoal (s.made + 1) chosen.plan i) []
    (with_made s (change_at (pushed (new_instance s.made chosen)) s.stacks (first (is_poster (Goal i state branch)) s.stacks)))

-- ---- Dropped or unmet: no plan applies (document 01 alone)

-- the poster is active again
abbrev pub woken : Intention → Intention
woken stack = record { external = stack.external; top = awake stack.top; below = stack.below }

-- an external event is dropped, a goal is unmet: it leaves the queue and its poster is active again
unfoldable pub close : AgentState → Placed Event → Origin → Reply
close s event (External n) =
    reply (Dropped n (size_of event.it.failed)) [] (after s [] (remove_at event.place s.queue) s.stacks)
close s event (Goal i state branch) =
    reply (Unmet i state branch (size_of event.it.failed)) []
    (after s [] (remove_at event.place s.queue) (change_at woken s.stacks (first (is_poster (Goal i state branch)) s.stacks)))

-- ---- By the plan chosen for the event; 9 where an instance would need a number past the limit

-- the event is taken up: an instance is made by the plan chosen, or the event is closed
unfoldable pub take_up : AgentState → Placed Event → Option Chosen → Reply
take_up s event None = close s event event.it.origin
take_up s event (Some chosen) = cond (ltb s.made most_number) (make s chosen event.it.origin) (refuse 9 s)
