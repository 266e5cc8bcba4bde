-- The test for well-formed states (document 01, "State", "Well formed means"), rule by rule.
-- That the library is accepted is the test of crate library; here it is a value.
use Rattle.std.specs.Prelude.{ℕ, ◌^◌, Bool, true, not, ◌&&◌, ◌||◌, List, ltb, leb, eqb, length}
use Rattle.std.specs.List.{list_any, list_all}
use Rattle.lists.specs.Search.{distinct}
use Rattle.lists.specs.Counts.{count}
use Rattle.literal.specs.Literal.{is_ground, same}
use Rattle.literal.specs.Environment.{is_env, instantiate}
use Rattle.belief.specs.Beliefs.{are_beliefs}
use Rattle.library.specs.Plan.{Library}
use Rattle.situation.specs.FailedSet.{has}
use Rattle.model.specs.declared.Event.{Event}
use Rattle.model.specs.declared.Instance.{Instance}
use Rattle.model.specs.declared.Origin.{Origin}
use Rattle.model.specs.declared.Origin.TheVariants.{External, Goal}
use Rattle.model.specs.declared.Status.{Status}
use Rattle.model.specs.declared.Status.TheVariants.{Active, Waiting, Suspended}
use Rattle.model.specs.State.{most_number, most_stacks, most_height, most_external, Intention, AgentState}
use Rattle.model.specs.Instance.{is_suspended, plan_of, branches_of, branch_of, is_action_kind, is_goal_kind}
use Rattle.model.specs.Live.{is_goal, is_external, same_origin, is_of, goal_of, Job, live}
use Rattle.model.specs.Report.{told_kind}
use Rattle.model.specs.Turn.{height_of}

-- ---- Events

-- in 1..n
abbrev pub is_within : ℕ → ℕ → Bool
is_within n k = leb 1 k && leb k n

-- external numbers in 1..taken
abbrev pub is_numbered : ℕ → Origin → Bool
is_numbered taken (External n) = is_within taken n
is_numbered taken (Goal i s b) = true

-- external events of kinds 0..2, every queued literal ground, failed sets name existing plans
unfoldable pub is_event_sound : Library → ℕ → Event → Bool
is_event_sound library taken event =
    is_numbered taken event.origin && ((is_goal event.origin || leb event.kind told_kind)
    && (is_ground event.literal && ltb event.failed (2 ^ length library.plans)))

abbrev pub same_event : Event → Event → Bool
same_event e f = same_origin e.origin f.origin

-- told apart by origin, at most 32 of them external
unfoldable pub are_events : Library → ℕ → List Event → Bool
are_events library taken queue =
    list_all (is_event_sound library taken) queue && (distinct same_event queue && leb (count is_external queue) most_external)

-- ---- Instances

-- a waiting instance's branch is external, a suspended one's a goal
unfoldable pub is_status : ℕ → ℕ → Status → Bool
is_status tried kind Active = true
is_status tried kind Waiting = ltb 0 tried && is_action_kind kind
is_status tried kind Suspended = ltb 0 tried && is_goal_kind kind

-- its plan, state, tried count and bound constants exist
unfoldable pub is_sound : Library → Instance → Bool
is_sound library x =
    ltb x.plan (length library.plans) && (ltb x.state (length (plan_of library x).states)
    && (leb x.tried (length (branches_of library x)) && (is_env x.env && is_status x.tried (branch_of library x).kind x.status)))

-- its id is in 1..made
unfoldable pub is_instance : Library → ℕ → Job → Bool
is_instance library made job = is_within made job.instance.id && is_sound library job.instance

abbrev pub same_id : Job → Job → Bool
same_id j k = eqb j.instance.id k.instance.id

-- ids are distinct
unfoldable pub are_instances : Library → ℕ → List Job → Bool
are_instances library made jobs = list_all (is_instance library made) jobs && distinct same_id jobs

-- ---- Stacks

-- all instances below a top are suspended; 1..8 instances; the eighth is not suspended
unfoldable pub is_stack : Intention → Bool
is_stack stack =
    list_all (λ x. is_suspended x.status) stack.below && (leb (height_of stack) most_height
    && not (is_suspended stack.top.status && leb most_height (height_of stack)))

-- ---- Who serves what

-- the event that an instance serves: of its trigger's kind, its plan not among the failed
unfoldable pub is_served : Library → Job → Event → Bool
is_served library job event =
    is_of job.event event && (eqb (plan_of library job.instance).kind event.kind
    && not (has event.failed job.instance.plan))

abbrev pub same_served : Job → Job → Bool
same_served j k = same_origin j.event k.event

-- the goal of a suspended instance: its kind and literal are the branch's under the instance's environment
unfoldable pub is_goal_for : Library → Instance → Event → Bool
is_goal_for library x event =
    is_of (goal_of x) event && (eqb (branch_of library x).kind event.kind
    && same (instantiate x.env (branch_of library x).literal) event.literal)

-- a suspended instance has its goal in the queue
unfoldable pub has_goal : Library → List Event → Job → Bool
has_goal library queue job = not (is_suspended job.instance.status) || list_any (is_goal_for library job.instance) queue

-- the goal is that of this suspended instance
abbrev pub is_posted : Origin → Job → Bool
is_posted origin job = is_suspended job.instance.status && same_origin origin (goal_of job.instance)

-- no further goals: a queued goal is that of some suspended instance
unfoldable pub has_poster : List Job → Event → Bool
has_poster jobs event = is_external event || list_any (is_posted event.origin) jobs

-- each instance serves a queued event, no two the same; goals and suspended instances belong together
unfoldable pub are_served : Library → List Event → List Job → Bool
are_served library queue jobs =
    list_all (λ job. list_any (is_served library job) queue) jobs && (distinct same_served jobs
    && (list_all (has_goal library queue) jobs && list_all (has_poster jobs) queue))

-- ---- The state

unfoldable pub is_well_formed : Library → AgentState → Bool
is_well_formed library s =
    are_beliefs s.beliefs && (leb s.taken most_number && (leb s.made most_number
    && (are_events library s.taken s.queue && (are_instances library s.made (live s.stacks)
    && (leb (length s.stacks) most_stacks && (list_all is_stack s.stacks && are_served library s.queue (live s.stacks)))))))
