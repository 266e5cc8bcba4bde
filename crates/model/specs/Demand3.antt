-- Demand 3, as one claim about a whole list of calls, their results and the state after it
-- (document 00, demand 3; document 01, "The three calls", the paragraph on demand 3).
use Rattle.std.specs.Prelude.{ℕ, ◌+◌, ◌≤◌, ◌≡◌, Bool, false, not, ◌&&◌, ◌||◌, List, map, eqb, length}
use Rattle.std.specs.List.{list_any}
use Rattle.lists.specs.Counts.{count, Every}
use Rattle.literal.specs.declared.Literal.{Literal}
use Rattle.model.specs.declared.Event.{Event}
use Rattle.model.specs.declared.Origin.{Origin}
use Rattle.model.specs.declared.Origin.TheVariants.{External, Goal}
use Rattle.model.specs.State.{AgentState}
use Rattle.model.specs.Instance.{is_suspended}
use Rattle.model.specs.Live.{same_origin, is_of, Job, live, serves, is_pending}
use Rattle.model.specs.Run.{Entry}
use Rattle.model.specs.History.{Spot, goal_at, same_spot, Making, making_of, same_making, History, nothing_yet, history, last_goal, replay_all, down_from}

-- ---- Tests that the sentences speak of

-- the instance that was made has this id
abbrev pub is_made : ℕ → Making → Bool
is_made id m = eqb id m.id

-- the live instance has this id
abbrev pub is_named : ℕ → Job → Bool
is_named id job = eqb id job.instance.id

-- it is suspended
abbrev pub is_asleep : Job → Bool
is_asleep job = is_suspended job.instance.status

-- the plan was made for the event
abbrev pub is_for : Origin → ℕ → Making → Bool
is_for origin plan m = same_origin origin m.event && eqb plan m.plan

-- the event is served by exactly one of them
abbrev pub is_served_once : List Job → Event → Bool
is_served_once jobs event = eqb (count (serves event.origin) jobs) 1

-- the event is the goal of the instance's last G
abbrev pub is_last_goal : List Spot → Job → Event → Bool
is_last_goal posted job event = is_of (last_goal job.instance.id posted) event

-- the origin is a goal of this instance
abbrev pub is_goal_by : ℕ → Origin → Bool
is_goal_by id (External n) = false
is_goal_by id (Goal i s b) = eqb id i

-- how often an event of this origin was taken or posted
abbrev pub arrivals : History → Origin → ℕ
arrivals h origin = count (λ n. same_origin origin (External n)) h.taken + count (λ t. same_origin origin (goal_at t)) h.posted

-- ---- By the history and the state after it

pub record Accounted (h : History) (s : AgentState) : Type 0 where
  -- "made and taken are also the state's two counts"; the numbers are 1 to these
  pub made_count : length h.made ≡ s.made
  pub taken_count : length h.taken ≡ s.taken
  pub made_ids : map (λ m. m.id) h.made ≡ down_from s.made
  pub taken_numbers : h.taken ≡ down_from s.taken
  -- "Instances made = succeeded + failed + live", one by one, each in one place, once
  pub instances : length h.made ≡ length h.succeeded + (length h.failed + length (live s.stacks))
  pub instance-placed : (id : ℕ)
      → count (is_made id) h.made
      ≡ count (eqb id) h.succeeded + (count (eqb id) h.failed + count (is_named id) (live s.stacks))
  pub instance_once : (id : ℕ) → count (is_made id) h.made ≤ 1
  -- "Events taken + goals posted = events closed + events queued", one by one, each in one place, once, told apart by origin
  pub events : length h.taken + length h.posted ≡ length h.closed + length s.queue
  pub event_placed : (origin : Origin) → arrivals h origin ≡ count (same_origin origin) h.closed + count (is_of origin) s.queue
  pub event_once : (origin : Origin) → arrivals h origin ≤ 1
  -- "Each queued event is pending or served by exactly one live instance"
  pub pending_or_served : Every (λ event. is_pending (live s.stacks) event || is_served_once (live s.stacks) event) s.queue
  -- "An instance's event, for which it was made": "while live it serves that event, in the state too, and the event is queued"
  pub serves_its_own : Every (λ job. list_any (same_making (making_of job)) h.made) (live s.stacks)
  pub served_queued : Every (λ job. list_any (is_of job.event) s.queue) (live s.stacks)
  -- "each suspended instance has exactly one goal in the queue", and no other has one; it "is its last G's"
  pub one_goal_each : (id : ℕ)
      → count (λ event. is_goal_by id event.origin) s.queue ≡ count (λ job. is_asleep job && is_named id job) (live s.stacks)
  pub goal_is_last : Every (λ job. not (is_asleep job) || list_any (is_last_goal h.posted job) s.queue) (live s.stacks)
  -- "No plan is made twice for one event, and no instance tries one branch twice"
  pub plan_once : (origin : Origin) (plan : ℕ) → count (is_for origin plan) h.made ≤ 1
  pub branch_once : (branch : Spot) → count (same_spot branch) h.tries ≤ 1

-- ---- By the loaded beliefs, the entries and the state after them

pub record Demand3 (beliefs : List Literal) (entries : List Entry) (s : AgentState) : Type 0 where
  pub accounts : Accounted (history nothing_yet entries) s
  -- "The belief table equals the loaded beliefs with the reported changes applied in order"
  pub table : s.beliefs ≡ replay_all beliefs entries
