-- The facts of a well-formed state (document 01, "State", "Well formed means"), to be held against the page.
-- They speak of counts, so that the order of queue and stacks does not matter.
use Rattle.std.specs.Prelude.{ℕ, ◌^◌, ◌≤◌, ◌<◌, ◌≡◌, true, ◌&&◌, ◌||◌, List, [], ltb, leb, eqb, length, get_or}
use Rattle.std.specs.List.{list_any}
use Rattle.lists.specs.Counts.{count, Every}
use Rattle.literal.specs.declared.Literal.{Literal}
use Rattle.literal.specs.Literal.{is_ground}
use Rattle.literal.specs.Environment.{is_env}
use Rattle.belief.specs.Beliefs.{are_beliefs}
use Rattle.library.specs.declared.Branch.{Branch}
use Rattle.library.specs.Plan.{Library, no_branch, no_plan}
use Rattle.model.specs.declared.Event.{Event}
use Rattle.model.specs.declared.Instance.{Instance}
use Rattle.model.specs.declared.Origin.{Origin}
use Rattle.model.specs.State.{most_number, most_stacks, most_height, most_external, most_actions, Intention, AgentState}
use Rattle.model.specs.Instance.{is_suspended, plan_of, branches_of, branch_of}
use Rattle.model.specs.Live.{is_goal, is_external, is_of, Job, live, serves}
use Rattle.model.specs.Report.{told_kind}
use Rattle.model.specs.Turn.{height_of}
use Rattle.model.specs.WellFormed.{is_within, is_numbered, is_status, is_sound, is_stack, is_served, has_goal, is_posted}

-- ---- "The library is accepted": what of that the calls rest on (crate library, refusalOf)

-- the branches of a plan's state
abbrev pub branches_at : Library → ℕ → ℕ → List Branch
branches_at library plan state = get_or (get_or library.plans plan no_plan).states state []

pub record Acceptable (library : Library) : Type 0 where
  -- at most 64 initial beliefs, ground and not repeated
  pub beliefs : are_beliefs library.beliefs ≡ true
  -- every plan has a state 0
  pub begun : (plan : ℕ) → plan < length library.plans → 0 < length (get_or library.plans plan no_plan).states
  -- every next state is a state of the plan, higher than its branch's
  pub upward : (plan state branch : ℕ) → plan < length library.plans → branch < length (branches_at library plan state)
      → state < (get_or (branches_at library plan state) branch no_branch).next
  pub inside : (plan state branch : ℕ) → plan < length library.plans → branch < length (branches_at library plan state)
      → (get_or (branches_at library plan state) branch no_branch).next < length (get_or library.plans plan no_plan).states
  -- success and failure lists have at most 4 actions
  pub success : (plan : ℕ) → plan < length library.plans → length (get_or library.plans plan no_plan).success ≤ most_actions
  pub failure : (plan : ℕ) → plan < length library.plans → length (get_or library.plans plan no_plan).failure ≤ most_actions

-- ---- An instance and a stack

pub record Sound (library : Library) (x : Instance) : Type 0 where
  -- "each instance's plan, state, tried count and bound constants exist"
  pub plan : x.plan < length library.plans
  pub state : x.state < length (plan_of library x).states
  pub tried : x.tried ≤ length (branches_of library x)
  pub env : is_env x.env ≡ true
  -- "a waiting instance's branch is external, a suspended one's a goal"
  pub status : is_status x.tried (branch_of library x).kind x.status ≡ true

pub record Stacked (stack : Intention) : Type 0 where
  -- "all instances below a top are suspended"
  pub asleep : Every (λ x. is_suspended x.status) stack.below
  -- "each of 1..8 instances"
  pub height : height_of stack ≤ most_height
  -- "the eighth instance of a stack is not suspended"
  pub room : is_suspended stack.top.status ≡ true → height_of stack < most_height

-- ---- Each event and each instance by itself

pub record Local (library : Library) (queue : List Event) (jobs : List Job) (taken made : ℕ) : Type 0 where
  -- "ids are [..] in 1..made, external numbers [..] in 1..taken"
  pub ids : Every (λ job. is_within made job.instance.id) jobs
  pub numbers : Every (λ event. is_numbered taken event.origin) queue
  -- "at most 32 external events queued, of kinds 0..2, every queued literal ground"
  pub few : count is_external queue ≤ most_external
  pub kinds : Every (λ event. is_goal event.origin || leb event.kind told_kind) queue
  pub grounds : Every (λ event. is_ground event.literal) queue
  -- the rules for an instance (Sound, above); "failed sets name existing plans"
  pub sounds : Every (λ job. is_sound library job.instance) jobs
  pub failures : Every (λ event. ltb event.failed (2 ^ length library.plans)) queue

-- ---- How events and instances belong together

pub record Linked (library : Library) (queue : List Event) (jobs : List Job) : Type 0 where
  -- "ids are distinct", "external numbers distinct", and goals too
  pub id_once : (id : ℕ) → count (λ job. eqb id job.instance.id) jobs ≤ 1
  pub event_once : (origin : Origin) → count (is_of origin) queue ≤ 1
  -- "a bottom serves a queued external event, no two the same, each one above it the goal of the one below";
  -- "an instance's trigger kind is its event's, its plan not among the event's failed"
  pub served_once : (origin : Origin) → count (serves origin) jobs ≤ 1
  pub served : Every (λ job. list_any (is_served library job) queue) jobs
  -- "the queue has exactly one goal for each suspended instance, of its present state and branch, and no further goals"
  pub goals : (origin : Origin) → count (λ event. is_goal event.origin && is_of origin event) queue ≡ count (is_posted origin) jobs
  -- "a goal's kind and literal are its branch's under the poster's environment"
  pub posters : Every (has_goal library queue) jobs

-- ---- The whole

pub record Formed (library : Library) (beliefs : List Literal) (queue : List Event) (stacks : List Intention) (taken made : ℕ)
    : Type 0 where
  -- "beliefs as above"
  pub table : are_beliefs beliefs ≡ true
  pub local : Local library queue (live stacks) taken made
  pub linked : Linked library queue (live stacks)
  -- "stacks in turn order, at most 8", each as above
  pub few : length stacks ≤ most_stacks
  pub stacked : Every is_stack stacks
  -- "0..65,535 each"; request 5: 0..4,294,967,295
  pub taken_small : taken ≤ most_number
  pub made_small : made ≤ most_number

abbrev pub WellFormed : Library → AgentState → Type 0
WellFormed library s = Formed library s.beliefs s.queue s.stacks s.taken s.made
