-- Trying a branch (document 01, "Cycle", step 4; dMARS 8.4.1 to 8.4.4, BranchExtActionSucceed, BranchIntAction,
-- BranchQueryGoalSucc, BranchQueryGoalFail and BranchAchieveGoal).
-- Departs from dMARS: an external action waits for its outcome, and binds nothing (8.4.1 composes its bindings into the environment);
-- changes raise no events; a query that no belief answers is posted, as the prose of 4.2 has it (8.4.3 fails it); an achieve that is held
-- is stepped, as the prose of 8.4.4 has it (its schema posts it).
use Rattle.std.specs.Prelude.{ℕ, Bool, true, false, cond, not, ◌&&◌, ◌||◌, List, [], ◌∷◌, ◌++◌, ltb, leb, eqb, Option, None, Some}
use Rattle.lists.specs.Gap.{remove_at}
use Rattle.lists.specs.Places.{Placed}
use Rattle.literal.specs.declared.Literal.{Literal}
use Rattle.literal.specs.declared.Env.{Env}
use Rattle.literal.specs.Literal.{is_ground, opposite}
use Rattle.literal.specs.Environment.{instantiate}
use Rattle.literal.specs.Divide.{divide}
use Rattle.belief.specs.declared.Change.{Change}
use Rattle.belief.specs.Beliefs.{holds, fits}
use Rattle.library.specs.declared.Branch.{Branch}
use Rattle.situation.specs.Solutions.{ask}
use Rattle.model.specs.declared.Event.{Event}
use Rattle.model.specs.declared.Instance.{Instance}
use Rattle.model.specs.declared.Origin.TheVariants.{Goal}
use Rattle.model.specs.declared.Status.TheVariants.{Active, Waiting, Suspended}
use Rattle.model.specs.declared.Answer.TheVariants.{Stepped, Missed, Done, Posted}
use Rattle.model.specs.State.{most_height, Intention, AgentState, Reply, reply, after}
use Rattle.model.specs.Instance.{step_to, try_next, action_kind, achieve_kind, divide_kind}
use Rattle.model.specs.Changes.{change_of, effective}

-- what came of a branch: missed; stepped, with an environment and changes; done, an action; posted, a goal
pub data Try : Type 0 where
  missed : Try
  stepped : Env → List Change → Try
  done : Literal → Try
  posted : Literal → Try

-- ---- Add or remove (dMARS 8.4.2)

-- a change that a branch can make: ground, and not an add that does not fit
unfoldable pub is_possible : List Literal → Change → Bool
is_possible beliefs c = is_ground c.literal && (c.removes || fits beliefs c.literal)

-- add or remove: missed if not possible; else applied, stepped
unfoldable pub try_change : List Literal → Env → Change → Try
try_change beliefs env c = cond (is_possible beliefs c) (stepped env (effective beliefs c)) missed

-- ---- External (dMARS 8.4.1)

-- external: missed if not ground; else done
unfoldable pub try_action : Literal → Try
try_action literal = cond (is_ground literal) (done literal) missed

-- ---- Divide (document 02, request 11; not in dMARS)

-- divide: missed if it cannot be done; else stepped with the environment after it, and no belief changes
unfoldable pub try_divide : Option Env → Try
try_divide None = missed
try_divide (Some env) = stepped env []

-- ---- Achieve and query (dMARS 8.4.3, 8.4.4): ask the beliefs, then post

-- the environment after it where the beliefs have the answer: an achieve is held, a query is matched by a first belief
unfoldable pub answer_to : ℕ → List Literal → Env → Literal → Option Env
answer_to kind beliefs env literal =
    cond (eqb kind achieve_kind)
    (cond (is_ground (instantiate env literal) && holds beliefs (instantiate env literal)) (Some env) None)
    (ask beliefs literal env)

-- a goal that is not posted: not ground, a query's opposite held, or a stack of 8
unfoldable pub is_barred : ℕ → List Literal → ℕ → Literal → Bool
is_barred kind beliefs height goal =
    not (is_ground goal) || ((not (eqb kind achieve_kind) && holds beliefs (opposite goal)) || leb most_height height)

-- answered: stepped; barred: missed; else posted
unfoldable pub pursue : Option Env → Bool → Literal → Try
pursue (Some env) barred goal = stepped env []
pursue None true goal = missed
pursue None false goal = posted goal

-- ---- A branch by its kind, with the beliefs, the stack's height and the environment

-- otherwise tries the next branch: add or remove, external, divide, achieve or query
unfoldable pub attempt : List Literal → ℕ → Env → Branch → Try
attempt beliefs height env b =
    let literal = instantiate env b.literal in
    cond (ltb b.kind action_kind) (try_change beliefs env (change_of b.kind literal))
    (cond (eqb b.kind action_kind) (try_action literal)
    (cond (eqb b.kind divide_kind) (try_divide (divide b.literal env))
    (pursue (answer_to b.kind beliefs env b.literal) (is_barred b.kind beliefs height literal) literal)))

-- ---- What it does to the state

-- the stack with another top
abbrev pub with_top : Intention → Instance → Intention
with_top stack x = record { external = stack.external; top = x; below = stack.below }

-- the stack that ran goes last
abbrev pub last_in_turn : AgentState → Placed Intention → List Intention → List Intention
last_in_turn s stack next = remove_at stack.place s.stacks ++ next

-- the goal of an instance's next branch (dMARS 8.3, MakeEvent)
abbrev pub new_goal : Instance → ℕ → Literal → Event
new_goal x kind goal = record { origin = Goal x.id x.state x.tried; kind = kind; literal = goal; failed = 0 }

-- missed: stays active; stepped: next state, none tried; done: waiting; posted: the goal at the queue's end, suspended
unfoldable pub tried : AgentState → Placed Intention → Branch → Try → Reply
tried s stack b missed =
    let x = stack.it.top in
    reply (Missed x.id x.state x.tried) []
    (after s [] s.queue (last_in_turn s stack (with_top stack.it (try_next Active x) ∷ [])))
tried s stack b (stepped env changes) =
    let x = stack.it.top in
    reply (Stepped x.id x.state x.tried b.next) changes
    (after s changes s.queue (last_in_turn s stack (with_top stack.it (step_to b.next env x) ∷ [])))
tried s stack b (done literal) =
    let x = stack.it.top in
    reply (Done x.id x.state x.tried literal) []
    (after s [] s.queue (last_in_turn s stack (with_top stack.it (try_next Waiting x) ∷ [])))
tried s stack b (posted goal) =
    let x = stack.it.top in
    reply (Posted x.id x.state x.tried) []
    (after s [] (s.queue ++ (new_goal x b.kind goal ∷ [])) (last_in_turn s stack (with_top stack.it (try_next Suspended x) ∷ [])))
