-- What a turn's workers need, and what their steps give on every state that has the parts that they were decided from.
-- Private vocabulary: no public contract rests on this file.
use Rattle.std.specs.Prelude.{ℕ, ◌<◌, ◌≤◌, ◌≡◌, true, List, [], ◌∷◌, ◌++◌, Option, None, Some}
use Rattle.lists.specs.Gap.{remove_at}
use Rattle.lists.specs.Places.{Placed}
use Rattle.literal.specs.declared.Literal.{Literal}
use Rattle.belief.specs.declared.Beliefs.{Beliefs}
use Rattle.belief.specs.Beliefs.{most_beliefs, view}
use Rattle.library.specs.declared.Branch.{Branch}
use Rattle.library.specs.Plan.{Library}
use Rattle.library.specs.Layout.{plan_count, library_of}
use Rattle.accepted.specs.Refusal.{Accepted}
use Rattle.model.specs.declared.Answer.{Answer}
use Rattle.model.specs.declared.Answer.TheVariants.{Stepped, Missed, Done, Posted, Succeeded, Failed}
use Rattle.model.specs.declared.Instance.{Instance}
use Rattle.model.specs.declared.Status.TheVariants.{Active, Waiting, Suspended}
use Rattle.model.specs.State.{most_queued, Intention, AgentState, Reply, reply}
use Rattle.model.specs.Instance.{step_to, try_next, past_branch}
use Rattle.model.specs.Try.{Try, missed, stepped, done, posted, attempt, new_goal, tried}
use Rattle.model.specs.Turn.{tries, next_move, height_of, turn}
use Rattle.model.specs.End.{succeed, fail}
use Rattle.state.specs.declared.Stack.{Stack}
use Rattle.state.specs.declared.State.{State}
use Rattle.state.specs.View.{most_below, view_stack, stacked_of, view_state, counts_fit}
use Rattle.moves.specs.declared.QueueMove.{QueueMove}
use Rattle.moves.specs.declared.QueueMove.TheVariants as queue
use Rattle.moves.specs.Moves.{requeue}
use Rattle.trials.specs.declared.changes.Altered.{Altered}
use Rattle.trials.specs.declared.changes.Ending.{Ending}
use Rattle.trials.specs.declared.changes.Ending.TheVariants.{Success, Failure}
use Rattle.steps.specs.declared.step.Step.{Step}
use Rattle.steps.specs.View.{Sized}
use Rattle.steps.specs.Gives.{Replies}
use Rattle.trials.specs.Altered.{changes_of, Within}
use Rattle.steps.specs.Step.{applied}

-- the stack as the model has it, with its place
abbrev pub placed : ℕ → Stack → Placed Intention
placed place stack = record { place = place; it = view_stack stack }

-- ---- What a turn needs

-- the counts fit, and the stack is one of the stacks
pub record Standing (s : State) (place : ℕ) : Type 0 where
  pub sized : Sized s
  pub counts : counts_fit s ≡ true
  pub exists : place < stacked_of s

-- the library, the beliefs and the stack are as the code needs them
pub record Runnable (bytes : List ℕ) (beliefs : Beliefs) (stack : Stack) : Type 0 where
  pub accepted : Accepted bytes
  pub few : beliefs.count ≤ most_beliefs
  pub depth : stack.depth ≤ most_below
  pub plan : stack.top.plan < plan_count bytes
  pub tried : stack.top.tried ≤ 4

-- the queue has room for the goal of a try
abbrev pub HasRoom : State → Try → Type 0
HasRoom s try = (goal : Literal) → try ≡ posted goal → s.queued < most_queued

-- the state has these beliefs, a stack at this place, and room for what its top posts
pub record Turnable (bytes : List ℕ) (s : State) (beliefs : Beliefs) (place : ℕ) (stack : Stack) : Type 0 where
  pub beliefs_are : s.beliefs ≡ beliefs
  pub standing : Standing s place
  pub room : (b : Branch) → next_move (library_of bytes) (view beliefs) stack.top ≡ tries b
      → HasRoom s (attempt (view beliefs) (height_of (view_stack stack)) stack.top.env b)

-- ---- What comes of a branch for the instance that tried it

-- the instance after it
abbrev pub top_after : Instance → Branch → Try → Instance
top_after x b missed = try_next Active x
top_after x b (stepped env changes) = step_to b.next env x
top_after x b (done literal) = try_next Waiting x
top_after x b (posted goal) = try_next Suspended x

-- what is answered
abbrev pub answer_to : Instance → Branch → Try → Answer
answer_to x b missed = Missed x.id x.state x.tried
answer_to x b (stepped env changes) = Stepped x.id x.state x.tried b.next
answer_to x b (done literal) = Done x.id x.state x.tried literal
answer_to x b (posted goal) = Posted x.id x.state x.tried

-- what becomes of the queue
abbrev pub queue_after : Instance → Branch → Try → QueueMove
queue_after x b missed = queue.Keep
queue_after x b (stepped env changes) = queue.Keep
queue_after x b (done literal) = queue.Keep
queue_after x b (posted goal) = queue.Enqueue (new_goal x b.kind goal)

-- ---- What the end of an instance makes

-- the stacks that are left of one
abbrev pub left : Option Stack → List Intention
left None = []
left (Some stack) = view_stack stack ∷ []

-- the poster below it
abbrev pub poster_after : Ending → Library → Instance → Instance
poster_after Success library x = past_branch library x
poster_after Failure library x = x

-- what is answered
abbrev pub end_answer : Ending → ℕ → Answer
end_answer Success id = Succeeded id
end_answer Failure id = Failed id

-- the model's reply
abbrev pub end_by : Ending → Library → AgentState → Placed Intention → Reply
end_by Success library s stack = succeed library s stack
end_by Failure library s stack = fail library s stack

-- ---- What its step gives

-- the stack at a place goes, these are last in turn, and the table is the altered one
abbrev pub ended : AgentState → ℕ → List Intention → Answer → Altered → Reply
ended s place next answer altered =
    reply answer (changes_of altered)
    (record {
      beliefs = view altered.table;
      queue = s.queue;
      stacks = remove_at place s.stacks ++ next;
      taken = s.taken;
      made = s.made;
    })

-- the step that does so, on every state: the queue moves first
abbrev pub Ended : ℕ → List Intention → Answer → Altered → QueueMove → Step → Type 0
Ended place next answer altered queue t =
    (s : State) → Standing (requeue queue s) place → Within altered
    → Replies (ended (view_state (requeue queue s)) place next answer altered) (applied s t)

-- the step of an instance's end
abbrev pub Ends : Beliefs → ℕ → (AgentState → Reply) → Step → Type 0
Ends beliefs place expected t =
    (s : State) → s.beliefs ≡ beliefs → Standing s place → Replies (expected (view_state s)) (applied s t)

-- the step for a branch
abbrev pub TriesBranch : Beliefs → ℕ → Stack → Branch → Step → Type 0
TriesBranch beliefs place stack branch t =
    let try = attempt (view beliefs) (height_of (view_stack stack)) stack.top.env branch in
    (s : State) → s.beliefs ≡ beliefs → Standing s place → HasRoom s try
    → Replies (tried (view_state s) (placed place stack) branch try) (applied s t)

-- the step of a turn
abbrev pub Turns : List ℕ → Beliefs → ℕ → Stack → Step → Type 0
Turns bytes beliefs place stack t =
    (s : State) → Turnable bytes s beliefs place stack
    → Replies (turn (library_of bytes) (view_state s) (placed place stack)) (applied s t)
