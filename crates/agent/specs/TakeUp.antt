-- Taking up a pending event (document 01, "Cycle", first paragraph): what the code needs, the steps that it makes,
-- and what they give on every state that has the parts that they were decided from.
-- Private vocabulary: no public contract rests on this file.
use Rattle.std.specs.Prelude.{ℕ, ◌<◌, ◌≤◌, ◌≡◌, true, false, List, map, length, take, get_or}
use Rattle.lists.specs.Search.{position}
use Rattle.belief.specs.declared.Beliefs.{Beliefs}
use Rattle.library.specs.Layout.{library_of}
use Rattle.model.specs.declared.Answer.{Answer}
use Rattle.model.specs.declared.Answer.TheVariants.{Dropped, MadeExternal, MadeGoal}
use Rattle.model.specs.declared.Event.{Event}
use Rattle.model.specs.declared.Instance.{Instance}
use Rattle.model.specs.declared.Origin.{Origin}
use Rattle.model.specs.Instance.{awake}
use Rattle.model.specs.State.{most_stacks, AgentState, Reply}
use Rattle.model.specs.Live.{is_goal, is_poster}
use Rattle.situation.specs.Applicable.{Chosen}
use Rattle.model.specs.Event.{new_instance, pushed, make, take_up}
use Rattle.model.specs.Cycle.{choice_for}
use Rattle.state.specs.declared.Stack.{Stack}
use Rattle.state.specs.declared.State.{State}
use Rattle.state.specs.View.{most_below, no_stack, view_stack, stacked_of, view_state, counts_fit}
use Rattle.state.specs.Stacks.{replace_top}
use Rattle.moves.specs.declared.QueueMove.TheVariants as queue
use Rattle.moves.specs.declared.StackMove.TheVariants as stacks
use Rattle.moves.specs.declared.Numbering.TheVariants as numbering
use Rattle.steps.specs.declared.step.Step.{Step}
use Rattle.steps.specs.View.{Sized}
use Rattle.steps.specs.Gives.{Replies, Gives}
use Rattle.steps.specs.Step.{opened_stack, plain_step, applied}

-- ---- What taking up an event needs

-- the stacks in use
abbrev pub standing : State → List Stack
standing s = take (stacked_of s) s.stacks

-- the stack whose top posted this goal
abbrev pub poster_in : List Stack → Origin → ℕ
poster_in stacks goal = position (is_poster goal) (map view_stack stacks)

-- some top posted the goal, and its stack has room for one instance more
pub record HasPoster (stacks : List Stack) (goal : Origin) : Type 0 where
  pub there : poster_in stacks goal < length stacks
  pub room : (get_or stacks (poster_in stacks goal) no_stack).depth < most_below

-- an instance for an event of this origin has its place: on a new stack, or on its poster's
pub record HasPlace (stacks : List Stack) (origin : Origin) : Type 0 where
  pub external : is_goal origin ≡ false → length stacks < most_stacks
  pub goal : is_goal origin ≡ true → HasPoster stacks origin

-- ---- The steps

-- an instance for an external event, on a new stack last in turn
abbrev pub opened_step : Beliefs → Instance → ℕ → Step
opened_step beliefs x external =
    plain_step beliefs (MadeExternal x.id x.plan external) queue.Keep stacks.Open (opened_stack external x) (numbering.Made x.id)

-- an instance for a goal, on its poster's stack
pub record Pushes (beliefs : Beliefs) (x : Instance) (instance poster : ℕ) (stack : Stack) (t : Step) : Type 0 where
  pub step : t ≡ plain_step beliefs (MadeGoal x.id x.plan instance) queue.Keep (stacks.Replace poster) t.stack (numbering.Made x.id)
  pub higher : view_stack t.stack ≡ pushed x (view_stack stack)
  pub depth : t.stack.depth ≤ most_below

-- an external event leaves the queue; which stack stands in the step does not matter
abbrev pub Drops : Beliefs → ℕ → ℕ → ℕ → Step → Type 0
Drops beliefs place external failures t =
    t ≡ plain_step beliefs (Dropped external failures) (queue.Remove place) stacks.Keep t.stack numbering.Keep

-- a goal leaves the queue, and its poster is active again
abbrev pub unmet_step : Beliefs → ℕ → Answer → ℕ → Stack → Step
unmet_step beliefs place answer poster stack =
    plain_step beliefs answer (queue.Remove place) (stacks.Replace poster) (replace_top stack (awake stack.top)) numbering.Keep

-- ---- What they give

-- the state has these beliefs, these stacks, and this number of instances made
pub record Has (s : State) (beliefs : Beliefs) (made : ℕ) (stacks : List Stack) : Type 0 where
  pub sized : Sized s
  pub fit : counts_fit s ≡ true
  pub beliefs_are : s.beliefs ≡ beliefs
  pub made_is : s.made ≡ made
  pub stacks_are : standing s ≡ stacks

-- the step of an instance made
abbrev pub Makes : Beliefs → ℕ → List Stack → (AgentState → Reply) → Step → Type 0
Makes beliefs made stacks expected t =
    (s : State) → Has s beliefs made stacks → Replies (expected (view_state s)) (applied s t)

-- the step of this instance made for an event of this origin, where it is the next one of a plan that was chosen
abbrev pub MakesFor : Beliefs → ℕ → List Stack → Origin → Instance → Step → Type 0
MakesFor beliefs made stacks origin x t =
    (chosen : Chosen) → x ≡ new_instance made chosen → Makes beliefs made stacks (λ s. make s chosen origin) t

-- the step of an event closed, whatever number of instances was made
abbrev pub Closes : Beliefs → List Stack → (AgentState → Reply) → Step → Type 0
Closes beliefs stacks expected t =
    (s : State) → Has s beliefs s.made stacks → Replies (expected (view_state s)) (applied s t)

-- the step of an event taken up
abbrev pub TakesUp : List ℕ → Beliefs → ℕ → List Stack → ℕ → Event → Step → Type 0
TakesUp bytes beliefs made stacks place event t =
    (s : State) → Has s beliefs made stacks
    → Gives s (take_up (view_state s) (record { place = place; it = event }) (choice_for (library_of bytes) (view_state s) event))
    (applied s t)
