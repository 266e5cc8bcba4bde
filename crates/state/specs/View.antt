-- What the arrays of a state mean: the model's state (document 01, "State"). Places past a count are no part of it.
use Rattle.std.specs.Prelude.{ℕ, zero, suc, min, Bool, ◌&&◌, List, [], ◌∷◌, map, take, get_or, leb}
use Rattle.std.specs.List.{list_all}
use Rattle.belief.specs.Beliefs.{most_beliefs, view}
use Rattle.model.specs.declared.Event.{Event}
use Rattle.model.specs.declared.Instance.{Instance}
use Rattle.model.specs.declared.Status.TheVariants.{Active}
use Rattle.model.specs.State.{most_stacks, most_queued, Intention, AgentState}
use Rattle.state.specs.declared.Stack.{Stack}
use Rattle.state.specs.declared.State.{State}

-- the most instances below the top of a stack
abbrev pub most_below : ℕ
most_below = 7

-- what stands where no instance is
abbrev pub no_instance : Instance
no_instance = record { id = 0; plan = 0; env = record { terms = [] }; state = 0; tried = 0; status = Active }

-- what stands where no stack is
abbrev pub no_stack : Stack
no_stack = record { top = no_instance; below = []; depth = 0; external = 0 }

-- ---- A stack

-- how many places below the top are in use
abbrev pub depth_of : Stack → ℕ
depth_of stack = min stack.depth most_below

-- the first n instances, the last of them first
unfoldable pub down : ℕ → List Instance → List Instance
down zero xs = []
down (suc n) xs = get_or xs n no_instance ∷ down n xs

abbrev pub view_stack : Stack → Intention
view_stack stack = record { external = stack.external; top = stack.top; below = down (depth_of stack) stack.below }

-- ---- The state

abbrev pub queued_of : State → ℕ
queued_of s = min s.queued most_queued

abbrev pub stacked_of : State → ℕ
stacked_of s = min s.stacked most_stacks

abbrev pub view_queue : State → List Event
view_queue s = take (queued_of s) s.queue

abbrev pub view_stacks : State → List Intention
view_stacks s = map view_stack (take (stacked_of s) s.stacks)

abbrev pub view_state : State → AgentState
view_state s = record { beliefs = view s.beliefs; queue = view_queue s; stacks = view_stacks s; taken = s.taken; made = s.made }

-- every count is within its array
unfoldable pub counts_fit : State → Bool
counts_fit s =
    leb s.beliefs.count most_beliefs && (leb s.queued most_queued && (leb s.stacked most_stacks
    && list_all (λ stack. leb stack.depth most_below) (take (stacked_of s) s.stacks)))
