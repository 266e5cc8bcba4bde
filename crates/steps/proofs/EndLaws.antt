-- The event that the top of a stack serves.
use Prim.Native.Nat.{◌<◌}
use mathlib.Core.Path.{◌≡◌, ap, sym}
use Rattle.model.specs.declared.Origin.TheVariants.{External}
use Rattle.model.specs.Live.{goal_of, event_on}
use Rattle.model.specs.End.{served_by}
use Rattle.state.specs.declared.Stack.{Stack}
use Rattle.state.specs.View.{depth_of, down, view_stack}
use Rattle.state.specs.Stacks.{under_top}
use Rattle.state.proofs.StackLaws.{below_view}

-- the event that the top serves: the stack's external event, or the goal of the instance under it
pub serves_external : (stack : Stack) → depth_of stack ≡ 0 → External stack.external ≡ served_by (view_stack stack)
unfolding down
serves_external stack h = rw h

pub serves_goal : (stack : Stack) → 0 < depth_of stack → goal_of (under_top stack) ≡ served_by (view_stack stack)
serves_goal stack h = sym (ap (event_on stack.external) (below_view stack h))
