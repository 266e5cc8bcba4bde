-- Tests on the elements of a state's arrays.
use Rattle.std.specs.Prelude.{Bool}
use Rattle.model.specs.declared.Instance.{Instance}
use Rattle.model.specs.declared.Origin.{Origin}
use Rattle.model.specs.State.{Intention}
use Rattle.model.specs.Instance.{is_suspended}
use Rattle.model.specs.Live.{same_origin, goal_of}

-- the instance's goal is the one of this origin
abbrev pub has_goal : Origin → Instance → Bool
has_goal origin x = same_origin origin (goal_of x)

-- the top is suspended
abbrev pub is_asleep : Intention → Bool
is_asleep stack = is_suspended stack.top.status
