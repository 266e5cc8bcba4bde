-- The turn of a stack (document 01, "Cycle", steps 1 to 4; dMARS 6.1, Succeeded and Failed; 8.4, SelectIntention; 8.1, selectbranch;
-- 5, Plan.maint).
-- Departs from dMARS: stacks run in turn, branches in order; maintenance is tested first at each turn.
use Rattle.std.specs.Prelude.{ℕ, ◌+◌, Bool, cond, not, List, leb, eqb, length, get_or}
use Rattle.lists.specs.Places.{Placed}
use Rattle.literal.specs.declared.Literal.{Literal}
use Rattle.library.specs.declared.Branch.{Branch}
use Rattle.library.specs.Plan.{Library, no_branch}
use Rattle.situation.specs.Solutions.{holds_from}
use Rattle.model.specs.declared.Instance.{Instance}
use Rattle.model.specs.State.{Intention, AgentState, Reply}
use Rattle.model.specs.Instance.{is_active, plan_of, branches_of}
use Rattle.model.specs.Try.{attempt, tried}
use Rattle.model.specs.End.{succeed, fail}

-- what an instance does at its turn
pub data Move : Type 0 where
  fails : Move
  succeeds : Move
  tries : Branch → Move

-- maintenance does not hold: fails; end state: succeeds; no untried branch: fails; otherwise tries the next branch
unfoldable pub move_by : Bool → List Branch → ℕ → Move
move_by maintained branches n =
    cond (not maintained) fails
    (cond (eqb (length branches) 0) succeeds
    (cond (leb (length branches) n) fails (tries (get_or branches n no_branch))))

-- maintenance is searched from the instance's environment, and binds nothing
unfoldable pub next_move : Library → List Literal → Instance → Move
next_move library beliefs x =
    move_by (holds_from beliefs (plan_of library x).maintenance x.env) (branches_of library x) x.tried

-- how many instances the stack has
abbrev pub height_of : Intention → ℕ
height_of stack = length stack.below + 1

-- by the move of the stack's top
unfoldable pub turn_by : Library → AgentState → Placed Intention → Move → Reply
turn_by library s stack fails = fail library s stack
turn_by library s stack succeeds = succeed library s stack
turn_by library s stack (tries b) = tried s stack b (attempt s.beliefs (height_of stack.it) stack.it.top.env b)

-- the first stack whose top is active runs
abbrev pub is_running : Intention → Bool
is_running stack = is_active stack.top.status

-- the turn of a stack
unfoldable pub turn : Library → AgentState → Placed Intention → Reply
turn library s stack = turn_by library s stack (next_move library s.beliefs stack.it.top)
