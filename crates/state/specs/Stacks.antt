-- The stacks' changes, every place of their arrays.
use Rattle.std.specs.Prelude.{ℕ, ◌+◌, ◌-◌, cond, List, set, get_or, ltb}
use Rattle.lists.specs.Gap.{close_gap}
use Rattle.model.specs.declared.Instance.{Instance}
use Rattle.model.specs.State.{most_stacks}
use Rattle.state.specs.declared.Stack.{Stack}
use Rattle.state.specs.declared.State.{State}
use Rattle.state.specs.View.{most_below, depth_of, no_instance, stacked_of}

-- ---- One stack

abbrev pub replace_top : Stack → Instance → Stack
replace_top stack x = record { top = x; below = stack.below; depth = stack.depth; external = stack.external }

-- one instance more on top; nothing changes where there is no room
unfoldable pub push : Stack → Instance → Stack
push stack x =
    cond (ltb stack.depth most_below)
    (record { top = x; below = set stack.below stack.depth stack.top; depth = stack.depth + 1; external = stack.external })
    stack

-- the stack without its top, another instance in the place of the one below it
unfoldable pub pop : Stack → Instance → Stack
pop stack x = record { top = x; below = stack.below; depth = depth_of stack - 1; external = stack.external }

-- the instance below the top
unfoldable pub under_top : Stack → Instance
under_top stack = get_or stack.below (depth_of stack - 1) no_instance

-- ---- The stacks

-- the state with other stacks
abbrev pub with_stacks : State → List Stack → ℕ → State
with_stacks s stacks stacked =
    record {
      beliefs = s.beliefs;
      queue = s.queue;
      queued = s.queued;
      stacks = stacks;
      stacked = stacked;
      taken = s.taken;
      made = s.made;
    }

-- one stack more, last in turn; nothing changes where there is no room
unfoldable pub open_last : State → Stack → State
open_last s stack = cond (ltb s.stacked most_stacks) (with_stacks s (set s.stacks s.stacked stack) (s.stacked + 1)) s

-- another stack at a place; nothing changes where no stack stands there
unfoldable pub put_at : State → ℕ → Stack → State
put_at s place stack = cond (ltb place (stacked_of s)) (with_stacks s (set s.stacks place stack) s.stacked) s

-- without the stack at a place, the gap closed; nothing changes where no stack stands there
unfoldable pub drop_at : State → ℕ → State
drop_at s place = cond (ltb place (stacked_of s)) (with_stacks s (close_gap place (stacked_of s - 1) s.stacks) (stacked_of s - 1)) s

-- without the stack at a place, and another last in turn
unfoldable pub turn_last : State → ℕ → Stack → State
turn_last s place stack =
    cond (ltb place (stacked_of s))
    (with_stacks s (set (close_gap place (stacked_of s - 1) s.stacks) (stacked_of s - 1) stack) (stacked_of s)) s
