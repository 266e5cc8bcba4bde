-- `state::search::live_count` meets its contract. The loop's invariant: what was found and the tops to come, with those below them, make the whole.
use Prim.Native.Nat.{ℕ, ◌+◌, ◌*◌, ◌≤◌}
use mathlib.Core.Path.{◌≡◌}
use mathlib.Core.List.{List, map}
use lib.ListN.{length, drop}
use Rattle.model.specs.Live.{live}
use Rattle.state.specs.declared.Stack.{Stack}
use Rattle.state.specs.View.{view_stack}
use Rattle.state.proofs.search.live_count.Given as goal

abbrev pub live_of : List Stack → ℕ
live_of stacks = length (live (map view_stack stacks))

abbrev pub invariant-loop-stack : goal.invariant-loop-stack
invariant-loop-stack l =
    (l.found ≤ length l.stacks + 7 * l.stack-index)
    × (l.found + live_of (drop l.stack-index l.stacks) + l.stack-index ≡ live_of l.stacks + length l.stacks)
