-- `accepted::stages::beliefs_ok` meets its contract. The loop's invariant: the places passed hold their beliefs.
use Prim.Native.Nat.{ℕ, ◌<◌}
use mathlib.Core.Path.{◌≡◌}
use lib.ListN.{get_or}
use Rattle.library.specs.Plan.{no_literal}
use Rattle.library.specs.Layout.{beliefs_of}
use Rattle.accepted.proofs.stages.beliefs_ok.Given as goal

abbrev pub invariant-loop-place : goal.invariant-loop-place
invariant-loop-place l = (k : ℕ) → k < l.place → get_or l.beliefs k no_literal ≡ get_or (beliefs_of l.library) k no_literal
