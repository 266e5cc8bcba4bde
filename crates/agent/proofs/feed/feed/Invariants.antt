-- `agent::feed::feed`, the loop over lines: what is read was run and printed, and what is trusted of the state still holds.
use Prim.Native.Nat.{◌-◌, ◌≤◌}
use mathlib.Core.Path.{◌≡◌}
use lib.ListN.{length}
use Rattle.steps.specs.View.{Sized}
use Rattle.agent.specs.Feed.{Trusted, Progress, Between}
use Rattle.agent.proofs.feed.feed.Given as goal

abbrev pub invariant-loop-read : goal.invariant-loop-read
invariant-loop-read l = record {
  within : l.read ≤ length l.chunk;
  room : l.wrote ≤ length l.out;
  long : length l.out ≡ length l.initial.out;
  trusted : Trusted l.formed l.library l.state;
  progress : Progress l.library l.formed l.fn.a.state l.fn.carry l.chunk l.initial.out l.out l.state l.held l.read l.wrote;
  between : Between l.fn.carry l.held l.read;
  sized : Sized l.state;
}

abbrev pub decreases-loop-read : goal.decreases-loop-read
decreases-loop-read l = length l.chunk - l.read
