-- `accepted::rules::States::past` meets its contract. The loop's invariant: what is left ends as the whole does.
use Prim.Native.Nat.{◌≤◌, ◌+◌, ◌*◌}
use mathlib.Core.Path.{◌≡◌}
use Rattle.accepted.proofs.RuleLaws.{states_end_from}
use Rattle.accepted.proofs.rules.States.past.Given as goal

abbrev pub invariant-loop-state : goal.invariant-loop-state
invariant-loop-state l = (l.at ≤ l.self.from + 786422 * l.state) × (states_end_from l.self.count l.self.bytes.now l.state l.at ≡ states_end_from l.self.count l.self.bytes.now 0 l.self.from)
