-- `accepted::rules::Items::past_alternatives` meets its contract. The loop's invariant: what is left ends as the whole does.
use Prim.Native.Nat.{◌≤◌, ◌+◌, ◌*◌, ◌-◌}
use mathlib.Core.Path.{◌≡◌}
use Rattle.accepted.proofs.RuleLaws.{alternatives_end}
use Rattle.accepted.proofs.rules.Items.past_alternatives.Given as goal

abbrev pub invariant-loop : goal.invariant-loop
invariant-loop l = (l.at ≤ l.self.from + 34 * l.counter) × (alternatives_end l.self.bytes.now (l.self.count - l.counter) l.at ≡ alternatives_end l.self.bytes.now l.self.count l.self.from)
