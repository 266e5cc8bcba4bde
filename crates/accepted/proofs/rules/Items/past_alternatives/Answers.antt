-- `accepted::rules::Items::past_alternatives` meets its contract. The loop's invariant: what is left ends as the whole does.
use Prim.Native.Nat.{ℕ}
use mathlib.Core.Path.{ap, ◌∙◌}
use native.Mathlib.Omega.{arith}
use Rattle.library.proofs.RowLaws.{all_left}
use Rattle.accepted.proofs.RuleLaws.{alternatives_end, alternatives-step, alternatives_stop, alternatives_done}
use Rattle.accepted.proofs.rules.Items.past_alternatives.Goals as goal

pub loop-init : goal.loop-init
loop-init c = let a = c.args.self.now in (omega arith, ap (λ (n : ℕ). alternatives_end a.bytes.now n a.from) (all_left a.count))

pub returns-then-count-gt-MOST_ITEMS-clause-value : goal.returns-then-count-gt-MOST_ITEMS-clause-value
returns-then-count-gt-MOST_ITEMS-clause-value c =
    let l = c.loop in
    alternatives_stop c.args.self.now.bytes.now c.args.self.now.count l.counter l.at _ c.u16_at-count.ensures (omega arith) c.if-count-gt-MOST_ITEMS.true ∙ l.invariant.1

pub loop-preserved : goal.loop-preserved
loop-preserved c =
    let l = c.loop in
    (omega arith, alternatives-step c.args.self.now.bytes.now c.args.self.now.count l.counter l.at _ c.u16_at-count.ensures (omega arith) c.if-count-gt-MOST_ITEMS.false ∙ l.invariant.1)

pub returns-clause-value : goal.returns-clause-value
returns-clause-value c = let l = c.loop in alternatives_done c.args.self.now.bytes.now c.args.self.now.count l.counter l.at (omega arith) ∙ l.invariant.1
