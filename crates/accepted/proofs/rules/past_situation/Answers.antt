-- `accepted::rules::past_situation` meets its contract: the number of alternatives decides, then theirs of literals.
use mathlib.Core.Path.{ap₂, ◌∙◌}
use Rattle.std.specs.Bool.{then_some}
use Rattle.accepted.proofs.RuleLaws.{broken, situation-many, situation-few, situation_end_lem}
use Rattle.accepted.proofs.rules.past_situation.Goals as goal

pub returns-then-count-gt-MOST_ITEMS-clause-value : goal.returns-then-count-gt-MOST_ITEMS-clause-value
returns-then-count-gt-MOST_ITEMS-clause-value c =
    broken _ _ (situation-many c.args.bytes.now c.args.at _ c.u16_at-count.ensures c.if-count-gt-MOST_ITEMS.true)

pub returns-clause-value : goal.returns-clause-value
returns-clause-value c =
    let a = c.args in
    let count = c.u16_at-count.ensures in
    c.past_alternatives.ensures.value
    ∙ ap₂ then_some (situation-few a.bytes.now a.at _ count c.if-count-gt-MOST_ITEMS.false) (situation_end_lem a.bytes.now a.at _ count)
