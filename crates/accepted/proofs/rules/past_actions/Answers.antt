-- `accepted::rules::past_actions` meets its contract: their number decides, then their kinds.
use mathlib.Core.Path.{sym, ◌∙◌}
use Rattle.accepted.proofs.RuleLaws.{broken, kept, actions-many, actions-few, actions_end_lem}
use Rattle.accepted.proofs.rules.past_actions.Goals as goal
use Rattle.accepted.proofs.rules.past_actions.Goals.{then-count-gt-MOST_ITEMS-via-then-count-gt-MOST_ITEMS, then-count-gt-MOST_ITEMS-via-else-count-gt-MOST_ITEMS+then-not-are_actions}

pub returns-then-count-gt-MOST_ITEMS-clause-value : goal.returns-then-count-gt-MOST_ITEMS-clause-value
returns-then-count-gt-MOST_ITEMS-clause-value c =
    let a = c.args in
    let count = c.u16_at-count.ensures in
    broken _ _ (elim c.then-count-gt-MOST_ITEMS.branch [
      | then-count-gt-MOST_ITEMS-via-then-count-gt-MOST_ITEMS w ↦ actions-many a.bytes.now a.at _ count w.if-count-gt-MOST_ITEMS.true
      | then-count-gt-MOST_ITEMS-via-else-count-gt-MOST_ITEMS+then-not-are_actions w ↦
          sym w.if-not-are_actions.true ∙ w.are_actions.ensures ∙ actions-few a.bytes.now a.at _ count w.if-count-gt-MOST_ITEMS.false
    ])

pub returns-clause-value : goal.returns-clause-value
returns-clause-value c =
    let a = c.args in
    let count = c.u16_at-count.ensures in
    let decides = actions-few a.bytes.now a.at _ count c.if-count-gt-MOST_ITEMS.false in
    kept _ _ _ (sym decides ∙ sym c.are_actions.ensures ∙ c.if-not-are_actions.false) (actions_end_lem a.bytes.now a.at _ count)
