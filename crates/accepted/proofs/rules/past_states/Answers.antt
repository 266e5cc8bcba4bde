-- `accepted::rules::past_states` meets its contract: each return follows from the tests on the way to it.
use mathlib.Core.Path.{ap₂, ◌∙◌}
use Rattle.std.specs.Bool.{then_some}
use Rattle.accepted.proofs.RuleLaws.{went, stuck, broken, states_end_lem}
use Rattle.accepted.proofs.RuleLaws.{states-none, states-many, states-fail, tree_decides}
use Rattle.accepted.proofs.rules.past_states.Goals as goal
use Rattle.accepted.proofs.rules.past_states.Goals.{then-count-lt1-via-then-count-lt1, then-count-lt1-via-else-count-lt1+then-count-gt-MOST_STATES}

pub returns-then-count-lt1 : goal.returns-then-count-lt1
returns-then-count-lt1 c =
    let a = c.args in
    let count = c.u16_at-count.ensures in
    broken _ _ (elim c.then-count-lt1.branch [
      | then-count-lt1-via-then-count-lt1 w ↦ states-none a.bytes.now a.at _ count w.if-count-lt1.true
      | then-count-lt1-via-else-count-lt1+then-count-gt-MOST_STATES w ↦ states-many a.bytes.now a.at _ count w.if-count-lt1.false w.if-count-gt-MOST_STATES.true
    ])

pub returns-in_err-end : goal.returns-in_err-end
returns-in_err-end c =
    let a = c.args in
    let fails = stuck _ _ c.in_err-end.ensures in
    c.from_residual.ensures
    ∙ broken _ _ (states-fail a.bytes.now a.at _ c.u16_at-count.ensures c.if-count-lt1.false c.if-count-gt-MOST_STATES.false fails)

pub returns : goal.returns
returns c =
    let a = c.args in
    let count = c.u16_at-count.ensures in
    let formed = went _ _ _ c.in_ok-end.ensures in
    let decides = tree_decides a.bytes.now a.at _ count c.if-count-lt1.false c.if-count-gt-MOST_STATES.false formed.0 in
    c.then_some.ensures ∙ ap₂ then_some (c.is_tree.ensures ∙ decides) (formed.1 ∙ states_end_lem a.bytes.now a.at _ count)
