-- `situation::choose_plan` meets its contract: the first applicable plan from a number on is the first of all, and the one found is that.
use native.Mathlib.Nat.{sub-zero}
use mathlib.Core.Path.{ap, ◌∙◌}
use Rattle.library.specs.Layout.{plan_of, library_of}
use Rattle.situation.specs.Applicable.{choose}
use Rattle.situation.specs.Selected.{selected}
use Rattle.situation.proofs.ChoiceLaws.{choose_hit, choose-miss, choose-end}
use Rattle.situation.proofs.choose_plan.Goals as goal

pub loop-number-init : goal.loop-number-init
unfolding choose library_of
loop-number-init c = rw (c.plan_count-number-end.ensures, sub-zero)

pub returns-in-Some : goal.returns-in-Some
returns-in-Some c =
    let a = c.args in
    let l = c.loop-number in
    ap selected (choose_hit c.as_slice-held.result.now a.kind a.l a.failed (plan_of a.bytes.now) l.number c.plan_count-number-end.result c.loop-number-test.true c.in-Some.env c.in-Some.ensures
    ∙ l.invariant ∙ rw c.as_slice-held.ensures)

pub loop-number-preserved : goal.loop-number-preserved
loop-number-preserved c =
    let a = c.args in
    let l = c.loop-number in
    choose-miss c.as_slice-held.result.now a.kind a.l a.failed (plan_of a.bytes.now) l.number c.plan_count-number-end.result c.loop-number-test.true c.in_default.ensures ∙ l.invariant

pub returns : goal.returns
returns c =
    let a = c.args in
    let l = c.loop-number in
    rw c.empty.ensures (ap selected (choose-end c.as_slice-held.result.now a.kind a.l a.failed (plan_of a.bytes.now) l.number c.plan_count-number-end.result c.loop-number-test.false
    ∙ l.invariant ∙ rw c.as_slice-held.ensures))
