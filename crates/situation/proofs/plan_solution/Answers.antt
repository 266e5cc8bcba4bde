-- `situation::plan_solution` meets its contract: each test leaves the plan with no solutions, or leads to those of its context.
use mathlib.Core.Path.{ap, sym, ◌∙◌}
use Rattle.literal.specs.declared.Literal.{Literal}
use Rattle.library.specs.Layout.{plan_at, plan_of}
use Rattle.situation.specs.Applicable.{triggered}
use Rattle.situation.proofs.ChoiceLaws.{plan-failed, plan_other_kind, plan-not-triggered, plan_starts, no_start}
use Rattle.situation.proofs.plan_solution.Goals as goal

pub returns-then-has : goal.returns-then-has
returns-then-has c =
    let a = c.args in
    let plan = plan_of a.bytes.now a.number in
    no_start a.beliefs.now a.kind a.l a.failed a.number plan (plan-failed a.beliefs.now a.kind a.l a.failed a.number plan (sym c.has.ensures ∙ c.if-has.true))

pub returns-then-trigger_kind-kind : goal.returns-then-trigger_kind-kind
returns-then-trigger_kind-kind c =
    let a = c.args in
    let plan = plan_of a.bytes.now a.number in
    let fresh = sym c.has.ensures ∙ c.if-has.false in
    no_start a.beliefs.now a.kind a.l a.failed a.number plan (plan_other_kind a.beliefs.now a.kind a.l a.failed a.number plan fresh (λ q. c.if-trigger_kind-kind.true (c.trigger_kind.ensures ∙ q)))

pub returns-in_err-env : goal.returns-in_err-env
returns-in_err-env c =
    let a = c.args in
    let plan = plan_of a.bytes.now a.number in
    let fresh = sym c.has.ensures ∙ c.if-has.false in
    let kind = sym c.trigger_kind.ensures ∙ c.if-trigger_kind-kind.false in
    let missed = ap (λ (t : Literal). triggered t a.l) (sym c.trigger.ensures) ∙ sym c.triggered_by.ensures ∙ c.in_err-env.was in
    c.from_residual.ensures ∙ no_start a.beliefs.now a.kind a.l a.failed a.number plan (plan-not-triggered a.beliefs.now a.kind a.l a.failed a.number plan fresh kind missed)

pub returns : goal.returns
unfolding plan_at
returns c =
    let a = c.args in
    let plan = plan_of a.bytes.now a.number in
    let fresh = sym c.has.ensures ∙ c.if-has.false in
    let kind = sym c.trigger_kind.ensures ∙ c.if-trigger_kind-kind.false in
    let matched = ap (λ (t : Literal). triggered t a.l) (sym c.trigger.ensures) ∙ sym c.triggered_by.ensures ∙ c.in_ok-env.was in
    plan_starts a.beliefs.now a.kind a.l a.failed a.number plan fresh kind c.in_ok-env.env c.searched.result matched
    (rw (← c.context_offset.ensures.value, ← c.trigger_least.ensures) c.searched.ensures)
