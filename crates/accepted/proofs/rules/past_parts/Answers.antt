-- `accepted::rules::past_parts` meets its contract: each part begins where the one before it ends.
use mathlib.Core.Path.{sym, ap, ◌∙◌}
use Rattle.library.specs.Layout.{entry_off}
use Rattle.accepted.proofs.PlanLaws.{past_situation, goes_no_further, goes_on, parts_end}
use Rattle.accepted.proofs.rules.past_parts.Goals as goal

pub returns-in_err-maintenance : goal.returns-in_err-maintenance
returns-in_err-maintenance c =
    let bytes = c.args.plan.now.library.now in
    let maintenance = ap (past_situation bytes) (sym c.context_offset.ensures.value) ∙ sym c.in_err-maintenance.ensures.value in
    c.from_residual.ensures ∙ goes_no_further _ _ maintenance ∙ parts_end bytes (entry_off bytes c.args.plan.now.number)

pub returns-in_err-success : goal.returns-in_err-success
returns-in_err-success c =
    let bytes = c.args.plan.now.library.now in
    let maintenance = ap (past_situation bytes) (sym c.context_offset.ensures.value) ∙ sym c.in_ok-maintenance.ensures.value in
    c.from_residual-in_err-success.ensures
    ∙ goes_no_further _ _ (sym c.in_err-success.ensures.value)
    ∙ goes_on _ _ _ maintenance
    ∙ parts_end bytes (entry_off bytes c.args.plan.now.number)

pub returns-in_err-failure : goal.returns-in_err-failure
returns-in_err-failure c =
    let bytes = c.args.plan.now.library.now in
    let maintenance = ap (past_situation bytes) (sym c.context_offset.ensures.value) ∙ sym c.in_ok-maintenance.ensures.value in
    c.from_residual-in_err-failure.ensures
    ∙ goes_no_further _ _ (sym c.in_err-failure.ensures.value)
    ∙ goes_on _ _ _ (sym c.in_ok-success.ensures.value)
    ∙ goes_on _ _ _ maintenance
    ∙ parts_end bytes (entry_off bytes c.args.plan.now.number)

pub returns-in_err-states : goal.returns-in_err-states
returns-in_err-states c =
    let bytes = c.args.plan.now.library.now in
    let maintenance = ap (past_situation bytes) (sym c.context_offset.ensures.value) ∙ sym c.in_ok-maintenance.ensures.value in
    c.from_residual-in_err-states.ensures
    ∙ goes_no_further _ _ (sym c.in_err-states.ensures.value)
    ∙ goes_on _ _ _ (sym c.in_ok-failure.ensures.value)
    ∙ goes_on _ _ _ (sym c.in_ok-success.ensures.value)
    ∙ goes_on _ _ _ maintenance
    ∙ parts_end bytes (entry_off bytes c.args.plan.now.number)

pub returns : goal.returns
returns c =
    let bytes = c.args.plan.now.library.now in
    let maintenance = ap (past_situation bytes) (sym c.context_offset.ensures.value) ∙ sym c.in_ok-maintenance.ensures.value in
    c.past_states.ensures
    ∙ goes_on _ _ _ (sym c.in_ok-states.ensures.value)
    ∙ goes_on _ _ _ (sym c.in_ok-failure.ensures.value)
    ∙ goes_on _ _ _ (sym c.in_ok-success.ensures.value)
    ∙ goes_on _ _ _ maintenance
    ∙ parts_end bytes (entry_off bytes c.args.plan.now.number)
