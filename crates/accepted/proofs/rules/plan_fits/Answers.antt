-- `accepted::rules::plan_fits` meets its contract: the trigger, then the parts behind it, the last of which ends where the entry says.
use mathlib.Core.Path.{sym, ap₂, ◌∙◌}
use Prim.Native.Nat.{ℕ, ◌+◌}
use lib.Dec.{eqb}
use Rattle.std.specs.Prelude.{Option, Some}
use Rattle.std.specs.Option.{option_eq}
use Rattle.library.specs.Layout.{entry_off, entry_length}
use Rattle.accepted.proofs.PlanLaws.{parts_decide, trigger_fails}
use Rattle.accepted.proofs.rules.plan_fits.Goals as goal

pub returns-then-trigger_ok : goal.returns-then-trigger_ok
returns-then-trigger_ok c =
    let bytes = c.args.plan.now.library.now in
    let plan = c.args.plan.now.number in
    let end = ap₂ ◌+◌ c.offset.ensures.value c.length.ensures.value in
    c.eq.ensures
    ∙ ap₂ (λ (part : Option ℕ) (place : ℕ). option_eq eqb part (Some place)) c.past_parts.ensures end
    ∙ parts_decide bytes (entry_off bytes plan) (entry_length bytes plan) (sym c.if-trigger_ok.ensures)

pub returns-else-trigger_ok : goal.returns-else-trigger_ok
returns-else-trigger_ok c =
    let bytes = c.args.plan.now.library.now in
    c.if-trigger_ok.false ∙ trigger_fails bytes (entry_off bytes c.args.plan.now.number) (entry_length bytes c.args.plan.now.number) (sym c.if-trigger_ok.ensures)
