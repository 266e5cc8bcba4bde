-- `agent::event::TakeUp::step` meets its contract: the choice decides, then the number that is left.
use native.Mathlib.Omega.{arith}
use Prim.Native.Nat.{ℕ, ◌<◌, ◌≤◌}
use mathlib.Core.Path.{refl, subst⁻¹}
use Rattle.model.specs.State.{most_number}
use Rattle.steps.proofs.StepLaws.{rest-applied}
use Rattle.agent.proofs.TakeUpLaws.{closed, refused, made}
use Rattle.agent.proofs.event.TakeUp.step.Goals as goal

pub returns-in_default : goal.returns-in_default
returns-in_default c = λ s h.
    let a = c.args.self.now in
    let choice = c.choose_plan-selected in
    closed s a.place a.library.now a.event choice.result _ a.beliefs h.beliefs_are choice.ensures c.in_default.is
    (c.close.ensures s (record { sized = h.sized; fit = h.fit; beliefs_are = h.beliefs_are; made_is = refl; stacks_are = h.stacks_are }))

pub returns-in_default-checked_add : goal.returns-in_default-checked_add
returns-in_default-checked_add c = λ s h.
    let a = c.args.self.now in
    let choice = c.choose_plan-selected in
    let full : most_number ≤ a.made = omega (arith, c.in_default-checked_add.ensures) in
    refused s a.place a.library.now a.event choice.result _ a.beliefs h.beliefs_are choice.ensures _ c.in-Some.is
    (subst⁻¹ (λ (m : ℕ). most_number ≤ m) h.made_is full) h.fit (rest-applied s a.beliefs _ c.unchanged.result c.unchanged.ensures h.beliefs_are)

pub returns : goal.returns
returns c = λ s h.
    let a = c.args.self.now in
    let choice = c.choose_plan-selected in
    let next = c.in-Some-checked_add.ensures in
    let low : a.made < most_number = omega (arith, next.0) in
    made s a.place a.library.now a.event choice.result _ a.beliefs h.beliefs_are choice.ensures _ c.in-Some.is
    (subst⁻¹ (λ (m : ℕ). m < most_number) h.made_is low)
    (c.make.ensures (record { plan = c.in-Some.plan; env = choice.result.env }) (rw next.1 refl) s h)
