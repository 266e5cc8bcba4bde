-- `agent::cycle::cycle_on` meets its contract: an event that is ready, else a stack that runs, else idle.
use native.Mathlib.Omega.{arith}
use Prim.Native.Nat.{◌<◌}
use mathlib.Core.Path.{refl, sym, subst⁻¹}
use mathlib.Core.List.{List}
use Rattle.model.specs.Turn.{is_running}
use Rattle.state.specs.declared.Stack.{Stack}
use Rattle.state.specs.View.{stacked_of}
use Rattle.state.proofs.CountParts.{counts-parts}
use Rattle.steps.specs.View.{event_at}
use Rattle.agent.specs.TakeUp.{HasPlace, Has}
use Rattle.steps.proofs.StepLaws.{rest-applied}
use Rattle.agent.proofs.FormedFacts.{has_place, runnable, turnable}
use Rattle.agent.proofs.CycleLaws.{event_found, event_missing, cycled_event, cycled-turn, cycled_idle}
use Rattle.agent.proofs.LookLaws.{stack_found, stack_missing}
use Rattle.agent.proofs.cycle.cycle_on.Goals as goal

pub invariant_of-taken : goal.invariant_of-taken
invariant_of-taken c =
    let (w, sized) = c.requires in
    let bytes = c.args.library.now in
    let s = c.args.s.now in
    let at = event_found s sized.queue c.next_event.result (rw (c.events.ensures.value, c.standing.ensures.value) at c.next_event.ensures) c.in-Some.place c.in-Some.is in
    let place = has_place bytes s w.fit w.formed sized c.in-Some.place at.0 at.1 in
    record { has_place = subst⁻¹ (λ (ks : List Stack). HasPlace ks (event_at s c.in-Some.place).origin) c.standing-in-Some.ensures.value place }

pub returns-in-Some : goal.returns-in-Some
returns-in-Some c =
    let (w, sized) = c.requires in
    let bytes = c.args.library.now in
    let s = c.args.s.now in
    let at = event_found s sized.queue c.next_event.result (rw (c.events.ensures.value, c.standing.ensures.value) at c.next_event.ensures) c.in-Some.place c.in-Some.is in
    let has : Has s s.beliefs s.made c.standing-in-Some.result.now
    = record { sized = sized; fit = w.fit; beliefs_are = refl; made_is = refl; stacks_are = sym c.standing-in-Some.ensures.value } in
    cycled_event bytes s sized.queue sized.stacks c.in-Some.place at.0 at.1 _ (c.step.ensures s has)

pub invariant_of-turn : goal.invariant_of-turn
invariant_of-turn c =
    let (w, sized) = c.requires in
    let bytes = c.args.library.now in
    let s = c.args.s.now in
    let few = (counts-parts s w.fit).stacked in
    let at = stack_found s few c.standing-2.result.now c.standing-2.ensures.value c.standing-2.ensures.len is_running c.next_stack.result c.next_stack.ensures c.in-Some-next_stack.place c.in-Some-next_stack.is in
    record { runnable = runnable bytes s w.fit w.formed sized w.accepted c.in-Some-next_stack.place (omega (arith, at.1, few)) }

pub returns-in-Some-next_stack : goal.returns-in-Some-next_stack
returns-in-Some-next_stack c =
    let (w, sized) = c.requires in
    let bytes = c.args.library.now in
    let s = c.args.s.now in
    let few = (counts-parts s w.fit).stacked in
    let at = stack_found s few c.standing-2.result.now c.standing-2.ensures.value c.standing-2.ensures.len is_running c.next_stack.result c.next_stack.ensures c.in-Some-next_stack.place c.in-Some-next_stack.is in
    let low : c.in-Some-next_stack.place < stacked_of s = omega (arith, at.1, few) in
    let past = event_missing s sized.queue c.next_event.result (rw (c.events.ensures.value, c.standing.ensures.value) at c.next_event.ensures) c.in_default.is in
    let turns = turnable bytes s w.fit w.formed sized w.accepted c.in-Some-next_stack.place low at.0 in
    cycled-turn bytes s sized.queue sized.stacks _ refl past c.in-Some-next_stack.place at.0 low _ (c.step-in-Some-next_stack.ensures s turns)

pub returns : goal.returns
returns c =
    let (w, sized) = c.requires in
    let bytes = c.args.library.now in
    let s = c.args.s.now in
    let few = (counts-parts s w.fit).stacked in
    let past = event_missing s sized.queue c.next_event.result (rw (c.events.ensures.value, c.standing.ensures.value) at c.next_event.ensures) c.in_default.is in
    let none = stack_missing s few c.standing-2.result.now c.standing-2.ensures.value c.standing-2.ensures.len is_running c.next_stack.result c.next_stack.ensures c.in_default-next_stack.is in
    cycled_idle bytes s sized.queue sized.stacks _ refl past _ refl (omega (arith, none, few)) w.fit _ (rest-applied s s.beliefs _ c.unchanged.result c.unchanged.ensures refl)
