-- `agent::respond::act` meets its contract: what the look told has its worker.
use native.Mathlib.Omega.{arith}
use mathlib.Core.Path.{refl, subst, subst⁻¹}
use mathlib.Core.List.{List}
use Rattle.model.specs.declared.Event.{Event}
use Rattle.model.specs.State.{report, cycle}
use Rattle.model.specs.Calls.{act}
use Rattle.reading.specs.Spoken.{meaning}
use Rattle.steps.specs.Report.{Reports}
use Rattle.steps.specs.Step.{applied}
use Rattle.agent.specs.Feed.{Responds}
use Rattle.steps.proofs.ReportLaws.{report_gives}
use Rattle.steps.proofs.StepLaws.{rest-applied}
use Rattle.agent.proofs.FormedFacts.{hears}
use Rattle.agent.proofs.FeedLaws.{responds_act, as_told}
use Rattle.agent.proofs.LookLaws.{within, answers-respond, turn_runnable, turn_responds, tell_responds}
use Rattle.agent.proofs.respond.act.Goals as goal

pub returns-in-Answered : goal.returns-in-Answered
returns-in-Answered c =
    let a = c.args in
    let told = rw c.in-Answered.is at c.requires.1.0 in
    subst⁻¹ (Responds a.library.now a.formed a.s.now (meaning a.spoken)) (rest-applied a.s.now a.s.now.beliefs _ c.unchanged.result c.unchanged.ensures refl)
    (answers-respond a.library.now a.s.now c.requires.1.1 a.formed c.requires.0 told)

pub offset_bounds-s-place : goal.offset_bounds-s-place
offset_bounds-s-place c =
    let told = rw c.in-Turns.is at c.requires.1.0 in
    omega (arith, told.4, within c.args.library.now c.args.s.now c.requires.1.1 (c.requires.0 told.0))

pub offset_bounds-s-place-in-Tells : goal.offset_bounds-s-place-in-Tells
offset_bounds-s-place-in-Tells c =
    let told = rw c.in-Tells.is at c.requires.1.0 in
    omega (arith, told.1.3, within c.args.library.now c.args.s.now c.requires.1.1 (c.requires.0 told.0))

pub bounds-s-place : goal.bounds-s-place
bounds-s-place c =
    let told = rw c.in-Turns.is at c.requires.1.0 in
    omega (arith, told.4, within c.args.library.now c.args.s.now c.requires.1.1 (c.requires.0 told.0))

pub bounds-s-place-in-Tells : goal.bounds-s-place-in-Tells
bounds-s-place-in-Tells c =
    let told = rw c.in-Tells.is at c.requires.1.0 in
    omega (arith, told.1.3, within c.args.library.now c.args.s.now c.requires.1.1 (c.requires.0 told.0))

pub invariant_of-turn : goal.invariant_of-turn
invariant_of-turn c =
    let a = c.args in
    let told = rw c.in-Turns.is at c.requires.1.0 in
    record { runnable = turn_runnable a.library.now a.s.now c.requires.1.1 (c.requires.0 told.0) _ told.4 }

pub returns-in-Reports : goal.returns-in-Reports
unfolding act
returns-in-Reports c =
    let a = c.args in
    let s = a.s.now in
    let told = rw c.in-Reports.is at c.requires.1.0 in
    let w = c.requires.0 told.0 in
    let hear = hears a.library.now s w.fit w.formed c.requires.1.1 w.accepted _ _ in
    let reports = subst (λ (queue : List Event). Reports s.beliefs queue s.taken c.in-Reports.kind c.in-Reports.literal c.hear.result) c.events.ensures.value c.hear.ensures in
    as_told a.library.now s told.0 told.1
    (responds_act a.library.now s (report _ _) (applied s c.hear.result) (report_gives s _ _ hear c.hear.result reports))

pub cycle_on-requires : goal.cycle_on-requires
cycle_on-requires c =
    let told = rw c.in-Searches.is at c.requires.1.0 in
    (c.requires.0 told.0, c.requires.1.1)

pub returns-in-Searches : goal.returns-in-Searches
unfolding act
returns-in-Searches c =
    let a = c.args in
    let told = rw c.in-Searches.is at c.requires.1.0 in
    as_told a.library.now a.s.now told.0 told.1 (responds_act a.library.now a.s.now cycle (applied a.s.now c.cycle_on.result) c.cycle_on.ensures)

pub returns-in-Turns : goal.returns-in-Turns
returns-in-Turns c =
    let a = c.args in
    let told = rw c.in-Turns.is at c.requires.1.0 in
    as_told a.library.now a.s.now told.0 told.1
    (turn_responds a.library.now a.s.now c.requires.1.1 (c.requires.0 told.0) _ told.4 told.2 told.3 c.step.result c.step.ensures)

pub returns-in-Tells : goal.returns-in-Tells
returns-in-Tells c =
    let a = c.args in
    let told = rw c.in-Tells.is at c.requires.1.0 in
    as_told a.library.now a.s.now told.0 told.1.1
    (tell_responds a.library.now a.s.now c.requires.1.1 (c.requires.0 told.0) _ told.1.3 told.1.0 _ told.1.2 c.tell_at.result c.tell_at.ensures)
