-- `agent::event::TakeUp::close` meets its contract, by cases on the origin.
use native.Mathlib.Omega.{arith}
use mathlib.Core.Path.{ap, ap₂, subst⁻¹}
use lib.ListN.{get_or}
use Rattle.model.specs.declared.Instance.{Instance}
use Rattle.model.specs.declared.Origin.{Origin}
use Rattle.model.specs.Live.{is_goal}
use Rattle.model.specs.Event.{close}
use Rattle.moves.specs.declared.QueueMove.TheVariants as queue
use Rattle.moves.specs.declared.StackMove.TheVariants as stacks
use Rattle.state.specs.View.{no_stack}
use Rattle.state.specs.Stacks.{replace_top}
use Rattle.steps.specs.declared.step.Step.{Step}
use Rattle.agent.specs.TakeUp.{Closes}
use Rattle.agent.proofs.EventLaws.{closed_by_dropping, closed_by_waking}
use Rattle.agent.proofs.event.TakeUp.close.Goals as goal

pub poster-poster-requires : goal.poster-poster-requires
poster-poster-requires c = ap is_goal c.in-Goal.is

pub bounds-self-poster : goal.bounds-self-poster
bounds-self-poster c =
    let h = c.args.self.now.has_place.goal (ap is_goal c.in-Goal.is) in
    omega (arith, h.there, c.poster-poster.ensures)

pub returns-in-External : goal.returns-in-External
returns-in-External c =
    let a = c.args.self.now in
    subst⁻¹ (λ (o : Origin). Closes a.beliefs a.stacks.now (λ v. close v (record { place = a.place; it = a.event }) o) c.drop_event.result) c.in-External.is
    (closed_by_dropping a.beliefs a.stacks.now c.drop_event.result a.place a.event _ c.drop_event.ensures)

pub returns-in-Goal : goal.returns-in-Goal
returns-in-Goal c =
    let a = c.args.self.now in
    let g = c.in-Goal in
    let h = rw g.is at (a.has_place.goal (ap is_goal g.is)) in
    let found = rw g.is at c.poster-poster.ensures in
    let stack = get_or a.stacks.now c.poster-poster.result no_stack in
    let waking : Step → Instance → Step = λ u x. record {
      answer = u.answer;
      altered = u.altered;
      queue = queue.Remove a.place;
      stacks = stacks.Replace c.poster-poster.result;
      stack = replace_top stack x;
      numbering = u.numbering;
    } in
    subst⁻¹ (λ (o : Origin). Closes a.beliefs a.stacks.now (λ v. close v (record { place = a.place; it = a.event }) o) (waking c.unchanged.result c.awoken-top.result)) g.is
    (closed_by_waking a.beliefs a.stacks.now (waking c.unchanged.result c.awoken-top.result) _ _ _ c.poster-poster.result h found a.place a.event
    (ap₂ waking (rw c.size-failures.ensures.ones at c.unchanged.ensures) c.awoken-top.ensures))
