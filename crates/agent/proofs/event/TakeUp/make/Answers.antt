-- `agent::event::TakeUp::make` meets its contract, by cases on the origin.
use native.Mathlib.Omega.{arith}
use Prim.Native.Nat.{ℕ, ◌<◌}
use Rattle.model.specs.declared.Instance.{Instance}
use Rattle.moves.specs.declared.StackMove.TheVariants as stacks
use Rattle.moves.specs.declared.Numbering.TheVariants as numbering
use Rattle.steps.specs.declared.step.Step.{Step}
use mathlib.Core.Path.{subst, ap, subst⁻¹}
use lib.ListN.{get_or}
use Rattle.model.specs.Live.{is_goal}
use Rattle.state.specs.View.{no_stack}
use Rattle.agent.specs.TakeUp.{Pushes}
use Rattle.agent.proofs.EventLaws.{made_by_opening, made_by_pushing}
use Rattle.agent.proofs.event.TakeUp.make.Goals as goal

pub poster-poster-requires : goal.poster-poster-requires
poster-poster-requires c = ap is_goal c.in-Goal.is

pub bounds-self-poster : goal.bounds-self-poster
bounds-self-poster c =
    let h = c.args.self.now.has_place.goal (ap is_goal c.in-Goal.is) in
    omega (arith, h.there, c.poster-poster.ensures)

pub with_pushed-higher-requires : goal.with_pushed-higher-requires
with_pushed-higher-requires c =
    let h = c.args.self.now.has_place.goal (ap is_goal c.in-Goal.is) in
    subst⁻¹ (λ (i : ℕ). (get_or c.args.self.now.stacks.now i no_stack).depth < 7) c.poster-poster.ensures h.room

pub returns-in-External : goal.returns-in-External
returns-in-External c = λ chosen e.
    let a = c.args.self.now in
    let here = c.in-External.is in
    rw here (made_by_opening a.beliefs a.stacks.now c.open.result a.made chosen _ (rw e at c.open.ensures) (a.has_place.external (ap is_goal here)))

pub returns-in-Goal : goal.returns-in-Goal
returns-in-Goal c = λ chosen e.
    let a = c.args.self.now in
    let g = c.in-Goal in
    let h = rw g.is at (a.has_place.goal (ap is_goal g.is)) in
    let found = rw g.is at c.poster-poster.ensures in
    let pushing : Step → Step = λ u. record {
      answer = u.answer;
      altered = u.altered;
      queue = u.queue;
      stacks = stacks.Replace c.poster-poster.result;
      stack = c.with_pushed-higher.result;
      numbering = numbering.Made c.args.x.id;
    } in
    let higher = c.with_pushed-higher.ensures in
    let stack = get_or a.stacks.now c.poster-poster.result no_stack in
    let pushes : Pushes a.beliefs c.args.x g.instance c.poster-poster.result stack (pushing c.unchanged.result)
    = record { step = ap pushing c.unchanged.ensures; higher = higher.0; depth = higher.1 } in
    rw g.is (made_by_pushing a.beliefs a.stacks.now (pushing c.unchanged.result) _ _ _ c.poster-poster.result h found a.made chosen
    (subst (λ (x : Instance). Pushes a.beliefs x g.instance c.poster-poster.result stack (pushing c.unchanged.result)) e pushes))
