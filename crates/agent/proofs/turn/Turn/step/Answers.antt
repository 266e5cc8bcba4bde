-- `agent::turn::Turn::step` meets its contract: what the top does at its turn, and then the method for it.
use mathlib.Core.Path.{ap, sym, ◌∙◌}
use Rattle.model.specs.Turn.{turn_by}
use Rattle.jobs.specs.Decision.{view_decision}
use Rattle.agent.proofs.TurnLaws.{turns_by, turns-tried}
use Rattle.agent.proofs.turn.Turn.step.Goals as goal

pub returns-in-Fail : goal.returns-in-Fail
unfolding turn_by
returns-in-Fail c =
    let a = c.args.self.now in
    λ s h. turns_by a.library.now s a.beliefs a.place a.stack h _ (sym c.next_move-decision.ensures ∙ ap view_decision c.in-Fail.is) _ (c.end.ensures s h.beliefs_are h.standing)

pub returns-in-Succeed : goal.returns-in-Succeed
unfolding turn_by
returns-in-Succeed c =
    let a = c.args.self.now in
    λ s h. turns_by a.library.now s a.beliefs a.place a.stack h _ (sym c.next_move-decision.ensures ∙ ap view_decision c.in-Succeed.is) _ (c.end-in-Succeed.ensures s h.beliefs_are h.standing)

pub returns-in-Attempt : goal.returns-in-Attempt
returns-in-Attempt c =
    let a = c.args.self.now in
    let e = sym c.next_move-decision.ensures ∙ ap view_decision c.in-Attempt.is in
    λ s h. turns-tried a.library.now s a.beliefs a.place a.stack h _ e _ (c.attempt.ensures s h.beliefs_are h.standing (h.room _ e))
