-- `agent::turn::Turn::attempt` meets its contract: the trial is the model's, for the stack's height.
use native.Mathlib.Omega.{arith}
use Prim.Native.Nat.{◌+◌}
use mathlib.Core.Path.{◌≡◌, ap, sym, subst⁻¹, ◌∙◌}
use Rattle.belief.specs.declared.Beliefs.{Beliefs}
use Rattle.belief.specs.Beliefs.{view}
use Rattle.model.specs.Try.{Try, attempt, tried}
use Rattle.model.specs.Turn.{height_of}
use Rattle.state.specs.View.{depth_of, view_stack, view_state}
use Rattle.state.proofs.StackLaws.{length-down}
use Rattle.trials.specs.Altered.{Alters}
use Rattle.trials.specs.Trial.{view_trial, changes_by, Tries}
use Rattle.agent.specs.Turnable.{placed}
use Rattle.steps.proofs.GivesLaws.{replies_as}
use Rattle.agent.proofs.TurnLaws.{tried_replies}
use Rattle.agent.proofs.turn.Turn.attempt.Goals as goal

pub returns : goal.returns
returns c = λ s e stands room.
    let a = c.args.self.now in
    let branch = c.args.branch in
    let trial = c.attempt.result in
    let high : c.depth-height.result + 1 ≡ height_of (view_stack a.stack) = omega (arith, c.depth-height.ensures, length-down (depth_of a.stack) a.stack.below) in
    let t : Tries a.beliefs (attempt (view a.beliefs) (height_of (view_stack a.stack)) a.stack.top.env branch) trial = rw high at c.attempt.ensures in
    let alters = subst⁻¹ (λ (b : Beliefs). Alters b (changes_by (view_trial trial)) trial.altered) e (rw t.shown t.altered) in
    let goes = rw (c.top_after.ensures, c.answer_to-answer.ensures, c.queue_after-queue.ensures) at c.ended.ensures in
    replies_as (ap (λ (y : Try). tried (view_state s) (placed a.place a.stack) branch y) t.shown)
    (tried_replies s a.place a.stack branch trial.altered c.ended.result stands (view_trial trial) alters (λ goal p. room goal (sym t.shown ∙ p)) goes)
