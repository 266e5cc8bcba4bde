-- What the end of an instance replies: its list has run, its event is closed or marked, and what is left of the stack goes last.
use native.Mathlib.Omega.{arith}
use Prim.Native.Nat.{ℕ, ◌≤◌}
use mathlib.Core.Path.{◌≡◌, refl, subst⁻¹}
use mathlib.Core.List.{List}
use lib.ListN.{length, take}
use lib.Seq.{take_all}
use Rattle.belief.specs.declared.Beliefs.{Beliefs}
use Rattle.belief.specs.Beliefs.{view}
use Rattle.library.specs.declared.Action.{Action}
use Rattle.library.specs.Layout.{plan_count, library_of}
use Rattle.library.specs.Layout as layout
use Rattle.accepted.proofs.RuleFacts.{few-actions}
use Rattle.accepted.proofs.Accepted.{few_plans, keeps}
use Rattle.model.specs.declared.Answer.{Answer}
use Rattle.model.specs.declared.Event.{Event}
use Rattle.model.specs.declared.Instance.{Instance}
use Rattle.model.specs.Changes.{effects}
use Rattle.model.specs.End.{served_by, popped, end_top, succeed, fail}
use Rattle.state.specs.declared.Stack.{Stack}
use Rattle.state.specs.declared.State.{State}
use Rattle.state.specs.View.{view_stack, view_state}
use Rattle.jobs.proofs.PlaceLaws.{plan_there}
use Rattle.moves.specs.declared.QueueMove.{QueueMove}
use Rattle.moves.specs.declared.QueueMove.TheVariants as queue
use Rattle.moves.specs.Moves.{requeue}
use Rattle.trials.specs.declared.changes.Altered.{Altered}
use Rattle.trials.specs.declared.changes.Ending.{Ending}
use Rattle.trials.specs.declared.changes.Ending.TheVariants.{Success, Failure}
use Rattle.trials.specs.Altered.{Alters, list_of}
use Rattle.trials.proofs.AlteredLaws.{altered_within}
use Rattle.steps.specs.declared.step.Step.{Step}
use Rattle.steps.specs.End.{end_move}
use Rattle.steps.specs.Step.{applied}
use Rattle.steps.specs.Gives.{Replies}
use Rattle.steps.proofs.GivesLaws.{replies_as}
use Rattle.agent.specs.Turnable.{placed, poster_after, end_answer, end_by, Runnable, Ended, Ends}
use Rattle.agent.proofs.TurnLaws.{Requeues, close_requeues, mark_requeues, ended-after}

module _ (bytes : List ℕ) (b : Beliefs) (place : ℕ) (stack : Stack) (pre : Runnable bytes b stack) (altered : Altered) (t : Step) where
  -- a list has run, and the stack is popped
  ended_top : (actions : List Action) → length actions ≤ 4 → Alters b (effects (view b) stack.top.env (take 4 actions)) altered
      → (answer : Answer) (change : Instance → Instance) (queue : QueueMove)
      → Ended place (popped stack.external change (view_stack stack).below) answer altered queue t
      → (s : State) → s.beliefs ≡ b → (events : List Event) → Requeues s place events (requeue queue s)
      → Replies (end_top (view_state s) (placed place stack) answer actions events change) (applied s t)
  unfolding end_top
  ended_top actions few alters answer change queue goes s e events q =
      let all : take 4 actions ≡ actions = take_all 4 actions few in
      let here = subst⁻¹ (λ (c : Beliefs). Alters c (effects (view c) stack.top.env actions) altered) e (rw all at alters) in
      replies_as
      (ended-after s (requeue queue s) place stack (popped stack.external change (view_stack stack).below) answer
      (effects (view s.beliefs) stack.top.env actions) events altered here q.shown)
      (goes s q.standing (altered_within alters pre.few))

  -- an end of either kind
  pub end_replies : (ending : Ending)
      → Alters b (effects (view b) stack.top.env (take 4 (list_of ending (layout.plan_of bytes stack.top.plan)))) altered
      → Ended place (popped stack.external (poster_after ending (library_of bytes)) (view_stack stack).below)
      (end_answer ending stack.top.id) altered (end_move ending (view_stack stack)) t
      → Ends b place (λ s. end_by ending (library_of bytes) s (placed place stack)) t
  unfolding succeed fail
  end_replies Success alters goes = λ s e stands.
      let served = served_by (view_stack stack) in
      let listed = (layout.plan_of bytes stack.top.plan).success in
      rw (plan_there bytes stack.top (plan_count bytes) refl pre.plan)
      (ended_top listed (few-actions listed (keeps bytes pre.accepted stack.top.plan pre.plan).success) alters _ _
      (queue.Close served) goes s e _ (close_requeues s place stands served))
  end_replies Failure alters goes = λ s e stands.
      let served = served_by (view_stack stack) in
      let listed = (layout.plan_of bytes stack.top.plan).failure in
      rw (plan_there bytes stack.top (plan_count bytes) refl pre.plan)
      (ended_top listed (few-actions listed (keeps bytes pre.accepted stack.top.plan pre.plan).failure) alters _ _
      (queue.Mark served stack.top.plan) goes s e _ (mark_requeues s place stands served stack.top.plan (omega (arith, few_plans bytes pre.accepted, pre.plan))))
