-- `agent::turn::Turn::end` meets its contract: the list runs, and what is answered and what becomes of the event go by the ending.
use mathlib.Core.Path.{◌≡◌, refl}
use Rattle.agent.specs.Turnable.{end_answer}
use Rattle.agent.proofs.EndLaws.{end_replies}
use Rattle.agent.proofs.turn.Turn.end.Goals as goal
use Rattle.agent.proofs.turn.Turn.end.Goals.{in-Success, in-Failure}

pub returns : goal.returns
returns c =
    let a = c.args.self.now in
    let ending = c.args.ending in
    let by_ending : c.match-ending.answer ≡ end_answer ending a.stack.top.id
    = elim c.match-ending.branch [
      | in-Success w ↦ rw (w.in-Success.is, w.answer-is) refl
      | in-Failure w ↦ rw (w.in-Failure.is, w.answer-is) refl
    ] in
    end_replies a.library.now a.beliefs a.place a.stack a.runnable c.list_run-altered.result c.ended.result ending c.list_run-altered.ensures
    (rw (c.popped-next.ensures.shown, by_ending, c.end_move-queue.ensures) at c.ended.ensures)
