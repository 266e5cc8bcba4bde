-- `agent::ends::ended` meets its contract: what is left of the stack goes last, or nothing is, with the altered table.
use Rattle.agent.proofs.TurnLaws.{turned_replies, emptied_replies}
use Rattle.agent.proofs.ends.ended.Goals as goal
use Rattle.agent.proofs.ends.ended.Goals.{in-Some, in-None}

pub returns : goal.returns
returns c = λ s stands few.
    let a = c.args in
    elim c.match-next.branch [
      | in-Some w ↦ rw (w.in-Some.is, w.stacks-is) (turned_replies s a.place a.answer a.altered a.queue stands few _ (rw w.in-Some.is at c.requires))
      | in-None w ↦ rw (w.in-None.is, w.stacks-is) (emptied_replies s a.place a.answer a.altered a.queue stands few w.no_stack.result)
    ]
