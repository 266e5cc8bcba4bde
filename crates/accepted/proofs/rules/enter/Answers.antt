-- `accepted::rules::enter` meets its contract: past the end and from two on the counts stay, else the state's is one more.
use Rattle.accepted.proofs.CountLaws.{enter-past, enter-full, enter_more}
use Rattle.accepted.proofs.rules.enter.Goals as goal
use Rattle.accepted.proofs.rules.enter.Goals.{else-state-counts-via-then-state-counts+else-counts-state-lt2, else-state-counts-via-else-state-counts}

pub returns-then-counts-state-lt2 : goal.returns-then-counts-state-lt2
returns-then-counts-state-lt2 c = enter_more c.args.counts.now c.args.state c.if-counts-state-lt2.true

pub returns-else-state-counts : goal.returns-else-state-counts
returns-else-state-counts c =
    elim c.else-state-counts.branch [
      | else-state-counts-via-then-state-counts+else-counts-state-lt2 w ↦ enter-full c.args.counts.now c.args.state w.if-counts-state-lt2.false
      | else-state-counts-via-else-state-counts w ↦ enter-past c.args.counts.now c.args.state w.if-state-counts.false
    ]
