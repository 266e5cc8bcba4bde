-- `board::line::put_progress` meets its contract: one field after the other.
use Rattle.writing.proofs.WritingLaws.{then}
use Rattle.board.proofs.LineLaws.{last_field}
use Rattle.board.proofs.line.put_progress.Goals as goal

pub returns : goal.returns
returns c =
    then c.put_after-a.ensures
    (then c.put_after-b.ensures
    (then c.put_after-c.ensures
    (then c.put_after-d.ensures (last_field c.put_status.ensures))))
