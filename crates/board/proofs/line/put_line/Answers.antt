-- `board::line::put_line` meets its contract: one part after the other.
use Rattle.writing.proofs.WritingLaws.{then, written}
use Rattle.board.proofs.LineLaws.{whole-line}
use Rattle.board.proofs.line.put_line.Goals as goal

pub returns : goal.returns
returns c =
    let a = c.args in
    written (whole-line (record { stack = a.stack; height = a.height; instance = a.x }))
    (then c.put_place-a.ensures (then c.put_progress-b.ensures (then c.put_entries-c.ensures c.put.ensures)))
