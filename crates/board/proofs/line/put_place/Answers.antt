-- `board::line::put_place` meets its contract: one number after the other.
use Rattle.writing.proofs.WritingLaws.{then}
use Rattle.board.proofs.line.put_place.Goals as goal

pub returns : goal.returns
returns c = then c.put_number-a.ensures c.put_after.ensures
