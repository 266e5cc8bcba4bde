-- `printing::put_wide` meets its contract: four digits at a time, from the left.
use lib.Dec.{lit≤}
use Rattle.printing.proofs.DecimalLaws.{from_myriads, many-digits}
use Rattle.writing.proofs.WritingLaws.{then, widen, written}
use Rattle.printing.proofs.put_wide.Goals as goal

pub returns-then-n-lt100000000 : goal.returns-then-n-lt100000000
returns-then-n-lt100000000 c =
    written (from_myriads c.args.n c.if-n-lt10000.false)
    (widen (lit≤ tt) (then c.put_decimal-a.ensures c.put_four.ensures))

pub returns : goal.returns
returns c =
    written (many-digits c.args.n c.if-n-lt100000000.false)
    (then (then c.put_short-a.ensures c.put_four-b.ensures) c.put_four-2.ensures)
