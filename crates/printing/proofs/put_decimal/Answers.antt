-- `printing::put_decimal` meets its contract: two digits, four or five, by the number's size.
use native.Mathlib.Omega.{arith}
use lib.Dec.{lit≤}
use Rattle.printing.proofs.DecimalLaws.{from_hundreds, five_digits}
use Rattle.writing.proofs.WritingLaws.{then, widen, written}
use Rattle.printing.proofs.put_decimal.Goals as goal

pub returns-then-n-lt10000 : goal.returns-then-n-lt10000
returns-then-n-lt10000 c = written (from_hundreds c.args.n c.if-n-lt100.false) (widen (lit≤ tt) (then c.put_short-a.ensures c.put_two.ensures))

pub returns : goal.returns
returns c = written (five_digits c.args.n c.if-n-lt10000.false (omega arith)) (then c.put-a.ensures c.put_four.ensures)
