-- `printing::put_try` meets its contract: three fields, and one more.
use lib.Dec.{lit≤}
use Rattle.writing.proofs.WritingLaws.{then, widen, written}
use Rattle.printing.proofs.TextLaws.{stepped, done}
use Rattle.printing.proofs.put_try.Goals as goal

pub returns-in-Stepped-clause-wrote : goal.returns-in-Stepped-clause-wrote
returns-in-Stepped-clause-wrote c = written (stepped c.in-Stepped.is) (widen (lit≤ tt) (then c.put_three-a.ensures c.put_number.ensures))

pub returns-in-Done-clause-wrote : goal.returns-in-Done-clause-wrote
returns-in-Done-clause-wrote c = written (done c.in-Done.is) (widen (lit≤ tt) (then c.put_three-a-in-Done.ensures c.put_literal.ensures.wrote))
