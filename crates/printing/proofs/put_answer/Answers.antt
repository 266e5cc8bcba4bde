-- `printing::put_answer` meets its contract: the letter with its first fields, and one more.
use lib.Dec.{lit≤}
use Rattle.writing.proofs.WritingLaws.{then, widen, written}
use Rattle.printing.proofs.TextLaws.{dropped, unmet}
use Rattle.printing.proofs.put_answer.Goals as goal

pub returns-in-Dropped-clause-wrote : goal.returns-in-Dropped-clause-wrote
returns-in-Dropped-clause-wrote c = written (dropped c.in-Dropped.is) (widen (lit≤ tt) (then c.put_one-a.ensures c.put_field.ensures))

pub returns-in-Unmet-clause-wrote : goal.returns-in-Unmet-clause-wrote
returns-in-Unmet-clause-wrote c = written (unmet c.in-Unmet.is) (widen (lit≤ tt) (then c.put_three-a.ensures c.put_field-in-Unmet.ensures))
