-- `printing::put_made` meets its contract: its parts, one after the other.
use Rattle.writing.proofs.WritingLaws.{then}
use Rattle.printing.proofs.put_made.Goals as goal

pub returns : goal.returns
returns c = then c.put-a.ensures (then c.put_field-b.ensures (then c.put_number-c.ensures (then c.put-d.ensures (then c.put-e.ensures c.put_field.ensures))))
