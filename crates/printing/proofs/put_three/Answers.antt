-- `printing::put_three` meets its contract: the letter, then each number.
use Rattle.writing.proofs.WritingLaws.{then, nothing}
use Rattle.printing.specs.LineText.{field_text}
use Rattle.printing.proofs.put_three.Goals as goal

pub returns : goal.returns
unfolding field_text
returns c = then c.put-a.ensures (then c.put_field-b.ensures (then c.put_number-c.ensures (then c.put_number.ensures nothing)))
