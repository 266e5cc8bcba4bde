-- `printing::put_literal` meets its contract: sign and predicate, then three terms.
use borrow.Author.Tests.{lt-ltb}
use native.Mathlib.Omega.{arith}
use Rattle.writing.proofs.WritingLaws.{then}
use Rattle.printing.specs.LineText.{literal_text}
use Rattle.printing.proofs.put_literal.Goals as goal

pub returns : goal.returns
unfolding literal_text
returns c = record { wrote = rw (← c.sign_of-sign.ensures) (then (then c.put-a.ensures c.put_number-b.ensures) (then c.put_number-c.ensures (then c.put_number-d.ensures c.put_number.ensures))); fits = lt-ltb c.args.l.head 65536 (omega arith) }
