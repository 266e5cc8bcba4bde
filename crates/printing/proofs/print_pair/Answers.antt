-- `printing::print_pair` meets its contract: where there is room the numbers and the newline are written.
use native.Mathlib.Omega.{arith}
use Rattle.printing.specs.LineText.{pair_text}
use Rattle.writing.proofs.WritingLaws.{then}
use Rattle.printing.proofs.print_pair.Goals as goal

pub returns : goal.returns
unfolding pair_text
returns c = record {
  line = λ room. then c.put_wide-a.ensures (then c.put_field-b.ensures c.put.ensures);
  unwritten = λ full. absurd (omega arith);
  unmoved = λ full. absurd (omega arith);
}
