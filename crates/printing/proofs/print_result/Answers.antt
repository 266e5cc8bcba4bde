-- `printing::print_result` meets its contract: without room nothing is written, else the answer, the changes and the newline.
use Prim.Native.Nat.{◌≤◌}
use native.Mathlib.Omega.{arith}
use lib.ListN.{length, take, length-take}
use Rattle.model.specs.State.{most_changes}
use Rattle.lists.proofs.BoolLaws.{and_both}
use Rattle.printing.specs.LineText.{answer_text, line_text, fits_line}
use Rattle.writing.proofs.WritingLaws.{then, widen}
use Rattle.printing.proofs.print_result.Goals as goal

pub returns : goal.returns
unfolding line_text answer_text fits_line
returns c = record {
  line = λ room.
      let few : length (take c.min-n.result c.args.r.changes) ≤ most_changes = simp length-take (omega arith) in
      rw (← c.min-n.ensures) (widen (omega (arith, few)) (then c.put_answer-a.ensures.wrote (then c.put_changes-b.ensures.wrote c.put.ensures)));
  fit = λ room. rw (← c.min-n.ensures) (and_both _ _ c.put_answer-a.ensures.fits c.put_changes-b.ensures.fits);
  unwritten = λ full. absurd (omega arith);
  unmoved = λ full. absurd (omega arith);
}
