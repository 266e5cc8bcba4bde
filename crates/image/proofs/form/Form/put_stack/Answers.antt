-- `image::form::Form::put_stack` meets its contract: one part more.
use native.Mathlib.Omega.{arith}
use Rattle.writing.proofs.WritingLaws.{then, widen, written}
use Rattle.image.specs.Form.{newest}
use Rattle.image.specs.StackImage.{instance_size, instance_bytes}
use Rattle.image.proofs.WordLaws.{next_part, all_parts}
use Rattle.image.proofs.RowLaws.{stack_bytes_lem}
use Rattle.image.proofs.form.Form.put_stack.Goals as goal

pub loop-x-preserved : goal.loop-x-preserved
loop-x-preserved c =
    next_part (instance_bytes c.args.self) (instance_size newest) c.beneath-below.result.now _ c.loop-x-test.true c.loop-x.invariant c.put_instance-o.ensures

pub returns : goal.returns
returns c =
    let below = c.beneath-below.result.now in
    let instances = all_parts (instance_bytes c.args.self) (instance_size newest) below (omega arith) (omega arith) c.loop-x.invariant in
    written (stack_bytes_lem c.args.self c.args.stack.now below c.beneath-below.ensures.value c.beneath-below.ensures.len)
    (widen (omega arith) (then c.put_word-head.ensures (then c.put_number-o.ensures (then instances c.put_instance.ensures))))
