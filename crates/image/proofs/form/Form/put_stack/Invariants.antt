-- `image::form::Form::put_stack` meets its contract. The loop's invariant: the instances passed are written.
use Rattle.image.specs.Form.{newest}
use Rattle.image.specs.StackImage.{instance_size, instance_bytes}
use Rattle.image.proofs.WordLaws.{Parts}
use Rattle.image.proofs.form.Form.put_stack.Given as goal

abbrev pub invariant-loop-x : goal.invariant-loop-x
invariant-loop-x l = Parts (instance_bytes l.self) (instance_size newest) l.below l.initial.out l.initial.o l.out l.o l.x-index
