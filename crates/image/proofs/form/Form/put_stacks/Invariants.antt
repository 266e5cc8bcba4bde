-- `image::form::Form::put_stacks` meets its contract. The loop's invariant: the stacks passed are written.
use Rattle.state.specs.declared.Stack.{Stack}
use Rattle.state.specs.View.{most_below, view_stack}
use Rattle.image.specs.Form.{newest}
use Rattle.image.specs.StackImage.{stack_size, stack_bytes}
use Rattle.image.proofs.WordLaws.{Parts}
use Rattle.image.proofs.form.Form.put_stacks.Given as goal

abbrev pub invariant-loop-stack : goal.invariant-loop-stack
invariant-loop-stack l =
    Parts (λ (stack : Stack). stack_bytes l.self (view_stack stack)) (stack_size newest most_below) l.stacks
    l.initial.out l.initial.o l.out l.o l.stack-index
