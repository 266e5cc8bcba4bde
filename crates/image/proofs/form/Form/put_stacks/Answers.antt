-- `image::form::Form::put_stacks` meets its contract: one part more.
use native.Mathlib.Omega.{arith}
use lib.ListN.{length-map}
use Rattle.state.specs.declared.Stack.{Stack}
use Rattle.state.specs.View.{most_below, view_stack}
use Rattle.writing.proofs.WritingLaws.{widen}
use Rattle.image.specs.Form.{newest}
use Rattle.image.specs.StackImage.{stack_size, stack_bytes, stacks_bytes}
use Rattle.image.proofs.WordLaws.{next_part, list_parts}
use Rattle.image.proofs.RowLaws.{each_map}
use Rattle.image.proofs.form.Form.put_stacks.Goals as goal

pub loop-stack-preserved : goal.loop-stack-preserved
loop-stack-preserved c =
    next_part (λ (stack : Stack). stack_bytes c.args.self (view_stack stack)) (stack_size newest most_below) c.args.stacks.now _
    c.loop-stack-test.true c.loop-stack.invariant c.put_stack-o.ensures

pub returns : goal.returns
unfolding stacks_bytes
returns c =
    let stacks = c.args.stacks.now in
    rw (length-map stacks view_stack, each_map (stack_bytes c.args.self) view_stack stacks)
    (widen (omega arith) (list_parts (λ (stack : Stack). stack_bytes c.args.self (view_stack stack)) (stack_size newest most_below) stacks
    c.put_word-o.ensures (omega arith) (omega arith) c.loop-stack.invariant))
