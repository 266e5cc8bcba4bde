-- `image::reader::Reader::stacks_at` meets its contract. The loop's invariant: the stacks passed are read.
use Prim.Native.Nat.{◌+◌, ◌≤◌, ◌*◌}
use mathlib.Core.Path.{◌≡◌}
use mathlib.Core.Bool.{true}
use mathlib.Core.List.{map}
use lib.Dec.{leb}
use lib.ListN.{take}
use Rattle.std.specs.List.{list_all}
use Rattle.state.specs.declared.Stack.{Stack}
use Rattle.state.specs.View.{most_below, view_stack}
use Rattle.image.specs.Form.{newest}
use Rattle.image.specs.Words.{word_size}
use Rattle.image.specs.Rows.{row, row_end}
use Rattle.image.specs.StackImage.{stack_size, stack_at, stack_size_at}
use Rattle.image.proofs.reader.Reader.stacks_at.Given as goal

abbrev pub invariant-loop-item : goal.invariant-loop-item
invariant-loop-item l = record {
  place : l.o ≡ row_end (stack_size_at l.self.form l.self.image.now) l.item-index (l.at + word_size);
  near : l.o ≤ l.at + word_size + stack_size newest most_below * l.item-index;
  means : map view_stack (take l.item-index l.item-items) ≡ row (stack_at l.self.form l.self.image.now) (stack_size_at l.self.form l.self.image.now) l.item-index (l.at + word_size);
  depths : list_all (λ (stack : Stack). leb stack.depth most_below) (take l.item-index l.item-items) ≡ true;
}
