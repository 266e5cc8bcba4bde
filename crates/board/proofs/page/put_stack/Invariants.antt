-- `board::page::put_stack` meets its contract. The loop's invariant: the lines of the lowest i instances are written.
use Prim.Native.Nat.{◌*◌}
use mathlib.Core.Path.{◌≡◌}
use lib.ListN.{length}
use Rattle.lists.specs.Counts.{each}
use Rattle.state.specs.View.{down}
use Rattle.writing.specs.Writing.{Wrote}
use Rattle.board.specs.Page.{line_text, line_bytes, rows_on}
use Rattle.board.proofs.page.put_stack.Given as goal

abbrev pub invariant-loop-i : goal.invariant-loop-i
invariant-loop-i l =
    (length l.out ≡ length l.initial.out) × Wrote (line_bytes * l.i) l.initial.out l.out l.at l.o (each line_text (rows_on l.number (down l.i l.stack.below)))
