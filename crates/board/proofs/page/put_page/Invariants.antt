-- `board::page::put_page` meets its contract. The loop's invariant: the lines of the first i stacks are written.
use Prim.Native.Nat.{◌*◌}
use mathlib.Core.Path.{◌≡◌}
use lib.ListN.{length, take}
use Rattle.state.specs.View.{view_stacks}
use Rattle.writing.specs.Writing.{Wrote}
use Rattle.board.specs.Page.{line_bytes, rows_of, page_of}
use Rattle.board.proofs.page.put_page.Given as goal

abbrev pub invariant-loop-i : goal.invariant-loop-i
invariant-loop-i l =
    (length l.out ≡ length l.initial.out)
    × Wrote (line_bytes * length (rows_of (take l.i (view_stacks l.fn.s)))) l.initial.out l.out 0 l.o (page_of (take l.i (view_stacks l.fn.s)))
