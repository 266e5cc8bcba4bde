-- `board::line::put_entries` meets its contract. The loop's invariant: the entries passed are written.
use Prim.Native.Nat.{◌*◌}
use mathlib.Core.Path.{◌≡◌}
use mathlib.Core.List.{map}
use lib.ListN.{length, take}
use Rattle.lists.specs.Counts.{each}
use Rattle.writing.specs.Writing.{Wrote}
use Rattle.board.specs.Page.{entry, after}
use Rattle.board.proofs.line.put_entries.Given as goal

abbrev pub invariant-loop-term : goal.invariant-loop-term
invariant-loop-term l = record {
  kept : length l.out ≡ length l.initial.out;
  written : Wrote (6 * l.term-index) l.initial.out l.out l.at l.o (each after (map entry (take l.term-index l.term-items)));
}
