-- `printing::put_changes` meets its contract. The loop's invariant: the text of the changes passed is written, and they fit.
use Prim.Native.Nat.{◌*◌}
use mathlib.Core.Path.{◌≡◌}
use mathlib.Core.Bool.{true}
use lib.ListN.{length, take}
use Rattle.lists.specs.Counts.{each}
use Rattle.std.specs.List.{list_all}
use Rattle.printing.specs.LineText.{change_text, fits_change, most_change}
use Rattle.writing.specs.Writing.{Wrote}
use Rattle.printing.proofs.put_changes.Given as goal

abbrev pub invariant-loop-c : goal.invariant-loop-c
invariant-loop-c l = record {
  kept : length l.out ≡ length l.initial.out;
  written : Wrote (most_change * l.c-index) l.initial.out l.out l.at l.o (each change_text (take l.c-index l.changes));
  fit : list_all fits_change (take l.c-index l.changes) ≡ true;
}
