-- `reading::read_numeral` meets its contract. The loop's invariant: the bytes passed are digits, which say the value so far.
use Prim.Native.Nat.{◌^◌, ◌<◌}
use mathlib.Core.Path.{◌≡◌}
use Rattle.std.specs.Prelude.{Some}
use lib.ListN.{take}
use Rattle.reading.specs.Call.{digits_from}
use Rattle.reading.proofs.read_numeral.Given as goal

abbrev pub invariant-loop-b : goal.invariant-loop-b
invariant-loop-b l = record {
  small : l.value < 10 ^ l.b-index;
  said : digits_from 0 (take l.b-index l.field) ≡ Some l.value;
}
