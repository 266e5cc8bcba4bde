-- `numeral` of the fields of a line meets its contract. The loop's invariant: the bytes passed are digits, no more than are asked for, which say the value so far.
use Prim.Native.Nat.{◌^◌, ◌≤◌, ◌<◌}
use mathlib.Core.Path.{◌≡◌}
use Rattle.std.specs.Prelude.{Some}
use lib.ListN.{take}
use Rattle.reading.specs.Call.{digits_from}
use Rattle.reading.proofs.fields.Fields.numeral.Given as goal

abbrev pub invariant-loop-i : goal.invariant-loop-i
invariant-loop-i l = record {
  few : l.i ≤ l.digits;
  small : l.value < 10 ^ l.i;
  said : digits_from 0 (take l.i l.rest) ≡ Some l.value;
}
