-- `board::columns::put_number` meets its contract: the columns of what is left, then the last digit.
use native.Mathlib.Omega.{arith}
use Prim.Native.Nat.{◌-◌}
use Rattle.board.proofs.ColumnLaws.{whole_number}
use Rattle.board.proofs.columns.put_number.Goals as goal

pub returns : goal.returns
returns c =
    let a = c.args in
    whole_number a.width (a.width - 1) a.n (omega arith) c.put_cells-a.ensures c.put.ensures c.last_digit-byte.ensures
