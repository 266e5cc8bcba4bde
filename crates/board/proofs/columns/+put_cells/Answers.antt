-- `board::columns::put_cells` meets its contract: the columns of what is left without its last digit, then that digit or a space.
use native.Mathlib.Omega.{arith}
use Prim.Native.Nat.{◌-◌}
use Rattle.board.proofs.ColumnLaws.{no_cells, more_cells}
use Rattle.board.proofs.columns.+put_cells.Goals as goal

pub returns-then-width-eq0 : goal.returns-then-width-eq0
returns-then-width-eq0 t c = no_cells c.args.width c.args.left c.if-width-eq0.true

pub returns : goal.returns
returns t c =
    let a = c.args in
    more_cells a.width (a.width - 1) a.left (omega (arith, c.if-width-eq0.false)) c.put_cells-a.ensures c.put.ensures c.cell_of-byte.ensures
