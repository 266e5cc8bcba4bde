-- The columns fall with each call.
use Rattle.board.proofs.columns.+put_cells.Given as goal

abbrev pub decreases-put_cells : goal.decreases-put_cells
decreases-put_cells l = l.width
