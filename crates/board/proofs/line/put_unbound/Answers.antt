-- `board::line::put_unbound` meets its contract: the bytes are copied.
use mathlib.Core.List.{[], ◌∷◌}
use Rattle.writing.proofs.WritingLaws.{copied}
use Rattle.board.proofs.line.put_unbound.Goals as goal

pub returns : goal.returns
returns c = rw c.copy_from_slice.ensures.after (copied c.args.out.now (32 ∷ 32 ∷ 32 ∷ 32 ∷ 32 ∷ 45 ∷ []) c.args.at c.requires)
