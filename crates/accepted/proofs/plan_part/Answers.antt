-- `accepted::plan_part` meets its contract: an accepted library's entry names bytes within it, and the part is those.
use Rattle.std.proofs.Common.{sym, arith}
use Rattle.refusals.proofs.NumberLaws.{never_zero}
use Rattle.accepted.proofs.Accepted.{part_empty, part_within, part_is}
use Rattle.accepted.proofs.plan_part.Goals as goal

pub returns-in_default : goal.returns-in_default
returns-in_default c = part_empty c.args.library.now c.args.plan _ c.in_default.ensures (never_zero c.in_default.field-0)

pub slice_bounds-result-end-2 : goal.slice_bounds-result-end-2
slice_bounds-result-end-2 c =
    omega (
      arith,
      part_within c.args.library.now c.args.plan (sym c.in-Ok.ensures),
      c.offset-offset.ensures.value,
      c.length.ensures.value,
    )

pub returns : goal.returns
returns c =
    part_is c.args.library.now c.args.plan (sym c.in-Ok.ensures) _ _ c.offset-offset.ensures.value c.length.ensures.value
