-- `image::save::save` meets its contract: 10, then 13, else the image.
use native.Mathlib.Omega.{arith}
use mathlib.Core.Path.{sym, ◌∙◌}
use lib.Seq.{length-take-le}
use Rattle.formed.proofs.WellFormedLaws.{test_within}
use Rattle.image.proofs.SaveLaws.{saved}
use Rattle.image.proofs.save.save.Goals as goal

pub slice_bounds-own-end : goal.slice_bounds-own-end
slice_bounds-own-end c =
    sym (length-take-le _ _ (test_within _ _ _ (sym c.is_well_formed.ensures ∙ c.if-not-is_well_formed.false)))

pub returns : goal.returns
returns c =
    let formed = sym c.is_well_formed.ensures ∙ c.if-not-is_well_formed.false in
    let size = length-take-le c.write_image-n.result c.write_image-n.new.out c.write_image-n.ensures.room in
    saved c.args.a.now _ _ _ formed c.write_image-n.ensures (omega (arith, c.if-out-n.false)) (omega (arith, size)) c.put_bytes.ensures
