-- `printing::put_changes` meets its contract: one change more, and all of them at the end.
use native.Mathlib.Omega.{arith}
use mathlib.Core.Path.{refl, ap, ◌∙◌}
use lib.Seq.{take_all}
use Rattle.lists.specs.Counts.{each}
use Rattle.writing.proofs.WritingLaws.{widen, nothing, written}
use Rattle.printing.specs.LineText.{change_text}
use Rattle.printing.proofs.TextLaws.{next_change, next_fit}
use Rattle.printing.proofs.put_changes.Goals as goal

pub loop-c-init : goal.loop-c-init
loop-c-init c = record { kept = refl; written = nothing; fit = refl }

pub put_change-o-requires : goal.put_change-o-requires
put_change-o-requires c = omega (arith, c.loop-c.invariant.written.within)

pub loop-c-preserved : goal.loop-c-preserved
loop-c-preserved c =
    let changes = c.args.changes.now in
    record {
      kept = c.put_change-o.auto.out ∙ c.loop-c.invariant.kept;
      written = next_change changes c.loop-c.c-index _ c.loop-c-test.true c.loop-c.invariant.written c.put_change-o.ensures.wrote;
      fit = next_fit changes c.loop-c.c-index _ c.loop-c-test.true c.loop-c.invariant.fit c.put_change-o.ensures.fits;
    }

pub returns : goal.returns
returns c =
    let changes = c.args.changes.now in
    let all = take_all c.loop-c.c-index changes (omega arith) in
    record {
      wrote = written (ap (each change_text) all) (widen (omega arith) c.loop-c.invariant.written);
      fits = rw all at c.loop-c.invariant.fit;
    }
