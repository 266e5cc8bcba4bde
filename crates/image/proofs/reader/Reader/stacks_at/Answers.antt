-- `image::reader::Reader::stacks_at` meets its contract: one stack more, and all of them at the end.
use native.Mathlib.Omega.{arith}
use Prim.Native.Nat.{ℕ, ◌+◌, ◌<◌, ◌≤◌, min}
use mathlib.Core.Path.{◌≡◌, refl, ap, ◌∙◌}
use lib.ListN.{length, drop, replicate}
use lib.Seq.{take_all, take_at, length-take-le}
use borrow.Author.Tests.{le-leb}
use Rattle.model.specs.State.{most_stacks}
use Rattle.state.specs.View.{most_below}
use Rattle.image.specs.Words.{word_size}
use Rattle.image.specs.Rows.{row, row_end}
use Rattle.image.specs.StackImage.{stack_at, stack_size_at, stacks_at}
use Rattle.image.proofs.RowLaws.{read_more, depths_more, end_more}
use Rattle.image.proofs.reader.Reader.stacks_at.Goals as goal

pub loop-item-init : goal.loop-item-init
unfolding row_end row
loop-item-init c = record { place = refl; near = omega arith; means = refl; depths = refl }

pub loop-item-preserved : goal.loop-item-preserved
loop-item-preserved c =
    let form = c.args.self.now.form in
    let image = c.args.self.now.image.now in
    let at = c.args.at + word_size in
    let loop = c.loop-item in
    let got = c.stack_at in
    let size = c.stack_size-o in
    let low : loop.item-index < length loop.item-items = omega (arith, loop.auto.item-items, c.loop-item-test.true) in
    record {
      place = ap (λ (n : ℕ). loop.o + n) size.ensures.value ∙ end_more form image at loop.item-index loop.o got.result.depth loop.invariant.place got.ensures.depth;
      near = omega (arith, size.ensures.small);
      means = read_more (stack_at form image) (stack_size_at form image) at loop.item-items loop.item-index got.result low (got.ensures.means ∙ ap (stack_at form image) loop.invariant.place) loop.invariant.means;
      depths = depths_more loop.item-items loop.item-index got.result low (le-leb got.result.depth most_below got.ensures.low) loop.invariant.depths;
    }

pub returns : goal.returns
unfolding stacks_at
returns c =
    let loop = c.loop-item in
    let n = c.min-count.result in
    let few : n ≤ most_stacks = omega (arith, c.min-count.ensures) in
    let long : length loop.item-items ≡ n = loop.auto.item-items ∙ length-take-le n _ few in
    let last : loop.item-index ≡ n = omega (arith, long, c.loop-item-test.false, loop.auto.item-items, loop.auto.item-index-end) in
    let size = c.min-count.ensures ∙ ap (λ (k : ℕ). min k most_stacks) c.u16_at.ensures in
    let whole = take_all n loop.item-items (omega arith) in
    let front = take_at loop.item-items (drop n (replicate most_stacks c.stack_at-items.result)) n long in
    record {
      few = few;
      means = rw (front, ← whole, ← size, ← last) loop.invariant.means;
      depths = rw (front, ← whole, ← last) loop.invariant.depths;
    }
