-- `image::reader::Reader::stack_at` meets its contract: each place below the top holds the instance of its number.
use borrow.Author.Rules.{rules}
use native.Mathlib.Omega.{arith}
use Prim.Native.Nat.{ℕ, ◌+◌, ◌*◌}
use mathlib.Core.Path.{◌≡◌, ap, ◌∙◌}
use Rattle.state.specs.View.{most_below}
use Rattle.image.specs.Words.{word_size}
use Rattle.image.specs.StackImage.{instance_size, instance_at, stack_fields}
use Rattle.image.proofs.CodecLaws.{made_items}
use Rattle.image.proofs.RowLaws.{read-stack}
use Rattle.image.proofs.reader.Reader.stack_at.Goals as goal

pub returns : goal.returns
returns c =
    let form = c.args.self.now.form in
    let image = c.args.self.now.image.now in
    let at = c.args.at in
    let depth = c.depth_at-depth.result in
    let first = at + word_size + c.numbers_size.result in
    let place : first ≡ at + stack_fields form = omega (arith, c.numbers_size.ensures.value) in
    let top = c.nth_instance.ensures ∙ ap (λ (k : ℕ). instance_at form image (k + instance_size form * depth)) place in
    let all_of = made_items (instance_at form image) (instance_size form) _ _ c.from_fn.result most_below first (λ i y q k. search rules) c.from_fn.ensures.items in
    read-stack form image at depth _ _ c.from_fn.result c.depth_at-depth.ensures.value c.number_at.ensures top (rw place at all_of)
