-- `image::reader::Reader::state` meets its contract: each body where the contents say.
use native.Mathlib.Omega.{arith}
use Prim.Native.Nat.{ℕ, ◌+◌, min}
use mathlib.Core.Path.{◌≡◌, ap, ◌∙◌}
use Rattle.model.specs.State.{most_queued}
use Rattle.image.specs.Form.{number_size}
use Rattle.image.specs.Words.{number_at}
use Rattle.image.proofs.PartLaws.{read-state}
use Rattle.image.proofs.reader.Reader.state.Goals as goal

pub returns : goal.returns
returns c =
    let form = c.args.self.now.form in
    let image = c.args.self.now.image.now in
    let there : c.u16_at-c.result + c.numbers_size.result ≡ c.u16_at-c.result + number_size form = omega (arith, c.numbers_size.ensures.value) in
    read-state form image _ _ _ _ _ c.u16_at-b.ensures c.u16_at-e.ensures c.u16_at-k.ensures c.u16_at-c.ensures c.beliefs_at.ensures
    (c.min.ensures ∙ ap (λ (k : ℕ). min k most_queued) c.u16_at.ensures) c.events_at-queue.ensures c.stacks_at-row.ensures c.number_at.ensures
    (c.number_at-2.ensures ∙ ap (number_at form image) there)
