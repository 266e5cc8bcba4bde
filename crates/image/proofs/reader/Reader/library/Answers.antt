-- `image::reader::Reader::library` meets its contract: what is there of the library, and none where the image ends before it.
use native.Mathlib.Omega.{arith}
use Prim.Native.Nat.{ℕ, min}
use mathlib.Core.Path.{ap, ◌∙◌}
use lib.ListN.{length}
use Rattle.accepted.specs.Refusal.{most_bytes}
use Rattle.image.proofs.PartLaws.{library_taken, library_missing}
use Rattle.image.proofs.reader.Reader.library.Goals as goal

pub returns-in_default-clause-value : goal.returns-in_default-clause-value
returns-in_default-clause-value c = library_missing _ _ _ c.contents_size.ensures.value (omega (arith, c.in_default.ensures.lookup.0))

pub returns-clause-value : goal.returns-clause-value
returns-clause-value c =
    let size = c.min-size.ensures ∙ ap (λ (k : ℕ). min k most_bytes) c.u16_at.ensures in
    library_taken _ c.args.self.now.image.now c.in-Some.rest.now _ _ c.contents_size.ensures.value c.in-Some.ensures.lookup.0.2
    (c.min.ensures ∙ ap (λ (k : ℕ). min k (length c.in-Some.rest.now)) size)
