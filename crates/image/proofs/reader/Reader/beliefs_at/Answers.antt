-- `image::reader::Reader::beliefs_at` meets its contract: every place is read, and so many of them are the beliefs.
use native.Mathlib.Omega.{arith}
use borrow.Author.Rules.{rules}
use Prim.Native.Nat.{◌+◌, min}
use mathlib.Core.Path.{◌≡◌}
use Rattle.belief.specs.Beliefs.{most_beliefs}
use Rattle.library.specs.Bytes.{literal_at}
use Rattle.image.specs.Words.{word_size}
use Rattle.image.specs.BeliefImage.{literal_size, beliefs_at}
use Rattle.image.proofs.CodecLaws.{made_items, fewer_items}
use Rattle.image.proofs.reader.Reader.beliefs_at.Goals as goal

pub returns : goal.returns
unfolding beliefs_at
returns c =
    let bytes = c.args.self.now.image.now in
    let first = c.args.at + word_size in
    let all_of = made_items (literal_at bytes) literal_size _ _ c.from_fn.result most_beliefs first (λ i y q k. search rules) c.from_fn.ensures.items in
    let n = c.min.result in
    let size : min n most_beliefs ≡ min c.u16_at.result most_beliefs = omega (arith, c.min.ensures) in
    record {
      places = c.from_fn.ensures.items.long;
      few = omega (arith, c.min.ensures);
      means = rw (all_of, fewer_items (literal_at bytes) literal_size (min n most_beliefs) most_beliefs first (omega arith), size, c.u16_at.ensures);
    }
