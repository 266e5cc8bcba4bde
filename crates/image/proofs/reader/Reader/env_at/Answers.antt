-- `image::reader::Reader::env_at` meets its contract: each place holds the entry of its variable.
use borrow.Author.Rules.{rules}
use Prim.Native.Nat.{ℕ}
use mathlib.Core.Path.{ap}
use mathlib.Core.List.{List}
use Rattle.literal.specs.Literal.{first_variable}
use Rattle.image.specs.StackImage.{env_at}
use Rattle.image.proofs.RowLaws.{made_entries}
use Rattle.image.proofs.reader.Reader.env_at.Goals as goal

pub returns : goal.returns
unfolding env_at
returns c =
    ap (λ (terms : List ℕ). record { terms = terms })
    (made_entries _ _ c.from_fn.result c.args.self.now.image.now first_variable 8 c.args.at (λ i y q k. search rules) c.from_fn.ensures.items)
