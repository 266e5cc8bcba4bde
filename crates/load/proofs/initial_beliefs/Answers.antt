-- `load::initial_beliefs` meets its contract: each place holds the belief of its number, or none.
use borrow.Author.Rules.{rules}
use Prim.Native.Nat.{ℕ}
use native.Mathlib.Nat.{zero-add}
use mathlib.Core.Path.{sym, ◌∙◌}
use lib.ListN.{get_or}
use Rattle.library.specs.Plan.{no_literal}
use Rattle.library.specs.Layout.{beliefs_of}
use Rattle.library.proofs.PartLaws.{length-beliefs}
use Rattle.load.proofs.LoadLaws.{made_each, filled}
use Rattle.load.proofs.initial_beliefs.Goals as goal

pub returns : goal.returns
returns c =
    let bytes = c.args.library.now in
    let belief = λ (i : ℕ). get_or (beliefs_of bytes) i no_literal in
    let each = made_each _ _ c.from_fn.result belief (λ i y q k. search rules) 64 0 c.from_fn.ensures.items.each in
    filled (beliefs_of bytes) c.from_fn.result _ c.from_fn.ensures.items.long (λ i d h. rw zero-add at (each i d h))
    (c.belief_count.ensures ∙ sym (length-beliefs bytes)) c.requires
