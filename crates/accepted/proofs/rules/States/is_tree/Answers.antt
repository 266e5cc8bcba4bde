-- `accepted::rules::States::is_tree` meets its contract: the counts of all the branches decide as the definition does.
use borrow.Author.Rules.{rules}
use borrow.Author.Tests.{tests}
use mathlib.Core.Path.{refl, ◌∙◌}
use Prim.Native.Nat.{◌-◌}
use lib.ListN.{take, drop}
use lib.Dec.{eqb}
use Rattle.std.proofs.lemmas.Iterator.{YieldsList-from_slice}
use Rattle.std.proofs.lemmas.Iterator.Search.{all_from_yields_List}
use Rattle.library.specs.Bytes.{branch_at, rows}
use Rattle.library.proofs.RowLaws.{length-rows}
use Rattle.accepted.proofs.CountLaws.{no_counts, counts_decide}
use Rattle.accepted.proofs.rules.States.is_tree.Goals as goal

pub returns : goal.returns
returns c =
    let a = c.args.self.now in
    let read = branch_at a.bytes.now in
    let counts = c.enter.new.counts in
    let many = length-rows read a.bytes.now 12 a.count a.from in
    all_from_yields_List (λ times. eqb times 1) _ _ _ c.all.ensures.ran (YieldsList-from_slice (take (a.count - 1) (drop 1 counts)) c.iter.ensures.rest) (λ x b q k. search (rules, tests))
    ∙ rw c.enter.ensures
    (counts_decide _ refl (no_counts 16) (rows read a.bytes.now 12 a.count a.from) a.count many a.bounded.1.0 a.bounded.1.1)
