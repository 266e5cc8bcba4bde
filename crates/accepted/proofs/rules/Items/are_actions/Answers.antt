-- `accepted::rules::Items::are_actions` meets its contract: the range's numbers test the items.
use borrow.Author.Rules.{rules}
use borrow.Author.Tests.{tests}
use native.Mathlib.Omega.{arith}
use mathlib.Core.Path.{refl, ◌∙◌}
use Prim.Native.Nat.{◌+◌, ◌*◌}
use Rattle.std.proofs.lemmas.Iterator.{YieldsList-from_range}
use Rattle.std.proofs.lemmas.Iterator.Search.{all_from_yields_List}
use Rattle.accepted.specs.Rules.{action_ok}
use Rattle.library.specs.Bytes.{action_at}
use Rattle.library.proofs.RowLaws.{all_items}
use Rattle.accepted.proofs.rules.Items.are_actions.Goals as goal

pub returns : goal.returns
returns c =
    let a = c.args.self.now in
    all_from_yields_List (λ i. action_ok (action_at a.bytes.now (a.from + 10 * i))) _ _ _ c.all.ensures.ran (YieldsList-from_range 0 a.count a.count refl (omega arith)) (λ x b q k. search (rules, tests))
    ∙ all_items (action_at a.bytes.now) action_ok 10 a.count a.from
