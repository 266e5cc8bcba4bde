-- `accepted::rules::Items::are_branches` meets its contract: the number of branches decides, then each branch.
use borrow.Author.Rules.{rules}
use borrow.Author.Tests.{tests}
use native.Mathlib.Omega.{arith}
use mathlib.Core.Path.{refl, ◌∙◌}
use Prim.Native.Nat.{◌+◌, ◌*◌}
use Rattle.std.proofs.lemmas.Iterator.{YieldsList-from_range}
use Rattle.std.proofs.lemmas.Iterator.Search.{all_from_yields_List}
use Rattle.accepted.specs.Rules.{branch_ok}
use Rattle.library.specs.Bytes.{branch_at}
use Rattle.library.proofs.RowLaws.{all_items}
use Rattle.accepted.proofs.RuleLaws.{state-many, state-few}
use Rattle.accepted.proofs.rules.Items.are_branches.Goals as goal

pub returns-then-self-gt-MOST_ITEMS : goal.returns-then-self-gt-MOST_ITEMS
returns-then-self-gt-MOST_ITEMS c = let a = c.args.self.now in state-many (branch_at a.bytes.now) 12 c.args.states c.args.state a.count a.from c.if-self-gt-MOST_ITEMS.true

pub returns : goal.returns
returns c =
    let a = c.args.self.now in
    let read = branch_at a.bytes.now in
    state-few read 12 c.args.states c.args.state a.count a.from c.if-self-gt-MOST_ITEMS.false _
    (all_from_yields_List (λ i. branch_ok c.args.states c.args.state (read (a.from + 12 * i))) _ _ _ c.all.ensures.ran (YieldsList-from_range 0 a.count a.count refl (omega arith)) (λ x b q k. search (rules, tests))
    ∙ all_items read (branch_ok c.args.states c.args.state) 12 a.count a.from)
