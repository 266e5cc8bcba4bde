-- `trials::changes::with_change` meets its contract: not ground, a removal, or an add.
use borrow.Author.Rules.{rules}
use mathlib.Core.Path.{◌≡◌, sym, ◌∙◌}
use lib.ListN.{length}
use Rattle.lists.proofs.ArrayLaws.{length-mapped}
use Rattle.trials.proofs.AlteredLaws.{change_open, change-removes, change-adds}
use Rattle.trials.proofs.changes.with_change.Goals as goal

pub returns-then-not-is_ground : goal.returns-then-not-is_ground
returns-then-not-is_ground c =
    let a = c.args in
    change_open a.b a.c (sym c.is_ground.ensures ∙ c.if-not-is_ground.true)

pub returns-then-c : goal.returns-then-c
returns-then-c c =
    let a = c.args in
    let len : length a.b.items ≡ 64 = search (rules, length-mapped) in
    rw c.removed.ensures (change-removes a.b a.c len (sym c.is_ground.ensures ∙ c.if-not-is_ground.false) c.if-c.true)

pub returns : goal.returns
returns c =
    let a = c.args in
    let len : length a.b.items ≡ 64 = search (rules, length-mapped) in
    rw c.added.ensures (change-adds a.b a.c len (sym c.is_ground.ensures ∙ c.if-not-is_ground.false) c.if-c.false)
