-- `endings::endings_of` asks for the counts of a plan that is there, of an accepted library.
use borrow.Author.Rules.{rules}
use mathlib.Core.Path.{sym}
use Rattle.library.specs.Layout.{plan_of}
use Rattle.accepted.proofs.Accepted.{part-accepted, part_there, keeps}
use Rattle.accepted.proofs.RuleFacts.{some-state}
use Rattle.endings.proofs.endings_of.Goals as goal

pub invariant_of-body : goal.invariant_of-body
invariant_of-body c =
    let a = c.args in
    let given = sym c.in_ok-plan_refusal.ensures in
    record { accepted = (part-accepted a.library.now a.plan given, part_there a.library.now a.plan given) }

pub from_state-requires : goal.from_state-requires
from_state-requires c =
    let a = c.args in
    let given = sym c.in_ok-plan_refusal.ensures in
    let accepted = part-accepted a.library.now a.plan given in
    let some = some-state (plan_of a.library.now a.plan).states (keeps a.library.now accepted a.plan (part_there a.library.now a.plan given)).states in
    search rules
