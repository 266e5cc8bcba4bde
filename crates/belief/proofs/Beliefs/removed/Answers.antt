-- `belief::Beliefs::removed` meets its contract: where the literal has a place among the beliefs, the gap is closed.
use borrow.Author.Rules.{rules}
use mathlib.Core.Path.{◌≡◌}
use lib.ListN.{length}
use Rattle.lists.proofs.ArrayLaws.{length-mapped}
use Rattle.belief.proofs.TableSteps.{remove_held}
use Rattle.belief.proofs.Beliefs.removed.Goals as goal

pub returns : goal.returns
returns c =
    let len : length c.args.self.items ≡ 64 = search (rules, length-mapped) in
    remove_held c.args.self c.args.l c.in-Some.place (rw c.as_slice.ensures at c.in-Some.ensures) _ _ len c.take_out.ensures.places c.take_out.ensures.count
