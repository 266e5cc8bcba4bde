-- `formed::is_state_formed` meets its contract: the counts first, then the rules on the live instances.
use borrow.Author.Rules.{rules}
use Prim.Native.Nat.{◌≤◌}
use mathlib.Core.Path.{◌≡◌, ap, ◌∙◌}
use mathlib.Core.List.{List, map}
use lib.ListN.{length, take}
use Rattle.lists.proofs.ArrayLaws.{length-mapped}
use Rattle.model.specs.State.{most_number, Intention}
use Rattle.model.specs.Live.{live}
use Rattle.state.specs.View.{view_stack, view_stacks}
use Rattle.state.proofs.ViewLaws.{standing_all}
use Rattle.jobs.specs.Jobs.{flat}
use Rattle.formed.proofs.StateLaws.{stored_live, queue_too_long, stacks_too_many, rules_decide}
use Rattle.formed.proofs.is_state_formed.Goals.{then-s-gt-MOST_QUEUED-via-then-s-gt-MOST_QUEUED, then-s-gt-MOST_QUEUED-via-else-s-gt-MOST_QUEUED+then-s-gt-MOST_STACKS}
use Rattle.formed.proofs.is_state_formed.Goals as goal

pub returns-then-s-gt-MOST_QUEUED : goal.returns-then-s-gt-MOST_QUEUED
returns-then-s-gt-MOST_QUEUED c =
    elim c.then-s-gt-MOST_QUEUED.branch [
      | then-s-gt-MOST_QUEUED-via-then-s-gt-MOST_QUEUED w ↦ queue_too_long c.args.library.now c.args.s w.if-s-gt-MOST_QUEUED.true
      | then-s-gt-MOST_QUEUED-via-else-s-gt-MOST_QUEUED+then-s-gt-MOST_STACKS w ↦ stacks_too_many c.args.library.now c.args.s w.if-s-gt-MOST_STACKS.true
    ]

pub returns : goal.returns
returns c =
    let s = c.args.s in
    let len : length s.beliefs.items ≡ 64 = search (rules, length-mapped) in
    let taken : s.taken ≤ most_number = search rules in
    let made : s.made ≤ most_number = search rules in
    let standing : map view_stack (take 8 c.standing.result.now) ≡ view_stacks s
    = standing_all s c.standing.result.now c.standing.ensures.value c.standing.ensures.len in
    let stored = c.live_jobs-live.ensures ∙ ap (λ (stacks : List Intention). flat (live stacks)) standing in
    c.keeps_rules.ensures
    ∙ rules_decide c.args.library.now s len taken made c.if-s-gt-MOST_QUEUED.false c.if-s-gt-MOST_STACKS.false _ (c.as_slice.ensures ∙ stored_live s c.live_jobs-live.result stored)
