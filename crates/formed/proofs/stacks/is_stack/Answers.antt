-- `formed::stacks::is_stack` meets its contract: the depth, those below, and the top of a full stack.
use borrow.Author.Rules.{rules}
use borrow.Author.Tests.{lt-ltb}
use mathlib.Core.Path.{◌≡◌, ◌∙◌}
use mathlib.Core.Bool.{not}
use Rattle.model.specs.Instance.{is_suspended}
use Rattle.formed.proofs.RuleLaws.{too_deep, below_asleep, awake_below, low_stack, full-stack}
use Rattle.formed.proofs.stacks.is_stack.Goals as goal

pub returns-then-depth-gt-MOST_BELOW : goal.returns-then-depth-gt-MOST_BELOW
returns-then-depth-gt-MOST_BELOW c = too_deep c.args.stack.now c.if-depth-gt-MOST_BELOW.true

pub returns-then-depth-lt-MOST_BELOW : goal.returns-then-depth-lt-MOST_BELOW
returns-then-depth-lt-MOST_BELOW c =
    let stack = c.args.stack.now in
    let asleep = below_asleep stack c.beneath.result.now c.are_suspended.result c.beneath.ensures.len c.if-depth-gt-MOST_BELOW.false c.beneath.ensures.value c.are_suspended.ensures in
    rw (lt-ltb stack.depth 7 c.if-depth-lt-MOST_BELOW.true) (low_stack stack c.if-depth-gt-MOST_BELOW.false c.are_suspended.result asleep c.if-are_suspended.true c.if-depth-lt-MOST_BELOW.true)

pub returns-else-depth-lt-MOST_BELOW : goal.returns-else-depth-lt-MOST_BELOW
returns-else-depth-lt-MOST_BELOW c =
    let stack = c.args.stack.now in
    let asleep = below_asleep stack c.beneath.result.now c.are_suspended.result c.beneath.ensures.len c.if-depth-gt-MOST_BELOW.false c.beneath.ensures.value c.are_suspended.ensures in
    let awake : c.ne.result ≡ not (is_suspended stack.top.status) = search rules in
    awake ∙ full-stack stack c.if-depth-gt-MOST_BELOW.false c.are_suspended.result asleep c.if-are_suspended.true c.if-depth-lt-MOST_BELOW.false

pub returns-else-are_suspended : goal.returns-else-are_suspended
returns-else-are_suspended c =
    let stack = c.args.stack.now in
    let asleep = below_asleep stack c.beneath.result.now c.are_suspended.result c.beneath.ensures.len c.if-depth-gt-MOST_BELOW.false c.beneath.ensures.value c.are_suspended.ensures in
    c.if-are_suspended.false ∙ awake_below stack c.if-depth-gt-MOST_BELOW.false c.are_suspended.result asleep c.if-are_suspended.false
