-- `from_branch` and `from_state` meet their contracts: each end counts by the move that is left, and a branch by its two ways on.
use borrow.Author.Rules.{rules}
use native.Mathlib.Omega.{arith}
use Prim.Native.Nat.{◌-◌, ◌<◌, ◌≤◌}
use mathlib.Core.Path.{◌≡◌, ap, ◌∙◌}
use mathlib.Core.List.{[]}
use lib.ListN.{length, get_or}
use Rattle.library.specs.declared.Branch.{Branch}
use Rattle.library.specs.Layout.{described}
use Rattle.accepted.proofs.Accepted.{keeps, branch_above, branch_below}
use Rattle.accepted.proofs.RuleFacts.{few-states}
use Rattle.endings.specs.declared.Counts.{Counts}
use Rattle.endings.specs.Answers.{has_succeeded, has_failed, endings}
use Rattle.endings.proofs.WaysLaws.{ways-few, end_now, end_later, none_now, none_later, next_now, next_later}
use Rattle.endings.proofs.Body.+from_branch_from_state.Goals as goal

pub from_branch-returns-then-n-eq0 : goal.from_branch-returns-then-n-eq0
from_branch-returns-then-n-eq0 t c =
    let a = c.args in
    let states = (described a.self.now.plan).states in
    let size : c.branch_count.result ≡ length (get_or states a.state []) = c.branch_count.ensures in
    let some : 0 < length (get_or states a.state []) = omega arith in
    let none : length (get_or states a.state []) ≤ a.at = omega arith in
    c.both.ensures ∙ none_now states a.state a.at some none a.n c.if-n-eq0.true

pub from_branch-returns-then-branch_count-at : goal.from_branch-returns-then-branch_count-at
from_branch-returns-then-branch_count-at t c =
    let a = c.args in
    let states = (described a.self.now.plan).states in
    let size : c.branch_count.result ≡ length (get_or states a.state []) = c.branch_count.ensures in
    let some : 0 < length (get_or states a.state []) = omega arith in
    let none : length (get_or states a.state []) ≤ a.at = omega arith in
    c.both-then-branch_count-at.ensures ∙ none_later states a.state a.at some none a.n c.if-n-eq0.false

pub from_branch-returns-then-n-eq0-2 : goal.from_branch-returns-then-n-eq0-2
from_branch-returns-then-n-eq0-2 t c =
    let a = c.args in
    let states = (described a.self.now.plan).states in
    let size : c.branch_count.result ≡ length (get_or states a.state []) = c.branch_count.ensures in
    let more : a.at < length (get_or states a.state []) = omega arith in
    c.both-then-n-eq0-2.ensures ∙ next_now states a.state a.at more a.n c.if-n-eq0-2.true

pub from_branch-from_state-worked-requires : goal.from_branch-from_state-worked-requires
from_branch-from_state-worked-requires t c =
    let a = c.args in
    let states = (described a.self.now.plan).states in
    let size : c.branch_count.result ≡ length (get_or states a.state []) = c.branch_count.ensures in
    let plan = a.self.now.plan in
    let library = plan.library.now in
    let accepted = a.self.now.accepted.0 in
    let there = a.self.now.accepted.1 in
    let inside : a.state < length states = omega arith in
    let more : a.at < length (get_or states a.state []) = omega arith in
    let few = few-states states (keeps library accepted plan.number there).states in
    let next = ap (λ (b : Branch). b.next) c.branch-taken.ensures in
    let above = branch_above library accepted plan.number there a.state a.at inside more in
    let below = branch_below library accepted plan.number there a.state a.at inside more in
    search rules

pub from_branch-overflow_add-worked : goal.from_branch-overflow_add-worked
from_branch-overflow_add-worked t c =
    let a = c.args in
    let states = (described a.self.now.plan).states in
    let one = ap (λ (r : Counts). r.succeeded) c.from_state-worked.ensures in
    let two = ap (λ (r : Counts). r.succeeded) c.from_branch-missed.ensures in
    record { fits = omega (arith, one, two, ways-few has_succeeded states) }

pub from_branch-overflow_add-worked-2 : goal.from_branch-overflow_add-worked-2
from_branch-overflow_add-worked-2 t c =
    let a = c.args in
    let states = (described a.self.now.plan).states in
    let one = ap (λ (r : Counts). r.failed) c.from_state-worked.ensures in
    let two = ap (λ (r : Counts). r.failed) c.from_branch-missed.ensures in
    record { fits = omega (arith, one, two, ways-few has_failed states) }

pub from_branch-returns : goal.from_branch-returns
from_branch-returns t c =
    let a = c.args in
    let states = (described a.self.now.plan).states in
    let size : c.branch_count.result ≡ length (get_or states a.state []) = c.branch_count.ensures in
    let more : a.at < length (get_or states a.state []) = omega arith in
    let next = ap (λ (b : Branch). endings states b.next 0 (a.n - 1)) c.branch-taken.ensures in
    c.both-2.ensures ∙ next_later states a.state a.at more a.n c.if-n-eq0-2.false c.from_state-worked.result c.from_branch-missed.result (c.from_state-worked.ensures ∙ next) c.from_branch-missed.ensures

pub from_state-returns-then-n-eq0 : goal.from_state-returns-then-n-eq0
from_state-returns-then-n-eq0 t c =
    let a = c.args in
    let states = (described a.self.now.plan).states in
    let size : c.branch_count.result ≡ length (get_or states a.state []) = c.branch_count.ensures in
    let none : length (get_or states a.state []) ≡ 0 = omega arith in
    c.both.ensures ∙ end_now states a.state 0 none a.n c.if-n-eq0.true

pub from_state-returns-then-branch_count-eq0 : goal.from_state-returns-then-branch_count-eq0
from_state-returns-then-branch_count-eq0 t c =
    let a = c.args in
    let states = (described a.self.now.plan).states in
    let size : c.branch_count.result ≡ length (get_or states a.state []) = c.branch_count.ensures in
    let none : length (get_or states a.state []) ≡ 0 = omega arith in
    c.both-then-branch_count-eq0.ensures ∙ end_later states a.state 0 none a.n c.if-n-eq0.false
