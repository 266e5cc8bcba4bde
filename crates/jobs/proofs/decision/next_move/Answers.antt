-- `jobs::decision::next_move` meets its contract: each test of the model, in its order, on what the library's readers give.
use mathlib.Core.Path.{ap, ◌∙◌}
use Rattle.belief.specs.Beliefs.{view}
use Rattle.library.specs.Layout.{library_of}
use Rattle.model.specs.Turn.{tries}
use Rattle.jobs.proofs.DecisionLaws.{move_none, move_unkept, move_end, move_spent, move_tries}
use Rattle.jobs.proofs.decision.next_move.Goals as goal

pub returns-in_default : goal.returns-in_default
returns-in_default c = let a = c.args in move_none (library_of a.library.now) a.x (view a.b) c.in_default.ensures

pub returns-then-not-holds : goal.returns-then-not-holds
returns-then-not-holds c =
    let a = c.args in
    move_unkept (library_of a.library.now) a.x (view a.b) c.in-Some.plan c.in-Some.ensures _ _ c.maintenance_offset.ensures.value c.holds.ensures c.if-not-holds.true

pub returns-then-count-eq0 : goal.returns-then-count-eq0
returns-then-count-eq0 c =
    let a = c.args in
    move_end (library_of a.library.now) a.x (view a.b) c.in-Some.plan c.in-Some.ensures _ _ c.maintenance_offset.ensures.value c.holds.ensures c.if-not-holds.false
    _ c.branch_count-count.ensures c.if-count-eq0.true

pub returns-then-count-x : goal.returns-then-count-x
returns-then-count-x c =
    let a = c.args in
    move_spent (library_of a.library.now) a.x (view a.b) c.in-Some.plan c.in-Some.ensures _ _ c.maintenance_offset.ensures.value c.holds.ensures c.if-not-holds.false
    _ c.branch_count-count.ensures c.if-count-eq0.false c.if-count-x.true

pub returns : goal.returns
returns c =
    let a = c.args in
    ap tries c.branch-branch.ensures
    ∙ move_tries (library_of a.library.now) a.x (view a.b) c.in-Some.plan c.in-Some.ensures _ _ c.maintenance_offset.ensures.value c.holds.ensures c.if-not-holds.false
    _ c.branch_count-count.ensures c.if-count-x.false
