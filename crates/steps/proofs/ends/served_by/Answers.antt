-- `steps::ends::served_by` meets its contract: the external event at the bottom, else the goal of the instance below.
use native.Mathlib.Omega.{arith}
use Prim.Native.Nat.{◌<◌}
use mathlib.Core.Path.{◌≡◌, ap, ◌∙◌}
use Rattle.model.specs.Live.{goal_of}
use Rattle.state.specs.View.{depth_of}
use Rattle.steps.proofs.EndLaws.{serves_external, serves_goal}
use Rattle.steps.proofs.ends.served_by.Goals as goal

pub returns-then-depth-lt1 : goal.returns-then-depth-lt1
returns-then-depth-lt1 c =
    let a = c.args in
    let bottom : depth_of a.stack ≡ 0 = omega (arith, c.depth.ensures, c.if-depth-lt1) in
    serves_external a.stack bottom

pub returns : goal.returns
returns c =
    let a = c.args in
    let above : 0 < depth_of a.stack = omega (arith, c.depth.ensures, c.if-depth-lt1) in
    c.goal_of.ensures ∙ ap goal_of c.under_top.ensures ∙ serves_goal a.stack above
