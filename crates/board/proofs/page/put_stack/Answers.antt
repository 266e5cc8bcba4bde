-- `board::page::put_stack` meets its contract. The loop's invariant: the lines of the lowest i instances are written.
use native.Mathlib.Omega.{arith}
use lib.ListN.{get_or}
use Rattle.std.proofs.lemmas.List.{get_or-take}
use Rattle.state.specs.View.{depth_of, no_instance}
use mathlib.Core.Path.{◌≡◌, refl, ap, ◌∙◌}
use mathlib.Core.List.{List}
use Rattle.model.specs.declared.Instance.{Instance}
use Rattle.board.proofs.PageLaws.{no_lines, next_line_lem, stack-lines}
use Rattle.board.proofs.page.put_stack.Goals as goal

pub loop-i-init : goal.loop-i-init
loop-i-init c = (refl, no_lines c.args.number c.args.stack.now.below)

pub put_line-o-requires : goal.put_line-o-requires
put_line-o-requires c = omega (arith, c.loop-i.invariant.1.within, c.depth-n.ensures)

pub loop-i-preserved : goal.loop-i-preserved
loop-i-preserved c =
    let stack = c.args.stack.now in
    let among = c.beneath-x-items.ensures in
    let same : get_or c.beneath-x-items.result.now c.loop-i.i no_instance ≡ get_or stack.below c.loop-i.i no_instance =
    ap (λ (xs : List Instance). get_or xs c.loop-i.i no_instance) among.value ∙ get_or-take (depth_of stack) stack.below c.loop-i.i no_instance (omega (arith, among.len)) in
    (c.put_line-o.auto.out ∙ c.loop-i.invariant.0, next_line_lem c.args.number c.loop-i.i stack.below c.loop-i.invariant.1 (rw same at c.put_line-o.ensures))

pub put_line-requires : goal.put_line-requires
put_line-requires c = omega (arith, c.loop-i.invariant.1.within, c.depth-n.ensures)

pub returns : goal.returns
returns c =
    let last : c.loop-i.i ≡ c.depth-n.result = omega arith in
    stack-lines c.args.number c.depth-n.result c.args.stack.now c.depth-n.ensures (rw last at c.loop-i.invariant.1) c.put_line.ensures
