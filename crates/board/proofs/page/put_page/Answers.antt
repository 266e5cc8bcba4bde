-- `board::page::put_page` meets its contract. The loop's invariant: the lines of the first i stacks are written.
use borrow.Author.Rules.{rules}
use native.Mathlib.Omega.{arith}
use Prim.Native.Nat.{◌<◌}
use mathlib.Core.Path.{◌≡◌, refl, ap, ◌∙◌}
use mathlib.Core.List.{List}
use lib.ListN.{length, get_or}
use Rattle.std.proofs.lemmas.List.{get_or-take}
use Rattle.lists.proofs.ArrayLaws.{length-mapped}
use Rattle.state.specs.declared.Stack.{Stack}
use Rattle.state.specs.View.{no_stack, stacked_of, view_stacks}
use Rattle.board.proofs.PageLaws.{no_stacks, stack_room, stack_more, all_stacks}
use Rattle.board.proofs.page.put_page.Goals as goal

pub loop-i-init : goal.loop-i-init
loop-i-init c = (refl, no_stacks (view_stacks c.args.s))

pub put_stack-o-requires : goal.put_stack-o-requires
put_stack-o-requires c =
    let s = c.args.s in
    let long : length s.stacks ≡ 8 = search (rules, length-mapped) in
    let low : c.loop-i.i < stacked_of s = omega (arith, c.standing-stack-items.ensures.len) in
    let same : get_or c.standing-stack-items.result.now c.loop-i.i no_stack ≡ get_or s.stacks c.loop-i.i no_stack
    = ap (λ (l : List Stack). get_or l c.loop-i.i no_stack) c.standing-stack-items.ensures.value ∙ get_or-take (stacked_of s) s.stacks c.loop-i.i no_stack low in
    rw same (stack_room s c.loop-i.i long low c.loop-i.invariant.1.within (omega (arith, c.loop-i.invariant.0, c.requires)))

pub loop-i-preserved : goal.loop-i-preserved
loop-i-preserved c =
    let s = c.args.s in
    let long : length s.stacks ≡ 8 = search (rules, length-mapped) in
    let low : c.loop-i.i < stacked_of s = omega (arith, c.standing-stack-items.ensures.len) in
    let same : get_or c.standing-stack-items.result.now c.loop-i.i no_stack ≡ get_or s.stacks c.loop-i.i no_stack
    = ap (λ (l : List Stack). get_or l c.loop-i.i no_stack) c.standing-stack-items.ensures.value ∙ get_or-take (stacked_of s) s.stacks c.loop-i.i no_stack low in
    (c.put_stack-o.auto.out ∙ c.loop-i.invariant.0, stack_more s c.loop-i.i long low c.loop-i.invariant.1 (rw same at c.put_stack-o.ensures))

pub returns : goal.returns
returns c =
    let s = c.args.s in
    let long : length s.stacks ≡ 8 = search (rules, length-mapped) in
    all_stacks s (length c.standing-stack-items.result.now) c.loop-i.i long c.standing-stack-items.ensures.len (omega arith) (c.requires) c.loop-i.invariant.1
