-- `jobs::live_jobs` meets its contract. The loops' invariant: the places before the count hold all jobs but those that are left to write.
use borrow.Author.Rules.{rules}
use native.Mathlib.Omega.{arith}
use Prim.Native.Nat.{◌<◌, ◌≤◌}
use mathlib.Core.Path.{◌≡◌, ap, refl, ◌∙◌}
use mathlib.Core.List.{List, [], ◌∷◌, ◌++◌}
use lib.ListN.{length, take, length-append, length-take}
use Rattle.std.specs.Slice.Iter.{iter_rest}
use Rattle.std.specs.Iterator.Adapters.{rev_source}
use Rattle.state.specs.declared.Stack.{Stack}
use Rattle.state.proofs.ViewLaws.{first_stacks}
use Rattle.jobs.specs.Jobs.{flat}
use Rattle.jobs.proofs.FlatLaws.{live_from, written_stack, written_poster, written_bottom, counted, written_all}
use Rattle.jobs.proofs.live_jobs.Goals as goal

pub loop-poster-init : goal.loop-poster-init
loop-poster-init c =
    let l = c.loop-stack in
    let below = iter_rest (rev_source c.into_iter-poster-iterator.result) in
    let e : below ≡ c.beneath.result.now = search rules in
    let deep = ap length e ∙ c.beneath.ensures.len in (
      omega (arith, deep),
      written_stack l.items l.count _ (take c.min.result c.args.stacks.now) l.stack-index below _ c.loop-stack-test.true (e ∙ c.beneath.ensures.value) deep l.invariant.1,
    )

pub loop-poster-preserved : goal.loop-poster-preserved
loop-poster-preserved c =
    let l = c.loop-poster in
    let a = c.append-count in
    let below = iter_rest (rev_source l.poster-iterator) in
    let left = iter_rest (rev_source c.next.new.self) in
    let e : below ≡ left ++ (c.in-Some.poster.now ∷ []) = c.in-Some.ensures.steps in
    let few : l.count < 64 = omega (arith, length-take c.min.result c.args.stacks.now, c.min.ensures) in
    let more = counted l.items l.count a.result a.ensures.count l.invariant.1.long few in (
      omega (arith, more, ap length e, length-append left (c.in-Some.poster.now ∷ [])),
      written_poster l.items l.count _ a.new.items a.result _ a.ensures.places a.ensures.count few _ l.x c.in-Some.poster.now c.goal_of-origin.result below left _
          e c.goal_of-origin.ensures refl l.invariant.1,
    )

pub loop-stack-preserved : goal.loop-stack-preserved
loop-stack-preserved c =
    let l = c.loop-poster in
    let a = c.append-count-in-loop-stack in
    let few : l.count < 64 = omega (arith, length-take c.min.result c.args.stacks.now, c.min.ensures) in
    let more = counted l.items l.count a.result a.ensures.count l.invariant.1.long few in (
      omega (arith, more),
      written_bottom l.items l.count _ a.new.items a.result _ a.ensures.places a.ensures.count few _ l.x _ _ c.in-None.ensures.steps.0 refl l.invariant.1,
    )

pub returns : goal.returns
returns c =
    let l = c.loop-stack in
    let filled : l.count ≤ 64 = omega (arith, length-take c.min.result c.args.stacks.now, c.min.ensures) in
    written_all l.items l.count _ (take c.min.result c.args.stacks.now) l.stack-index c.loop-stack-test.false filled l.invariant.1
    ∙ ap (λ (ks : List Stack). flat (live_from ks 0)) (first_stacks c.args.stacks.now c.min.result c.min.ensures)
