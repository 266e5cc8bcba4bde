-- `accepted::stages::beliefs_ok` meets its contract: ground first, then all different and no opposites, of the beliefs as they were read.
use native.Mathlib.Omega.{arith}
use Prim.Native.Nat.{◌≤◌}
use mathlib.Core.Path.{◌≡◌, sym, ap, ◌∙◌}
use lib.ListN.{length}
use lib.Seq.{length-take-le}
use Rattle.std.specs.List.{list_all}
use Rattle.lists.specs.Search.{distinct}
use Rattle.literal.specs.Literal.{is_ground}
use Rattle.library.specs.Layout.{belief_count, beliefs_of}
use Rattle.accepted.specs.Rules.{most_beliefs}
use Rattle.accepted.proofs.StageLaws.{alike, no_beliefs, beliefs_made, ground_fails, apart_decides}
use Rattle.accepted.proofs.stages.beliefs_ok.Goals as goal

pub returns-then-count-eq0 : goal.returns-then-count-eq0
returns-then-count-eq0 c = no_beliefs c.args.library.now (sym c.belief_count-count.ensures ∙ c.if-count-eq0.true)

pub returns-else-all_ground : goal.returns-else-all_ground
returns-else-all_ground c =
    let bytes = c.args.library.now in
    let loop = c.loop-place in
    let few : c.belief_count-count.result ≤ most_beliefs = rw c.belief_count-count.ensures c.requires in
    let long : length loop.beliefs ≡ belief_count bytes = loop.auto.beliefs ∙ length-take-le _ _ few ∙ c.belief_count-count.ensures in
    let read : loop.beliefs ≡ beliefs_of bytes
    = beliefs_made bytes loop.beliefs long (λ i h. loop.invariant i (omega (arith, h, c.loop-place-test.false))) in
    c.if-all_ground.false ∙ ground_fails (beliefs_of bytes) (sym (ap (list_all is_ground) read) ∙ sym c.all_ground.ensures ∙ c.if-all_ground.false)

pub returns-then-all_ground : goal.returns-then-all_ground
returns-then-all_ground c =
    let bytes = c.args.library.now in
    let loop = c.loop-place in
    let few : c.belief_count-count.result ≤ most_beliefs = rw c.belief_count-count.ensures c.requires in
    let long : length loop.beliefs ≡ belief_count bytes = loop.auto.beliefs ∙ length-take-le _ _ few ∙ c.belief_count-count.ensures in
    let read : loop.beliefs ≡ beliefs_of bytes
    = beliefs_made bytes loop.beliefs long (λ i h. loop.invariant i (omega (arith, h, c.loop-place-test.false))) in
    c.all_apart.ensures
    ∙ ap (distinct alike) read
    ∙ apart_decides (beliefs_of bytes) (sym (ap (list_all is_ground) read) ∙ sym c.all_ground.ensures ∙ c.if-all_ground.true)
