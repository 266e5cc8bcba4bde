-- `accepted::stages::all_apart` meets its contract. The loop's invariant: the beliefs left decide as all.
use borrow.Author.Rules.{rules}
use borrow.Author.Tests.{tests}
use native.Mathlib.Omega.{arith}
use Prim.Native.Nat.{◌-◌}
use mathlib.Core.Path.{sym, ◌∙◌}
use lib.ListN.{length, take, drop, get_or}
use Rattle.std.proofs.lemmas.Iterator.{YieldsList-from_slice}
use Rattle.std.proofs.lemmas.Iterator.Search.{any_from_yields_List}
use Rattle.lists.proofs.DistinctLaws.{distinct_from_first, distinct_none}
use Rattle.literal.specs.Literal.{same}
use Rattle.library.specs.Plan.{no_literal}
use Rattle.accepted.proofs.StageLaws.{alike}
use Rattle.accepted.proofs.stages.all_apart.Goals as goal

pub returns-then-any : goal.returns-then-any
unfolding same
returns-then-any c =
    let rest = c.loop-rest.rest.now in
    let repeated = any_from_yields_List (alike (get_or rest 0 no_literal)) _ _ c.any.result c.any.ensures.ran
    (YieldsList-from_slice (take (length rest - 1) (drop 1 rest)) cc) (λ x b q k. search (rules, tests)) in
    sym (sym c.loop-rest.invariant ∙ distinct_from_first alike rest no_literal c.in-len1-up.len_at_least ∙ rw (sym repeated ∙ c.if-any.true))

pub loop-rest-preserved : goal.loop-rest-preserved
unfolding same
loop-rest-preserved c =
    let rest = c.loop-rest.rest.now in
    let repeated = any_from_yields_List (alike (get_or rest 0 no_literal)) _ _ c.any.result c.any.ensures.ran
    (YieldsList-from_slice (take (length rest - 1) (drop 1 rest)) cc) (λ x b q k. search (rules, tests)) in
    sym (distinct_from_first alike rest no_literal c.in-len1-up.len_at_least ∙ rw (sym repeated ∙ c.if-any.false)) ∙ c.loop-rest.invariant

pub returns : goal.returns
returns c = sym (distinct_none alike c.loop-rest.rest.now (omega (arith, c.in_default.len_below))) ∙ c.loop-rest.invariant
