-- `formed::events::are_distinct` meets its contract. The loop's invariant: the events left decide as all.
use borrow.Author.Rules.{rules}
use borrow.Author.Tests.{tests}
use native.Mathlib.Omega.{arith}
use Prim.Native.Nat.{◌-◌}
use mathlib.Core.Path.{sym, ◌∙◌}
use lib.ListN.{length, take, drop, get_or}
use Rattle.std.proofs.lemmas.Iterator.{YieldsList-from_slice}
use Rattle.std.proofs.lemmas.Iterator.Search.{any_from_yields_List}
use Rattle.model.specs.State.{no_event}
use Rattle.model.specs.Live.{same_origin}
use Rattle.model.specs.WellFormed.{same_event}
use Rattle.formed.proofs.ListLaws.{distinct_from_first, distinct_none}
use Rattle.formed.proofs.events.are_distinct.Goals as goal

pub returns-then-any : goal.returns-then-any
unfolding same_origin
returns-then-any c =
    let rest = c.loop-rest.rest.now in
    let repeated = any_from_yields_List (same_event (get_or rest 0 no_event)) _ _ c.any.result c.any.ensures.ran
    (YieldsList-from_slice (take (length rest - 1) (drop 1 rest)) cc) (λ x b q k. search (rules, tests)) in
    sym (sym c.loop-rest.invariant ∙ distinct_from_first same_event rest no_event c.in-len1-up.len_at_least ∙ rw (sym repeated ∙ c.if-any.true))

pub loop-rest-preserved : goal.loop-rest-preserved
unfolding same_origin
loop-rest-preserved c =
    let rest = c.loop-rest.rest.now in
    let repeated = any_from_yields_List (same_event (get_or rest 0 no_event)) _ _ c.any.result c.any.ensures.ran
    (YieldsList-from_slice (take (length rest - 1) (drop 1 rest)) cc) (λ x b q k. search (rules, tests)) in
    sym (distinct_from_first same_event rest no_event c.in-len1-up.len_at_least ∙ rw (sym repeated ∙ c.if-any.false)) ∙ c.loop-rest.invariant

pub returns : goal.returns
returns c = sym (distinct_none same_event c.loop-rest.rest.now (omega (arith, c.in_default.len_below))) ∙ c.loop-rest.invariant
