-- `formed::instances::are_distinct` meets its contract. The loop's invariant: the instances left decide as all.
use borrow.Author.Rules.{rules}
use borrow.Author.Tests.{tests}
use native.Mathlib.Omega.{arith}
use Prim.Native.Nat.{◌-◌, ◌≤◌}
use mathlib.Core.Path.{◌≡◌, sym, ap₂, ◌∙◌}
use mathlib.Core.Bool.{Bool, true, false, not, ◌&&◌, ◌||◌}
use mathlib.Core.List.{List}
use lib.ListN.{length, take, drop, get_or}
use Rattle.std.specs.List.{list_any}
use Rattle.lists.specs.Search.{distinct}
use Rattle.std.proofs.lemmas.Iterator.{YieldsList-from_slice}
use Rattle.std.proofs.lemmas.Iterator.Search.{any_from_yields_List}
use Rattle.model.specs.Live.{same_origin}
use Rattle.model.specs.declared.Origin.TheVariants.{External}
use Rattle.state.specs.View.{no_instance}
use Rattle.jobs.specs.declared.Job.{Job}
use Rattle.formed.specs.Stored.{same_stored_id, same_stored_event}
use Rattle.formed.proofs.ListLaws.{distinct_from_first, distinct_none, any_either, neither, some_repeated}
use Rattle.formed.proofs.instances.are_distinct.Goals as goal
use Rattle.formed.proofs.instances.are_distinct.Goals.{After-any}

nobody : Job
nobody = record { instance = no_instance; origin = External 0 }

-- those after the first
abbrev others : List Job → List Job
others rest = take (length rest - 1) (drop 1 rest)

-- one of them is like the first
abbrev repeats : (Job → Job → Bool) → List Job → Bool
repeats alike rest = list_any (alike (get_or rest 0 nobody)) (others rest)

module _ (rest : List Job) (some : 1 ≤ length rest) where
  parts : (distinct same_stored_id rest && distinct same_stored_event rest)
      ≡ ((not (repeats same_stored_id rest) && distinct same_stored_id (others rest)) && (not (repeats same_stored_event rest) && distinct same_stored_event (others rest)))
  parts = ap₂ (λ (a b : Bool). a && b) (distinct_from_first same_stored_id rest nobody some) (distinct_from_first same_stored_event rest nobody some)

  first_repeated : (repeats same_stored_id rest || repeats same_stored_event rest) ≡ true → false ≡ (distinct same_stored_id rest && distinct same_stored_event rest)
  first_repeated h = some_repeated (repeats same_stored_id rest) (repeats same_stored_event rest) (distinct same_stored_id (others rest)) (distinct same_stored_event (others rest)) h ∙ sym parts

  first_alone : (repeats same_stored_id rest || repeats same_stored_event rest) ≡ false
      → (distinct same_stored_id (others rest) && distinct same_stored_event (others rest)) ≡ (distinct same_stored_id rest && distinct same_stored_event rest)
  first_alone h = neither (repeats same_stored_id rest) (repeats same_stored_event rest) (distinct same_stored_id (others rest)) (distinct same_stored_event (others rest)) h ∙ sym parts

-- what the search among the others answers
searched : (c : After-any) → c.any.result ≡ (repeats same_stored_id c.loop-rest.rest.now || repeats same_stored_event c.loop-rest.rest.now)
unfolding same_origin nobody
searched c =
    let rest = c.loop-rest.rest.now in
    any_from_yields_List (λ other. same_stored_id (get_or rest 0 nobody) other || same_stored_event (get_or rest 0 nobody) other) _ _ c.any.result c.any.ensures.ran
    (YieldsList-from_slice (others rest) cc) (λ x b q k. search (rules, tests))
    ∙ any_either (same_stored_id (get_or rest 0 nobody)) (same_stored_event (get_or rest 0 nobody)) (others rest)

pub returns-then-any : goal.returns-then-any
returns-then-any c =
    let found = searched (goal.at.returns-then-any c).After-any in
    first_repeated c.loop-rest.rest.now c.in-len1-up.len_at_least (sym found ∙ c.if-any.true) ∙ c.loop-rest.invariant

pub loop-rest-preserved : goal.loop-rest-preserved
loop-rest-preserved c =
    let found = searched (goal.at.loop-rest-preserved c).After-any in
    first_alone c.loop-rest.rest.now c.in-len1-up.len_at_least (sym found ∙ c.if-any.false) ∙ c.loop-rest.invariant

pub returns : goal.returns
returns c =
    let rest = c.loop-rest.rest.now in
    sym (rw (distinct_none same_stored_id rest (omega (arith, c.in_default.len_below)), distinct_none same_stored_event rest (omega (arith, c.in_default.len_below)))) ∙ c.loop-rest.invariant
