-- What the bound means to a loft: once it is spent nothing further counts, and cycles alone spend it or are at rest before.
use Prim.Native.Nat.{◌≤◌, ◌<◌}
use mathlib.Core.Path.{◌≡◌, refl, ap, subst, ◌∙◌}
use mathlib.Core.Bool.{Bool, true, false, not}
use mathlib.Core.List.{List, [], ◌∷◌, ◌++◌, map}
use native.Mathlib.Omega.{arith}
use lib.Dec.{ltb}
use lib.ListN.{length}
use borrow.Author.Tests.{ltb-true, ltb-false}
use Rattle.lists.specs.Counts.{bit, Every}
use Rattle.lists.proofs.BoolLaws.{by_cases, both_ways}
use Rattle.lists.proofs.CountLaws.{bit_every, total-append, total_le}
use Rattle.library.specs.Plan.{Library}
use Rattle.model.specs.State.{AgentState, Call, report, cycle, outcome}
use Rattle.model.specs.Calls.{call}
use Rattle.model.specs.Run.{Entry, entry, IsChain}
use Rattle.model.proofs.UnchangedLaws.{call-unchanged}
use Rattle.rest.specs.Rest.{is_report, is_cycle, is_work, work_in, bound_of, RestsWithin, AtRest}

-- a list of cycles has no report
pub cycles_quiet : (calls : List Call) → Every is_cycle calls → Every (λ c. not (is_report c)) calls
cycles_quiet calls z = omega (arith, total_le (λ c. bit (not (not (is_report c)))) (λ c. bit (not (is_cycle c))) calls no_report)
  where
    no_report : (c : Call) → bit (not (not (is_report c))) ≤ bit (not (is_cycle c))
    no_report cycle = omega arith
    no_report c = omega arith

is_cycle_lem : (c : Call) → is_cycle c ≡ true → c ≡ cycle
is_cycle_lem (report kind literal) e = both_ways e refl
is_cycle_lem cycle e = refl
is_cycle_lem (outcome id worked) e = both_ways e refl

-- a cycle that does not count is refused or idle
no_work : (b : Bool) → not b ≡ false → b ≡ true
no_work true e = refl
no_work false e = both_ways {b = true} refl e

module _ (library : Library) (s : AgentState) (entries more : List Entry) (within : RestsWithin library s (entries ++ more)) where
  -- as much work is done as the bound allows: nothing further counts
  pub spent_at_rest : bound_of library s ≤ work_in entries → AtRest more
  spent_at_rest spent = omega (arith, total-append (λ (e : Entry). bit (is_work e.call e.result.answer)) entries more)

module _ (library : Library) where
  abbrev Cycles : List Entry → Type 0
  Cycles entries = Every is_cycle (map (λ (e : Entry). e.call) entries)

  -- the first of a chain of cycles is a cycle on the state
  first-cycle : (s : AgentState) (x : Entry) (xs : List Entry) → x ≡ entry x.call (call library s x.call) → Cycles (x ∷ xs)
      → x ≡ entry cycle (call library s cycle)
  first-cycle s x xs h z = subst (λ (c : Call). x ≡ entry c (call library s c)) (is_cycle_lem x.call (bit_every (is_cycle x.call) (omega arith))) h

  -- a cycle that does not count leaves the state as it was, so every further one answers the same
  still : (s : AgentState) → is_work cycle (call library s cycle).result.answer ≡ false → (entries : List Entry) → IsChain library s entries
      → Cycles entries → AtRest entries
  unfolding is_work
  still s e [] c z = refl
  still s e (x ∷ xs) c z =
      let here = first-cycle s x xs c.0 z in
      let same : x.state ≡ s = ap (λ (y : Entry). y.state) here ∙ call-unchanged library s cycle (no_work _ e) in
      omega (arith, ap (λ (y : Entry). bit (is_work y.call y.result.answer)) here, ap bit e, still s e xs (subst (λ (t : AgentState). IsChain library t xs) same c.1) (omega arith))

  -- where some of the first cycles do not count, none of the further ones does
  spare : (s : AgentState) (entries more : List Entry) → IsChain library s (entries ++ more) → Cycles (entries ++ more)
      → work_in entries < length entries → AtRest more
  spare s [] more c z l = absurd (omega arith)
  spare s (x ∷ xs) more c z l = by_cases (is_work x.call x.result.answer)
      (λ e. spare x.state xs more c.1 (omega arith) (omega (arith, ap bit e)))
      (λ e. let here = first-cycle s x (xs ++ more) c.0 z in
      let first : is_work cycle (call library s cycle).result.answer ≡ false = subst (λ (y : Entry). is_work y.call y.result.answer ≡ false) here e in
      omega (arith, still s first (x ∷ (xs ++ more)) c z, total-append (λ (y : Entry). bit (is_work y.call y.result.answer)) xs more))

  -- after as many cycles as the bound allows, every further one is idle or refused
  pub cycles_at_rest : (s : AgentState) (entries more : List Entry) → RestsWithin library s (entries ++ more) → IsChain library s (entries ++ more)
      → Cycles (entries ++ more) → bound_of library s ≤ length entries → AtRest more
  cycles_at_rest s entries more within c z enough = by_cases (ltb (work_in entries) (length entries))
      (λ e. spare s entries more c z (ltb-true _ _ e))
      (λ e. spent_at_rest library s entries more within (omega (arith, ltb-false (work_in entries) (length entries) e)))
