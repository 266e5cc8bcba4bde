-- It comes to rest, for every library whose bytes are accepted: a body is a tree of at most 16 states, so it has at most 15 branches.
use Prim.Native.Nat.{ℕ, ◌+◌, ◌≤◌, ◌<◌}
use mathlib.Core.Path.{◌≡◌, refl, sym, ap, subst}
use mathlib.Core.Bool.{true, not}
use mathlib.Core.List.{List, [], ◌∷◌, map}
use native.Mathlib.Omega.{arith}
use lib.Dec.{ltb}
use lib.ListN.{length, get_or-eq_default}
use borrow.Author.Tests.{ltb-true, ltb-false}
use Rattle.lists.specs.Counts.{total, Every}
use Rattle.lists.proofs.BoolLaws.{by_cases}
use Rattle.library.specs.declared.Branch.{Branch}
use Rattle.library.specs.Plan.{Plan, no_plan}
use Rattle.library.specs.Layout.{plan_count, plan_of, library_of}
use Rattle.library.proofs.PartLaws.{length_plans, plan_is}
use Rattle.accepted.specs.Refusal.{Accepted}
use Rattle.accepted.proofs.RuleFacts.{few-states}
use Rattle.accepted.proofs.Size as Size
use Rattle.accepted.proofs.Accepted.{keeps}
use Rattle.model.specs.State.{AgentState}
use Rattle.model.specs.WellFormed.{is_well_formed}
use Rattle.model.specs.Run.{Entry, IsChain}
use Rattle.model.proofs.AcceptedLibrary.{acceptable}
use Rattle.rest.specs.Rest.{is_report, RestsWithin}
use Rattle.rest.proofs.Costs.{Small}
use Rattle.rest.proofs.RunLaws

-- all branches of all states, summed
sum-branches : (states : List (List Branch)) → total (λ branches. length branches) states ≡ Size.total states
sum-branches [] = refl
sum-branches (branches ∷ states) = ap (λ n. length branches + n) (sum-branches states)

-- the body has at most 15 branches
abbrev few : Plan → Type 0
few p = total (λ branches. length branches) p.states ≤ 15

module _ (bytes : List ℕ) (accepted : Accepted bytes) where
  small : Small (library_of bytes)
  small plan = by_cases (ltb plan (length (library_of bytes).plans))
      (λ e.
      let there : plan < plan_count bytes = omega (arith, ltb-true plan _ e, length_plans bytes) in
      let states = (plan_of bytes plan).states in
      let ok = (keeps bytes accepted plan there).states in
      subst few (sym (plan_is bytes plan no_plan there)) (omega (arith, sum-branches states, Size.tree_branches states ok, few-states states ok)))
      (λ e. subst few (sym (get_or-eq_default (library_of bytes).plans no_plan (ltb-false plan _ e))) (omega arith))

  pub chain_rests : (s : AgentState) → is_well_formed (library_of bytes) s ≡ true → (entries : List Entry) → IsChain (library_of bytes) s entries
      → Every (λ c. not (is_report c)) (map (λ e. e.call) entries) → RestsWithin (library_of bytes) s entries
  chain_rests = RunLaws.chain_rests (library_of bytes) (acceptable bytes accepted) small
