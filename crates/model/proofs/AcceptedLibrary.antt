-- The theorems for every library whose bytes are accepted: acceptance gives what the calls rest on.
use Prim.Native.Nat.{ℕ, ◌≤◌, ◌<◌}
use mathlib.Core.Path.{◌≡◌, sym, ap, subst}
use mathlib.Core.Bool.{true}
use mathlib.Core.List.{List, []}
use native.Mathlib.Omega.{arith}
use lib.Dec.{ltb, leb}
use lib.ListN.{length, get_or, get_or-eq_default}
use borrow.Author.Tests.{ltb-true, ltb-false, le-leb}
use Rattle.lists.specs.Counts.{Every}
use Rattle.lists.proofs.BoolLaws.{by_cases, and_both}
use Rattle.belief.specs.Beliefs.{most_beliefs, are_sound, are_beliefs}
use Rattle.library.specs.declared.Branch.{Branch}
use Rattle.library.specs.Plan.{Plan, no_plan, no_branch}
use Rattle.library.specs.Layout.{plan_count, plan_of, beliefs_of, library_of}
use Rattle.accepted.specs.Rules.{beliefs_ok}
use Rattle.accepted.specs.Refusal.{Accepted}
use Rattle.library.proofs.PartLaws.{length_plans, plan_is}
use Rattle.accepted.proofs.RuleFacts.{few-actions, some-state}
use Rattle.accepted.proofs.Accepted.{passed, few-beliefs, keeps, branch_above, branch_below}
use Rattle.model.specs.State.{most_actions, Call}
use Rattle.model.specs.WellFormed.{is_well_formed}
use Rattle.model.specs.Formed.{Acceptable}
use Rattle.model.specs.Calls.{loaded}
use Rattle.model.specs.Run.{run, final_of}
use Rattle.model.specs.Promises.{is_not_ten}
use Rattle.model.specs.Demand3.{Demand3}
use Rattle.model.proofs.CallLaws
use Rattle.model.proofs.Demand3Proof

module _ (bytes : List ℕ) (accepted : Accepted bytes) where
  -- ---- Plans of the library as a value

  there : (plan : ℕ) → plan < length (library_of bytes).plans → plan < plan_count bytes
  there plan h = omega (arith, length_plans bytes)

  -- what holds of a plan at its offset holds of its value
  of_plan : (P : Plan → Type 0) (plan : ℕ) → plan < length (library_of bytes).plans → (plan < plan_count bytes → P (plan_of bytes plan))
      → P (get_or (library_of bytes).plans plan no_plan)
  of_plan P plan h f = subst P (sym (plan_is bytes plan no_plan (there plan h))) (f (there plan h))

  -- a state that has a branch exists
  has-state : (states : List (List Branch)) (state branch : ℕ) → branch < length (get_or states state []) → state < length states
  has-state states state branch h = by_cases (ltb state (length states))
      (λ e. ltb-true state (length states) e)
      (λ e. absurd (omega (arith, ap length (get_or-eq_default states [] (ltb-false state (length states) e)))))

  -- ---- What acceptance gives

  pub acceptable : Acceptable (library_of bytes)
  unfolding library_of are_beliefs beliefs_ok
  acceptable = record {
    beliefs =
        and_both (leb (length (beliefs_of bytes)) most_beliefs) (are_sound (beliefs_of bytes)) (le-leb _ _ (few-beliefs bytes accepted))
        (passed bytes accepted).2;
    begun = λ plan h. of_plan (λ p. 0 < length p.states) plan h (λ t. some-state (plan_of bytes plan).states (keeps bytes accepted plan t).states);
    upward = λ plan state branch h. of_plan (λ p. branch < length (get_or p.states state []) → state < (get_or (get_or p.states state []) branch no_branch).next) plan h
        (λ t b. branch_above bytes accepted plan t state branch (has-state (plan_of bytes plan).states state branch b) b);
    inside = λ plan state branch h. of_plan (λ p. branch < length (get_or p.states state []) → (get_or (get_or p.states state []) branch no_branch).next < length p.states) plan h
        (λ t b. branch_below bytes accepted plan t state branch (has-state (plan_of bytes plan).states state branch b) b);
    success = λ plan h. of_plan (λ p. length p.success ≤ most_actions) plan h (λ t. few-actions (plan_of bytes plan).success (keeps bytes accepted plan t).success);
    failure = λ plan h. of_plan (λ p. length p.failure ≤ most_actions) plan h (λ t. few-actions (plan_of bytes plan).failure (keeps bytes accepted plan t).failure);
  }

  -- ---- The theorems, by bytes

  pub loaded_well_formed : is_well_formed (library_of bytes) (loaded (library_of bytes)) ≡ true
  loaded_well_formed = CallLaws.loaded_well_formed (library_of bytes) acceptable

  pub demand_3 : (calls : List Call)
      → Demand3 (beliefs_of bytes) (run (library_of bytes) (loaded (library_of bytes)) calls) (final_of (loaded (library_of bytes)) (run (library_of bytes) (loaded (library_of bytes)) calls))
  unfolding library_of
  demand_3 calls = Demand3Proof.demand_3 (library_of bytes) acceptable calls

  pub never_ten : (calls : List Call) → Every is_not_ten (run (library_of bytes) (loaded (library_of bytes)) calls)
  never_ten calls = Demand3Proof.never_ten (library_of bytes) acceptable calls
