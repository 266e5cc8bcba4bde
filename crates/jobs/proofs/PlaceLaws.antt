-- The plan of an instance, as the model has it, is the plan that its number names in the bytes, where there is one.
use Prim.Native.Nat.{ℕ, ◌<◌, ◌≤◌}
use native.Mathlib.Omega.{arith}
use mathlib.Core.Path.{◌≡◌, ap₂, sym, ◌∙◌}
use mathlib.Core.Bool.{Bool, true, false}
use mathlib.Core.List.{List}
use borrow.Author.Tests.{ltb-true, ltb-false}
use lib.Dec.{ltb}
use Rattle.std.specs.Bool.{then_some}
use Rattle.std.specs.Option.{option_map_or}
use Rattle.library.specs.declared.plan.PlanRef.{PlanRef}
use Rattle.library.specs.Plan.{no_plan}
use Rattle.library.specs.Layout.{plan_count, library_of, described}
use Rattle.library.specs.Layout.{plan_of as planNumbered}
use Rattle.library.proofs.PartLaws.{plan_is, plan-past}
use Rattle.model.specs.declared.Instance.{Instance}
use Rattle.model.specs.Instance.{plan_of}

module _ (bytes : List ℕ) (x : Instance) (plans : ℕ) (e : plans ≡ plan_count bytes) where
  pub plan_there : x.plan < plans → plan_of (library_of bytes) x ≡ planNumbered bytes x.plan
  unfolding plan_of
  plan_there h = plan_is bytes x.plan no_plan (omega arith)

  pub plan-none : plans ≤ x.plan → plan_of (library_of bytes) x ≡ no_plan
  unfolding plan_of
  plan-none h = plan-past bytes x.plan no_plan (omega arith)

  -- the reference to it, where its number is one of them
  pub by_test : (plan : PlanRef) → plan.library.now ≡ bytes → plan.number ≡ x.plan → (test : Bool) → ltb x.plan plans ≡ test
      → plan_of (library_of bytes) x ≡ option_map_or described (then_some test plan) no_plan
  by_test plan p q true h = plan_there (ltb-true _ _ h) ∙ sym (ap₂ planNumbered p q)
  by_test plan p q false h = plan-none (ltb-false _ _ h)
