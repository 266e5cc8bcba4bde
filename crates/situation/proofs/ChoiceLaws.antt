-- Laws of the choice of a plan: what each test on the way to a plan's solutions decides, and the steps of the pass over the plans.
use Prim.Native.Nat.{ℕ, suc, ◌+◌, ◌-◌, ◌<◌, ◌≤◌}
use native.Mathlib.Nat.{sub-eq-zero_of_le}
use native.Mathlib.Numerals.{add-one}
use native.Mathlib.Omega.{arith}
use mathlib.Core.Path.{◌≡◌, ap, sym, ◌∙◌}
use mathlib.Core.Bool.{true, false}
use Rattle.std.specs.Prelude.{Option, None, Some}
use mathlib.Core.List.{List, []}
use borrow.Author.Tests.{eq-eqb, ne_eqb}
use Rattle.literal.specs.declared.Literal.{Literal}
use Rattle.literal.specs.declared.Env.{Env}
use Rattle.library.specs.Plan.{Plan}
use Rattle.library.specs.Bytes.{items}
use Rattle.situation.specs.FailedSet.{has}
use Rattle.situation.specs.Solutions.{solutions}
use Rattle.situation.specs.Search.{best_of}
use Rattle.situation.specs.Applicable.{triggered, plan_solutions, rule_of, plan_start, applicable_from, first_chosen}

-- ---- The solutions of a plan's context

module _ (beliefs : List Literal) (kind : ℕ) (literal : Literal) (failed number : ℕ) (plan : Plan) where
  pub plan-failed : has failed number ≡ true → plan_solutions beliefs kind literal failed number plan ≡ []
  unfolding plan_solutions
  plan-failed e = rw e

  module _ (e : has failed number ≡ false) where
    pub plan_other_kind : (plan.kind ≡ kind → ⊥) → plan_solutions beliefs kind literal failed number plan ≡ []
    unfolding plan_solutions
    plan_other_kind h = rw (e, ne_eqb _ _ h)

    module _ (p : plan.kind ≡ kind) where
      pub plan-not-triggered : triggered plan.trigger literal ≡ None → plan_solutions beliefs kind literal failed number plan ≡ []
      unfolding plan_solutions
      plan-not-triggered q = rw (e, eq-eqb _ _ p, q)

      pub plan-triggered : (env : Env) → triggered plan.trigger literal ≡ Some env
          → plan_solutions beliefs kind literal failed number plan ≡ solutions beliefs plan.context env
      unfolding plan_solutions
      plan-triggered env q = rw (e, eq-eqb _ _ p, q)

      -- what the search of the context keeps is what the plan starts with
      pub plan_starts : (env : Env) (found : Option Env) → triggered plan.trigger literal ≡ Some env
          → found ≡ best_of (rule_of plan) (solutions beliefs plan.context env) → found ≡ plan_start beliefs kind literal failed number plan
      unfolding plan_start
      plan_starts env found q r = r ∙ sym (ap (best_of (rule_of plan)) (plan-triggered env q))

  -- a plan without solutions does not start
  pub no_start : plan_solutions beliefs kind literal failed number plan ≡ [] → None ≡ plan_start beliefs kind literal failed number plan
  unfolding plan_start best_of
  no_start e = rw e

-- ---- The first applicable plan

-- the plans from p on, of n that `read` gives
module _ (beliefs : List Literal) (kind : ℕ) (literal : Literal) (failed : ℕ) (read : ℕ → Plan) (p n : ℕ) where
  one_more : p < n → n - p ≡ suc (n - (p + 1))
  one_more h = let e : n - p ≡ n - (p + 1) + 1 = omega arith in e ∙ add-one (n - (p + 1))

  module _ (h : p < n) where
    -- the plan p applies
    pub choose_hit : (env : Env) → Some env ≡ plan_start beliefs kind literal failed p (read p)
        → Some (record { plan = p; env = env }) ≡ first_chosen (applicable_from beliefs kind literal failed p (items read 1 (n - p) p))
    unfolding applicable_from items
    choose_hit env e = rw (one_more h, ← e)

    -- it does not
    pub choose-miss : None ≡ plan_start beliefs kind literal failed p (read p)
        → first_chosen (applicable_from beliefs kind literal failed (p + 1) (items read 1 (n - (p + 1)) (p + 1)))
        ≡ first_chosen (applicable_from beliefs kind literal failed p (items read 1 (n - p) p))
    unfolding applicable_from items
    choose-miss e = rw (one_more h, ← e, add-one p)

  -- none is left
  pub choose-end : n ≤ p → None ≡ first_chosen (applicable_from beliefs kind literal failed p (items read 1 (n - p) p))
  unfolding applicable_from items
  choose-end h = rw (sub-eq-zero_of_le h)
