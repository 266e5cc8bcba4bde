-- What is chosen: the first plan in library order that has a solution, with the one that its rule keeps; none only where no plan has one.
use Prim.Native.Nat.{ℕ, zero, suc, ◌+◌, ◌<◌}
use native.Mathlib.Nat.{zero-add, add-zero}
use native.Mathlib.Omega.{arith}
use mathlib.Core.Path.{◌≡◌, refl, ap, sym, ◌∙◌}
use mathlib.Core.Bool.{true, false}
use Rattle.std.specs.Prelude.{Option, None, Some}
use mathlib.Core.List.{List, [], ◌∷◌}
use lib.ListN.{length, get_or}
use lib.Dec.{eqb}
use borrow.Author.Tests.{eqb-true, eqb-false, eq-eqb}
use Rattle.std.specs.List.{list_all}
use Rattle.lists.proofs.BoolLaws.{by_cases}
use Rattle.lists.proofs.OptionLaws.{some_equal, none-some}
use Rattle.literal.specs.declared.Literal.{Literal}
use Rattle.literal.specs.declared.Env.{Env}
use Rattle.literal.specs.Literal.{is_ground}
use Rattle.literal.specs.Environment.{empty_env, is_env}
use Rattle.literal.proofs.EnvLaws.{empty_env_lem}
use Rattle.literal.proofs.MatchLaws.{match_env}
use Rattle.library.specs.Plan.{Plan, no_plan}
use Rattle.situation.specs.FailedSet.{has}
use Rattle.situation.specs.Solutions.{solutions}
use Rattle.situation.specs.Search.{best_of}
use Rattle.situation.specs.Applicable.{Chosen, triggered, plan_solutions, rule_of, plan_start, or_next, applicable_from, first_chosen, choose}
use Rattle.situation.proofs.ChoiceLaws.{no_start, plan-failed, plan_other_kind, plan-not-triggered, plan-triggered}
use Rattle.situation.proofs.SolutionLaws.{solutions_env}
use Rattle.situation.proofs.KeepLaws.{best_passes}

module _ (beliefs : List Literal) (kind : ℕ) (literal : Literal) (failed : ℕ) where
  -- ---- The first in library order

  -- what the plan would start with at a place of a list whose first plan has the number `from`
  abbrev pub start_at : ℕ → List Plan → ℕ → Option Env
  start_at from plans place = plan_start beliefs kind literal failed (from + place) (get_or plans place no_plan)

  -- the plan at a place is chosen: it has a solution, and no plan before it has any
  pub record FirstAt (from : ℕ) (plans : List Plan) (place : ℕ) (chosen : Chosen) : Type 0 where
    pub exists : place < length plans
    pub number : chosen.plan ≡ from + place
    pub solved : start_at from plans place ≡ Some chosen.env
    pub earlier : (i : ℕ) → i < place → start_at from plans i ≡ None

  module _ (from : ℕ) (plan : Plan) (plans : List Plan) where
    here : start_at from (plan ∷ plans) 0 ≡ plan_start beliefs kind literal failed from plan
    here = rw (add-zero from)

    next : (i : ℕ) → start_at from (plan ∷ plans) (suc i) ≡ start_at (suc from) plans i
    next i = let e : from + suc i ≡ suc from + i = omega arith in rw e

    -- the plan itself
    first_here : (env : Env) (chosen : Chosen) → plan_start beliefs kind literal failed from plan ≡ Some env → Some (record { plan = from; env = env }) ≡ Some chosen
        → FirstAt from (plan ∷ plans) 0 chosen
    first_here env chosen e p =
        let q = some_equal p in
        record {
          exists = omega arith;
          number = omega (arith, ap (λ (c : Chosen). c.plan) q);
          solved = here ∙ e ∙ ap (λ (c : Chosen). Some c.env) q;
          earlier = λ i h. absurd (omega arith);
        }

    -- a later one, where the plan has no solution
    first_later : (place : ℕ) (chosen : Chosen) → plan_start beliefs kind literal failed from plan ≡ None → FirstAt (suc from) plans place chosen → FirstAt from (plan ∷ plans) (suc place) chosen
    first_later place chosen e first = record {
      exists = omega (arith, first.exists);
      number = omega (arith, first.number);
      solved = next place ∙ first.solved;
      earlier = before;
    }
      where
        before : (i : ℕ) → i < suc place → start_at from (plan ∷ plans) i ≡ None
        before zero h = here ∙ e
        before (suc i) h = next i ∙ first.earlier i (omega arith)

  first_from : (from : ℕ) (plans : List Plan) (chosen : Chosen) → first_chosen (applicable_from beliefs kind literal failed from plans) ≡ Some chosen
      → (place : ℕ) × FirstAt from plans place chosen
  unfolding applicable_from
  first_from from [] chosen e = none-some e
  first_from from (plan ∷ plans) chosen e = go (plan_start beliefs kind literal failed from plan) refl (first_from (suc from) plans chosen) e
    where
      go : (start : Option Env) → plan_start beliefs kind literal failed from plan ≡ start
          → (first_chosen (applicable_from beliefs kind literal failed (suc from) plans) ≡ Some chosen → (place : ℕ) × FirstAt (suc from) plans place chosen)
          → first_chosen (or_next from start (applicable_from beliefs kind literal failed (suc from) plans)) ≡ Some chosen
          → (place : ℕ) × FirstAt from (plan ∷ plans) place chosen
      go None p others e = let (place, first) = others e in (suc place, first_later from plan plans place chosen p first)
      go (Some env) p others e = (0, first_here from plan plans env chosen p e)

  none_from : (from : ℕ) (plans : List Plan) → first_chosen (applicable_from beliefs kind literal failed from plans) ≡ None
      → (i : ℕ) → i < length plans → start_at from plans i ≡ None
  unfolding applicable_from
  none_from from [] e i h = absurd (omega arith)
  none_from from (plan ∷ plans) e i h = go (plan_start beliefs kind literal failed from plan) refl (none_from (suc from) plans) e i h
    where
      go : (start : Option Env) → plan_start beliefs kind literal failed from plan ≡ start
          → (first_chosen (applicable_from beliefs kind literal failed (suc from) plans) ≡ None → (i : ℕ) → i < length plans → start_at (suc from) plans i ≡ None)
          → first_chosen (or_next from start (applicable_from beliefs kind literal failed (suc from) plans)) ≡ None
          → (i : ℕ) → i < suc (length plans) → start_at from (plan ∷ plans) i ≡ None
      go None p others e zero h = here from plan plans ∙ p
      go None p others e (suc i) h = next from plan plans i ∙ others e i (omega arith)
      go (Some env) p others e i h = none-some (sym e)

  -- the plan that is chosen is the first in library order that has a solution, with the one that its rule keeps
  pub record First (plans : List Plan) (chosen : Chosen) : Type 0 where
    pub exists : chosen.plan < length plans
    pub solved : plan_start beliefs kind literal failed chosen.plan (get_or plans chosen.plan no_plan) ≡ Some chosen.env
    pub earlier : (i : ℕ) → i < chosen.plan → plan_start beliefs kind literal failed i (get_or plans i no_plan) ≡ None

  pub choose-first : (plans : List Plan) (chosen : Chosen) → choose beliefs kind literal failed plans ≡ Some chosen → First plans chosen
  unfolding choose
  choose-first plans chosen e =
      let (place, first) = first_from 0 plans chosen e in
      let number : chosen.plan ≡ place = omega (arith, first.number) in
      record {
        exists = omega (arith, first.exists);
        solved = rw number (rw zero-add at first.solved);
        earlier = λ i h. rw zero-add at (first.earlier i (omega arith));
      }

  -- none is chosen only where no plan has a solution
  pub choose-none : (plans : List Plan) → choose beliefs kind literal failed plans ≡ None
      → (i : ℕ) → i < length plans → plan_start beliefs kind literal failed i (get_or plans i no_plan) ≡ None
  unfolding choose
  choose-none plans e i h = rw zero-add at (none_from 0 plans e i h)

  -- ---- A plan with a solution

  module _ (number : ℕ) (plan : Plan) (env : Env) (e : plan_start beliefs kind literal failed number plan ≡ Some env) where
    none_absurd : {P : Type 0} → plan_solutions beliefs kind literal failed number plan ≡ [] → P
    none_absurd p = none-some (no_start beliefs kind literal failed number plan p ∙ e)

    -- it has not failed
    pub chosen_fresh : has failed number ≡ false
    chosen_fresh = by_cases (has failed number) (λ p. none_absurd (plan-failed beliefs kind literal failed number plan p)) (λ p. p)

    -- it is of the event's kind
    pub chosen_kind : plan.kind ≡ kind
    chosen_kind =
        by_cases (eqb plan.kind kind)
        (λ p. eqb-true plan.kind kind p)
        (λ p. none_absurd (plan_other_kind beliefs kind literal failed number plan chosen_fresh (eqb-false plan.kind kind p)))

    -- its trigger matches the event's literal, and its solutions are those of its context from there
    pub chosen_start : (start : Env) × (triggered plan.trigger literal ≡ Some start) × (best_of (rule_of plan) (solutions beliefs plan.context start) ≡ Some env)
    unfolding plan_start
    chosen_start = go (triggered plan.trigger literal) refl
      where
        go : (o : Option Env) → triggered plan.trigger literal ≡ o
            → (start : Env) × (triggered plan.trigger literal ≡ Some start) × (best_of (rule_of plan) (solutions beliefs plan.context start) ≡ Some env)
        go None p = none_absurd (plan-not-triggered beliefs kind literal failed number plan chosen_fresh chosen_kind p)
        go (Some start) p = (start, p, sym (ap (best_of (rule_of plan)) (plan-triggered beliefs kind literal failed number plan chosen_fresh chosen_kind start p)) ∙ e)

    -- the solution that it starts with is an environment
    pub chosen_env : list_all is_ground beliefs ≡ true → is_ground literal ≡ true → is_env env ≡ true
    unfolding triggered
    chosen_env beliefs_ground ground =
        let (start, p, q) = chosen_start in
        best_passes (rule_of plan) is_env (solutions beliefs plan.context start) env
        (solutions_env beliefs beliefs_ground plan.context start (match_env plan.trigger literal empty_env start p ground empty_env_lem)) q

-- ---- What a chosen plan is apt for

-- a plan of the list, not failed, of the event's kind, with an environment to start from
pub record Apt (kind failed : ℕ) (plans : List Plan) (chosen : Chosen) : Type 0 where
  pub unfailed : has failed chosen.plan ≡ false
  pub there : chosen.plan < length plans
  pub kind_agrees : eqb (get_or plans chosen.plan no_plan).kind kind ≡ true
  pub env : is_env chosen.env ≡ true

abbrev pub AptIf : ℕ → ℕ → List Plan → Option Chosen → Type 0
AptIf kind failed plans None = Unit {0}
AptIf kind failed plans (Some chosen) = Apt kind failed plans chosen

pub choose_apt : (beliefs : List Literal) → list_all is_ground beliefs ≡ true → (kind : ℕ) (literal : Literal) (failed : ℕ) (plans : List Plan)
    → is_ground literal ≡ true → AptIf kind failed plans (choose beliefs kind literal failed plans)
choose_apt beliefs ground kind literal failed plans told = go (choose beliefs kind literal failed plans) refl
  where
    go : (o : Option Chosen) → choose beliefs kind literal failed plans ≡ o → AptIf kind failed plans o
    go None e = tt
    go (Some chosen) e =
        let first = choose-first beliefs kind literal failed plans chosen e in
        let plan = get_or plans chosen.plan no_plan in
        record {
          unfailed = chosen_fresh beliefs kind literal failed chosen.plan plan chosen.env first.solved;
          there = first.exists;
          kind_agrees = eq-eqb plan.kind kind (chosen_kind beliefs kind literal failed chosen.plan plan chosen.env first.solved);
          env = chosen_env beliefs kind literal failed chosen.plan plan chosen.env first.solved ground told;
        }
