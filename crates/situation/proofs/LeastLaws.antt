-- What a rule keeps of the solutions is the least of them, and of equal ones the earliest, by going over the list once.
-- So what is chosen for an event is less than each earlier solution of its plan, and no later one is less; without the mark
-- it is the first.
use Prim.Native.Nat.{ℕ, suc, ◌<◌}
use native.Mathlib.Omega.{arith}
use mathlib.Core.Path.{◌≡◌, refl, ap, ◌∙◌}
use mathlib.Core.Bool.{true, false, not}
use Rattle.std.specs.Prelude.{Option, None, Some}
use mathlib.Core.List.{List, [], ◌∷◌, ◌++◌, foldl, append-nil, append_assoc}
use lib.ListN.{get_or}
use lib.Seq.{append_snoc}
use borrow.Author.Tests.{lt-ltb, ltb-true, ltb-false, eq-eqb, eqb-true, not-true}
use Rattle.std.specs.List.{list_all}
use Rattle.lists.proofs.AllLaws.{all_weaker}
use Rattle.lists.proofs.BoolLaws.{by_cases, and_parts, and_both}
use Rattle.lists.proofs.TestLaws.{all-joined}
use Rattle.literal.specs.declared.Literal.{Literal}
use Rattle.literal.specs.declared.Env.{Env}
use Rattle.library.specs.Plan.{Plan, no_plan}
use Rattle.library.specs.Bytes.{u16_at}
use Rattle.library.specs.Layout.{plan_count, entry_off, plan_of, library_of}
use Rattle.library.proofs.FieldLaws.{unmarked_field}
use Rattle.library.proofs.RowLaws.{items-all}
use Rattle.situation.specs.declared.Rule.{Rule}
use Rattle.situation.specs.Solutions.{first_of}
use Rattle.situation.specs.Search.{rank_of, is_before, consider, best_of}
use Rattle.situation.specs.Applicable.{Chosen, plan_solutions, rule_of, plan_start, or_next, applicable_from, first_chosen, choose}
use Rattle.situation.specs.Least.{Least, Kept, solutions_of, ChoosesLeast, is_unmarked, with_first, first_applicable}
use Rattle.situation.proofs.KeepLaws.{keeps_first}
use Rattle.situation.proofs.ChosenLaws.{choose-first, choose-none}

-- ---- What is kept of a list of solutions

module _ (rule : Rule) where
  abbrev rank : Env → ℕ
  rank env = rank_of rule.least env

  -- what ranks before the best ranks before whatever the best does
  before_through : (env best other : Env) → is_before rule env best ≡ true → is_before rule best other ≡ true → is_before rule env other ≡ true
  unfolding is_before
  before_through env best other p q =
      lt-ltb (rank env) (rank other) (omega (arith, ltb-true (rank env) (rank best) p, ltb-true (rank best) (rank other) q))

  -- and before whatever does not rank before the best
  before_rest : (env best other : Env) → is_before rule env best ≡ true → not (is_before rule other best) ≡ true
      → is_before rule env other ≡ true
  unfolding is_before
  before_rest env best other p q =
      let least = ltb-false (rank other) (rank best) (not-true (is_before rule other best) q) in
      lt-ltb (rank env) (rank other) (omega (arith, ltb-true (rank env) (rank best) p, least))

  -- one more solution
  module _ (seen : List Env) (env best : Env) (h : Least rule seen best) where
    replaced : is_before rule env best ≡ true → Least rule (seen ++ (env ∷ [])) env
    replaced p = record {
      earlier = seen;
      later = [];
      place = refl;
      less_than_earlier = rw h.place (all-joined (is_before rule env) h.earlier (best ∷ h.later)
          (all_weaker (is_before rule best) (is_before rule env) (λ x q. before_through env best x p q) h.earlier h.less_than_earlier)
          (and_both (is_before rule env best) _ p (all_weaker _ (is_before rule env) (λ x q. before_rest env best x p q) h.later h.no_later_less)));
      no_later_less = refl;
    }

    stays : is_before rule env best ≡ false → Least rule (seen ++ (env ∷ [])) best
    stays p = record {
      earlier = h.earlier;
      later = h.later ++ (env ∷ []);
      place = rw (h.place, append_assoc);
      less_than_earlier = h.less_than_earlier;
      no_later_less = all-joined (λ x. not (is_before rule x best)) h.later (env ∷ []) h.no_later_less (rw p);
    }

  next : (seen : List Env) (env : Env) (o : Option Env) → Kept rule seen o → Kept rule (seen ++ (env ∷ [])) (consider rule o env)
  unfolding consider
  next seen env None h = record { earlier = []; later = []; place = rw h; less_than_earlier = refl; no_later_less = refl }
  next seen env (Some best) h =
      by_cases (is_before rule env best) (λ p. rw p (replaced seen env best h p)) (λ p. rw p (stays seen env best h p))

  run : (seen envs : List Env) (o : Option Env) → Kept rule seen o → Kept rule (seen ++ envs) (foldl (consider rule) o envs)
  run seen [] o h = rw (append-nil seen) h
  run seen (env ∷ envs) o h = rw (← append_snoc seen env envs) (run (seen ++ (env ∷ [])) envs (consider rule o env) (next seen env o h))

  pub keeps_least : (envs : List Env) → Kept rule envs (best_of rule envs)
  unfolding best_of
  keeps_least envs = run [] envs None refl

-- ---- What is chosen for an event

module _ (beliefs : List Literal) (kind : ℕ) (literal : Literal) (failed : ℕ) where
  -- a plan starts with the least of its context's solutions, and with none only where there is none
  start-kept : (number : ℕ) (plan : Plan) (o : Option Env) → plan_start beliefs kind literal failed number plan ≡ o
      → Kept (rule_of plan) (plan_solutions beliefs kind literal failed number plan) o
  unfolding plan_start
  start-kept number plan o e = rw (← e) (keeps_least (rule_of plan) (plan_solutions beliefs kind literal failed number plan))

  -- the choice against every solution in the list: less than each earlier one, no later one less, none only where there is none
  pub chooses_least : (plans : List Plan) → ChoosesLeast beliefs kind literal failed plans (choose beliefs kind literal failed plans)
  chooses_least plans = go (choose beliefs kind literal failed plans) refl
    where
      unsolved : (number : ℕ) → plan_start beliefs kind literal failed number (get_or plans number no_plan) ≡ None → solutions_of beliefs kind literal failed plans number ≡ []
      unsolved number e = start-kept number (get_or plans number no_plan) None e

      go : (o : Option Chosen) → choose beliefs kind literal failed plans ≡ o → ChoosesLeast beliefs kind literal failed plans o
      go None e = λ number h. unsolved number (choose-none beliefs kind literal failed plans e number h)
      go (Some chosen) e =
          let first = choose-first beliefs kind literal failed plans chosen e in
          record {
            exists = first.exists;
            least = start-kept chosen.plan (get_or plans chosen.plan no_plan) (Some chosen.env) first.solved;
            none_before = λ number h. unsolved number (first.earlier number h);
          }

  -- ---- Without the mark

  -- a plan without the mark starts with the first of its context's solutions
  pub unmarked_first : (number : ℕ) (plan : Plan) → is_unmarked plan ≡ true
      → plan_start beliefs kind literal failed number plan ≡ first_of (plan_solutions beliefs kind literal failed number plan)
  unfolding plan_start
  unmarked_first number plan e =
      let envs = plan_solutions beliefs kind literal failed number plan in
      ap (λ (least : ℕ). best_of (record { least = least }) envs) (eqb-true plan.least 0 e) ∙ keeps_first envs

  -- a library without the mark behaves as before: the first applicable plan is made with its first solution
  pub unmarked_choice : (plans : List Plan) → list_all is_unmarked plans ≡ true
      → choose beliefs kind literal failed plans ≡ first_applicable beliefs kind literal failed 0 plans
  unfolding choose first_of applicable_from first_applicable
  unmarked_choice plans h = go 0 plans h
    where
      step : (number : ℕ) (envs : List Env) (others : List Chosen) → first_chosen (or_next number (first_of envs) others) ≡ with_first number envs (first_chosen others)
      step number [] others = refl
      step number (env ∷ envs) others = refl

      go : (number : ℕ) (xs : List Plan) → list_all is_unmarked xs ≡ true
          → first_chosen (applicable_from beliefs kind literal failed number xs) ≡ first_applicable beliefs kind literal failed number xs
      go number [] h = refl
      go number (plan ∷ xs) h =
          let parts = and_parts (is_unmarked plan) (list_all is_unmarked xs) h in
          rw (unmarked_first number plan parts.0, ← go (suc number) xs parts.1) (step number (plan_solutions beliefs kind literal failed number plan) _)

-- which is so for bytes whose triggers' kind fields are below 16
pub unmarked_library : (bytes : List ℕ) → ((plan : ℕ) → plan < plan_count bytes → u16_at bytes (entry_off bytes plan) < 16) → list_all is_unmarked (library_of bytes).plans ≡ true
unfolding library_of
unmarked_library bytes h =
    items-all is_unmarked (plan_of bytes) (plan_count bytes) 0 (λ plan low there. eq-eqb _ 0 (unmarked_field bytes (entry_off bytes plan) (h plan (omega arith))).1)
