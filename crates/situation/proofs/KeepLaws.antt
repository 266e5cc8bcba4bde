-- Laws of what the search keeps: a settled best stays, and what is kept is one of the solutions.
use borrow.Author.Tests.{eqb-true}
use mathlib.Core.Path.{◌≡◌, refl, ap, sym, ◌∙◌}
use mathlib.Core.Bool.{Bool, true, false}
use Rattle.std.specs.Prelude.{Option, None, Some}
use mathlib.Core.List.{List, [], ◌∷◌, foldl}
use Rattle.std.specs.List.{list_all}
use Rattle.lists.proofs.BoolLaws.{by_cases, both_ways, and_parts}
use Rattle.lists.proofs.OptionLaws.{some_equal, none-some}
use Rattle.literal.specs.declared.Env.{Env}
use Rattle.situation.specs.Solutions.{first_of}
use Rattle.situation.specs.declared.Rule.{Rule}
use Rattle.situation.specs.Search.{rank_of, is_before, consider, is_settled, first_rule, best_of}

-- ---- The laws of `consider`

-- by the rule that keeps the first, none comes before the best
equal_rank : (rule : Rule) (env best : Env) → rule.least ≡ 0 → is_before rule env best ≡ false
unfolding is_before rank_of
equal_rank rule env best e = rw e

-- nothing after a settled best changes it
pub settled_stays : (rule : Rule) (best : Option Env) (envs : List Env) → is_settled rule best ≡ true → foldl (consider rule) best envs ≡ best
unfolding consider is_settled
settled_stays rule None envs e = both_ways e refl
settled_stays rule (Some best) [] e = refl
settled_stays rule (Some best) (env ∷ envs) e = rw (equal_rank rule env best (eqb-true rule.least 0 e)) (settled_stays rule (Some best) envs e)

-- from nothing, the first is kept by the rule for it
pub keeps_first : (envs : List Env) → best_of first_rule envs ≡ first_of envs
unfolding best_of consider is_settled first_of
keeps_first [] = refl
keeps_first (env ∷ envs) = settled_stays first_rule (Some env) envs refl

-- a test that all pass, what is kept passes
module _ (rule : Rule) (test : Env → Bool) where
  kept_passes : (best env : Env) (envs : List Env) → test best ≡ true → list_all test envs ≡ true → foldl (consider rule) (Some best) envs ≡ Some env → test env ≡ true
  unfolding consider
  kept_passes best env [] h g e = ap test (sym (some_equal e)) ∙ h
  kept_passes best env (x ∷ xs) h g e =
      let parts = and_parts (test x) (list_all test xs) g in
      by_cases (is_before rule x best)
      (λ p. kept_passes x env xs parts.0 parts.1 (rw p at e))
      (λ p. kept_passes best env xs h parts.1 (rw p at e))

  pub best_passes : (envs : List Env) (env : Env) → list_all test envs ≡ true → best_of rule envs ≡ Some env → test env ≡ true
  unfolding best_of consider
  best_passes [] env g e = none-some e
  best_passes (x ∷ xs) env g e = let parts = and_parts (test x) (list_all test xs) g in kept_passes x env xs parts.0 parts.1 e
