-- Laws of solutions: what matching keeps, every solution has; so from an environment every solution is an environment.
use mathlib.Core.Path.{◌≡◌, refl, ap, sym, ◌∙◌}
use mathlib.Core.Bool.{Bool, true, false, cond, ◌||◌}
use Rattle.std.specs.Prelude.{Option, None, Some}
use Rattle.std.specs.Option.{is_some}
use mathlib.Core.List.{List, [], ◌∷◌}
use Rattle.std.specs.List.{list_any, list_all}
use Rattle.lists.proofs.BoolLaws.{both_ways, and_parts}
use Rattle.lists.proofs.OptionLaws.{some_equal, none-some}
use Rattle.lists.proofs.TestLaws.{all-joined}
use Rattle.literal.specs.declared.Literal.{Literal}
use Rattle.literal.specs.declared.Env.{Env}
use Rattle.literal.specs.Literal.{is_ground, same}
use Rattle.literal.specs.Environment.{instantiate, is_env}
use Rattle.literal.specs.Match.{match_literal}
use Rattle.literal.proofs.MatchLaws.{match_env, ground_match}
use Rattle.belief.specs.Beliefs.{holds}
use Rattle.library.specs.Plan.{Situation}
use Rattle.situation.specs.Solutions.{on_match, over_beliefs, solve, solutions, first_of, holds_from, ask}
use Rattle.situation.proofs.AskLaws.{or_else, first_match, ask-first}

-- ---- The first solution

pub first_passes : (test : Env → Bool) (envs : List Env) (env : Env) → list_all test envs ≡ true → first_of envs ≡ Some env → test env ≡ true
unfolding first_of
first_passes test [] env h e = none-some e
first_passes test (x ∷ xs) env h e = ap test (sym (some_equal e)) ∙ (and_parts (test x) (list_all test xs) h).0

-- there is a first solution just where there are solutions
pub first-none : (envs : List Env) → first_of envs ≡ None → envs ≡ []
unfolding first_of
first-none [] e = refl
first-none (x ∷ xs) e = none-some (sym e)

-- a situation holds just where it has a first solution
pub holds-first : (beliefs : List Literal) (situation : Situation) (env found : Env) → first_of (solutions beliefs situation env) ≡ Some found → holds_from beliefs situation env ≡ true
holds-first beliefs situation env found e = ap is_some e

-- and fails to hold just where its list of solutions is empty
pub holds-none : (beliefs : List Literal) (situation : Situation) (env : Env) → holds_from beliefs situation env ≡ false → solutions beliefs situation env ≡ []
unfolding first_of
holds-none beliefs situation env e = go (solutions beliefs situation env) e
  where
    go : (envs : List Env) → is_some (first_of envs) ≡ false → envs ≡ []
    go [] e = refl
    go (x ∷ xs) e = both_ways {b = true} refl e

-- ---- A test that matching keeps, every solution passes

module _ (test : Env → Bool) (kept : (l belief : Literal) (env next : Env) → is_ground belief ≡ true → match_literal l belief env ≡ Some next → test env ≡ true → test next ≡ true)
    (beliefs : List Literal) (ground : list_all is_ground beliefs ≡ true) where
  over_passes : (l : Literal) (env : Env) (next : Env → List Env) → test env ≡ true → ((found : Env) → test found ≡ true → list_all test (next found) ≡ true)
      → (xs : List Literal) → list_all is_ground xs ≡ true → list_all test (over_beliefs l env next xs) ≡ true
  unfolding over_beliefs
  over_passes l env next h f [] g = refl
  over_passes l env next h f (x ∷ xs) g =
      let parts = and_parts (is_ground x) (list_all is_ground xs) g in
      all-joined test (on_match (match_literal l x env) next) _ (matched x parts.0 (match_literal l x env) refl) (over_passes l env next h f xs parts.1)
    where
      matched : (x : Literal) → is_ground x ≡ true → (o : Option Env) → match_literal l x env ≡ o → list_all test (on_match o next) ≡ true
      matched x p None e = refl
      matched x p (Some found) e = f found (kept l x env found p e h)

  pub solve_passes : (literals : List Literal) (env : Env) → test env ≡ true → list_all test (solve beliefs literals env) ≡ true
  unfolding solve
  solve_passes [] env h = rw h
  solve_passes (l ∷ rest) env h = over_passes l env (solve beliefs rest) h (solve_passes rest) beliefs ground

  pub solutions_pass : (situation : Situation) (env : Env) → test env ≡ true → list_all test (solutions beliefs situation env) ≡ true
  unfolding solutions
  solutions_pass [] env h = refl
  solutions_pass (alternative ∷ rest) env h = all-joined test (solve beliefs alternative env) _ (solve_passes alternative env h) (solutions_pass rest env h)

  pub ask_passes : (l : Literal) (env next : Env) → test env ≡ true → ask beliefs l env ≡ Some next → test next ≡ true
  unfolding ask
  ask_passes l env next h e = first_passes test (solve beliefs (l ∷ []) env) next (solve_passes (l ∷ []) env h) e

-- ---- The rule for environments

-- an environment, where there is one
abbrev pub EnvIf : Option Env → Type 0
EnvIf None = Unit {0}
EnvIf (Some env) = is_env env ≡ true

module _ (beliefs : List Literal) (ground : list_all is_ground beliefs ≡ true) where
  env_kept : (l belief : Literal) (env next : Env) → is_ground belief ≡ true → match_literal l belief env ≡ Some next → is_env env ≡ true → is_env next ≡ true
  env_kept l belief env next g e h = match_env l belief env next e g h

  pub solutions_env : (situation : Situation) (env : Env) → is_env env ≡ true → list_all is_env (solutions beliefs situation env) ≡ true
  solutions_env = solutions_pass is_env env_kept beliefs ground

  pub ask_env : (l : Literal) (env next : Env) → is_env env ≡ true → ask beliefs l env ≡ Some next → is_env next ≡ true
  ask_env = ask_passes is_env env_kept beliefs ground

  pub ask_env_if : (l : Literal) (env : Env) → is_env env ≡ true → EnvIf (ask beliefs l env)
  ask_env_if l env h = go (ask beliefs l env) refl
    where
      go : (o : Option Env) → ask beliefs l env ≡ o → EnvIf o
      go None e = tt
      go (Some next) e = ask_env l env next h e

-- ---- Asking with a literal that is ground under the environment

-- it asks whether its instance is held, and binds nothing
pub ask_held : (beliefs : List Literal) (l : Literal) (env : Env) → is_ground (instantiate env l) ≡ true → ask beliefs l env ≡ cond (holds beliefs (instantiate env l)) (Some env) None
unfolding holds first_match
ask_held beliefs l env h = ask-first beliefs l env ∙ go beliefs
  where
    step : (b c : Bool) → or_else (cond b (Some env) None) (cond c (Some env) None) ≡ cond (b || c) (Some env) None
    step true c = refl
    step false c = refl

    go : (xs : List Literal) → first_match l env xs ≡ cond (list_any (same (instantiate env l)) xs) (Some env) None
    go [] = refl
    go (x ∷ xs) = rw (ground_match env l x h, go xs) (step (same (instantiate env l) x) (list_any (same (instantiate env l)) xs))
