-- What comes of a branch keeps the rules: what is bound is an environment, what changes is a belief table, what is posted is a goal.
use Prim.Native.Nat.{ℕ, ◌≤◌, ◌<◌}
use mathlib.Core.Path.{◌≡◌, refl, ap}
use Rattle.std.specs.Prelude.{Option, None, Some}
use mathlib.Core.Bool.{Bool, true, false, cond, not, ◌&&◌}
use mathlib.Core.List.{List, []}
use native.Mathlib.Omega.{arith}
use lib.Dec.{ltb, leb, eqb}
use lib.ListN.{length}
use borrow.Author.Tests.{ltb-false, leb-false, le-leb, eqb-false, not-false}
use Rattle.std.specs.List.{list_all}
use Rattle.lists.proofs.BoolLaws.{or_parts, and_both}
use Rattle.literal.specs.declared.Literal.{Literal}
use Rattle.literal.specs.declared.Env.{Env}
use Rattle.literal.specs.Literal.{is_ground, opposite}
use Rattle.literal.specs.Environment.{is_env, instantiate}
use Rattle.literal.specs.Divide.{divide}
use Rattle.literal.proofs.DivideLaws.{divide_env}
use Rattle.belief.specs.declared.Change.{Change}
use Rattle.belief.specs.Beliefs.{holds, are_beliefs, replay}
use Rattle.library.specs.declared.Branch.{Branch}
use Rattle.situation.specs.Solutions.{ask}
use Rattle.model.specs.State.{most_height}
use Rattle.model.specs.Instance.{action_kind, achieve_kind, divide_kind, is_action_kind, is_goal_kind}
use Rattle.model.specs.Changes.{change_of, effective, are_effective}
use Rattle.model.specs.Try.{Try, missed, stepped, done, posted, is_possible, try_change, try_action, try_divide, answer_to, is_barred, pursue, attempt}
use Rattle.situation.proofs.SolutionLaws.{EnvIf, ask_env_if}
use Rattle.model.proofs.ChangeLaws.{effective-kept, effective_does, effective-few}

-- a step's environment and changes
pub record Stepping (beliefs : List Literal) (env : Env) (changes : List Change) : Type 0 where
  pub env_ok : is_env env ≡ true
  pub table : are_beliefs (replay beliefs changes) ≡ true
  pub effect : are_effective beliefs changes ≡ true
  pub few : length changes ≤ 2

-- a posted goal is the branch's, ground, on a stack that is not full
pub record Posting (height : ℕ) (kind : ℕ) (literal goal : Literal) : Type 0 where
  pub is_goal_lem : is_goal_kind kind ≡ true
  pub same_literal : goal ≡ literal
  pub ground : is_ground goal ≡ true
  pub low : height < most_height

module _ (beliefs : List Literal) (height : ℕ) (env : Env) (b : Branch) where
  abbrev pub TryOk : Try → Type 0
  TryOk missed = Unit {0}
  TryOk (stepped next changes) = Stepping beliefs next changes
  TryOk (done literal) = is_action_kind b.kind ≡ true
  TryOk (posted goal) = Posting height b.kind (instantiate env b.literal) goal

  module _ (h : are_beliefs beliefs ≡ true) (ground : list_all is_ground beliefs ≡ true) (e : is_env env ≡ true) where
    still : (next : Env) → is_env next ≡ true → Stepping beliefs next []
    unfolding replay are_effective
    still next p = record { env_ok = p; table = h; effect = refl; few = omega arith }

    change_ok : (c : Change) → TryOk (try_change beliefs env c)
    unfolding try_change
    change_ok c = go (is_possible beliefs c)
      where
        go : (p : Bool) → TryOk (cond p (stepped env (effective beliefs c)) missed)
        go true = record { env_ok = e; table = effective-kept beliefs c h; effect = effective_does beliefs c h; few = effective-few beliefs c }
        go false = tt

    action_ok_lem : is_action_kind b.kind ≡ true → (l : Literal) → TryOk (try_action l)
    unfolding try_action
    action_ok_lem k l = go (is_ground l)
      where
        go : (p : Bool) → TryOk (cond p (done l) missed)
        go true = k
        go false = tt

    answer_ok : EnvIf (answer_to b.kind beliefs env b.literal)
    unfolding answer_to
    answer_ok = go (eqb b.kind achieve_kind) (is_ground (instantiate env b.literal) && holds beliefs (instantiate env b.literal))
      where
        go : (k p : Bool) → EnvIf (cond k (cond p (Some env) None) (ask beliefs b.literal env))
        go true true = e
        go true false = tt
        go false p = ask_env_if beliefs ground b.literal env e

    divide_ok : TryOk (try_divide (divide b.literal env))
    unfolding try_divide
    divide_ok = go (divide b.literal env) refl
      where
        go : (o : Option Env) → divide b.literal env ≡ o → TryOk (try_divide o)
        go None p = tt
        go (Some next) p = still next (divide_env b.literal env next p e)

    pursue_ok : is_goal_kind b.kind ≡ true
        → TryOk (pursue (answer_to b.kind beliefs env b.literal) (is_barred b.kind beliefs height (instantiate env b.literal)) (instantiate env b.literal))
    unfolding pursue is_barred
    pursue_ok k = go (answer_to b.kind beliefs env b.literal) answer_ok (is_barred b.kind beliefs height (instantiate env b.literal)) refl
      where
        go : (o : Option Env) → EnvIf o → (barred : Bool) → is_barred b.kind beliefs height (instantiate env b.literal) ≡ barred
            → TryOk (pursue o barred (instantiate env b.literal))
        go (Some next) p barred q = still next p
        go None p true q = tt
        go None p false q =
            let first = or_parts (not (is_ground (instantiate env b.literal))) _ q in
            let second = or_parts (not (eqb b.kind achieve_kind) && holds beliefs (opposite (instantiate env b.literal))) _ first.1 in
            record { is_goal_lem = k; same_literal = refl; ground = not-false _ first.0; low = leb-false most_height height second.1 }

    pub attempt_ok : TryOk (attempt beliefs height env b)
    unfolding attempt
    attempt_ok = go (ltb b.kind action_kind) (eqb b.kind action_kind) (eqb b.kind divide_kind) refl refl refl
      where
        go : (low same divides : Bool) → ltb b.kind action_kind ≡ low → eqb b.kind action_kind ≡ same → eqb b.kind divide_kind ≡ divides
            → TryOk (cond low (try_change beliefs env (change_of b.kind (instantiate env b.literal)))
            (cond same (try_action (instantiate env b.literal))
            (cond divides (try_divide (divide b.literal env))
            (pursue (answer_to b.kind beliefs env b.literal) (is_barred b.kind beliefs height (instantiate env b.literal)) (instantiate env b.literal)))))
        go true same divides p q r = change_ok (change_of b.kind (instantiate env b.literal))
        go false true divides p q r = action_ok_lem q (instantiate env b.literal)
        go false false true p q r = divide_ok
        go false false false p q r =
            pursue_ok (and_both (leb achieve_kind b.kind) _ (le-leb achieve_kind b.kind (omega (arith, ltb-false b.kind action_kind p, eqb-false b.kind action_kind q))) (ap not r))
