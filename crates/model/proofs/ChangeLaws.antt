-- What takes effect keeps the rules for beliefs, changes the table, and is no more than was asked for.
use Prim.Native.Nat.{ℕ, ◌*◌, ◌≤◌, ◌<◌}
use mathlib.Core.Path.{◌≡◌, refl, ap, sym, ◌∙◌, subst}
use mathlib.Core.Bool.{Bool, true, false, cond, not, ◌&&◌, ◌||◌}
use mathlib.Core.List.{List, [], ◌∷◌, ◌++◌, foldl}
use native.Mathlib.Omega.{arith}
use lib.Dec.{ltb}
use lib.ListN.{length, length-append}
use borrow.Author.Tests.{lt-ltb}
use Rattle.lists.proofs.BoolLaws.{by_cases, both_ways, and_parts, and_both}
use Rattle.literal.specs.declared.Literal.{Literal}
use Rattle.literal.specs.declared.Env.{Env}
use Rattle.literal.specs.Literal.{is_ground, opposite}
use Rattle.literal.proofs.LiteralLaws.{opposite_ground}
use Rattle.belief.specs.declared.Change.{Change}
use Rattle.belief.specs.Beliefs.{most_beliefs, holds, are_beliefs, plus, minus, fits, put, change, replay}
use Rattle.belief.proofs.BeliefLaws.{beliefs-distinct, minus-beliefs, minus-gone, minus_new, minus_absent, minus_short, fits_short, put_beliefs, replay_join}
use Rattle.library.specs.declared.Action.{Action}
use Rattle.model.specs.Changes.{change_of, when, takes_effect, clearing, effective, as_change, effects, alters, are_effective}
use Rattle.model.specs.Report.{told_kind, report_changes}

-- ---- Changes one after the other

pub effective_join : (beliefs : List Literal) (now later : List Change) → are_effective beliefs now ≡ true
    → are_effective (replay beliefs now) later ≡ true
    → are_effective beliefs (now ++ later) ≡ true
unfolding are_effective replay
effective_join beliefs [] later p q = q
effective_join beliefs (c ∷ now) later p q =
    let parts = and_parts (is_ground c.literal && alters beliefs c) _ p in
    and_both (is_ground c.literal && alters beliefs c) _ parts.0 (effective_join (change beliefs c) now later parts.1 q)

-- ---- One change

module _ (beliefs : List Literal) (c : Change) where
  abbrev l : Literal
  l = c.literal

  abbrev gone : Change
  gone = record { removes = true; literal = opposite l }

  -- what an add of a new literal reports makes the beliefs after it
  pub replay-put : c.removes ≡ false → holds beliefs c.literal ≡ false → replay beliefs (clearing beliefs c ++ (c ∷ [])) ≡ put beliefs c.literal
  unfolding clearing replay put
  replay-put r new =
      ap (λ (q : Bool). foldl change beliefs (when (not q && holds beliefs (opposite l)) gone ++ (c ∷ []))) r
      ∙ go (holds beliefs (opposite l)) refl ∙ ap (λ (q : Bool). cond q beliefs (plus (minus beliefs (opposite l)) l)) (sym new)
    where
      go : (b : Bool) → holds beliefs (opposite l) ≡ b → foldl change beliefs (when b gone ++ (c ∷ [])) ≡ plus (minus beliefs (opposite l)) l
      go true p = ap (λ (q : Bool). cond q (minus (minus beliefs (opposite l)) l) (plus (minus beliefs (opposite l)) l)) r
      go false p = ap (λ (q : Bool). cond q (minus beliefs l) (plus beliefs l)) r ∙ ap (λ (x : List Literal). plus x l) (sym (minus_absent beliefs (opposite l) p))

  pub effective-kept : are_beliefs beliefs ≡ true → are_beliefs (replay beliefs (effective beliefs c)) ≡ true
  unfolding effective takes_effect replay clearing
  effective-kept h = go (is_ground l) c.removes (holds beliefs l) (fits beliefs l) refl refl refl refl
    where
      go : (g r b room : Bool) → is_ground l ≡ g → c.removes ≡ r → holds beliefs l ≡ b → fits beliefs l ≡ room
          → are_beliefs (foldl change beliefs (cond (g && cond r b (not b && room)) (clearing beliefs c ++ (c ∷ [])) [])) ≡ true
      go true true true room p q x y = rw q (minus-beliefs beliefs l h)
      go true false false true p q x y = ap are_beliefs (replay-put q x) ∙ put_beliefs beliefs l h p y
      go g r b room p q x y = h

  pub effective_does : are_beliefs beliefs ≡ true → are_effective beliefs (effective beliefs c) ≡ true
  unfolding effective takes_effect are_effective clearing alters
  effective_does h = go (is_ground l) c.removes (holds beliefs l) (fits beliefs l) (holds beliefs (opposite l)) refl refl refl refl refl
    where
      -- an add by itself
      alone : (now : List Literal) → is_ground l ≡ true → c.removes ≡ false → holds now l ≡ false → holds now (opposite l) ≡ false → length now < most_beliefs
          → are_effective now (c ∷ []) ≡ true
      alone now p q x y z = rw (p, q, x, y, lt-ltb (length now) most_beliefs z)

      go : (g r b room against : Bool) → is_ground l ≡ g → c.removes ≡ r → holds beliefs l ≡ b → fits beliefs l ≡ room → holds beliefs (opposite l) ≡ against
          → are_effective beliefs (cond (g && cond r b (not b && room)) (when (not r && against) gone ++ (c ∷ [])) []) ≡ true
      go true true true room against p q x e y = rw (p, q, x)
      go true false false true true p q x e y =
          and_both (is_ground (opposite l) && holds beliefs (opposite l)) _ (and_both (is_ground (opposite l)) (holds beliefs (opposite l)) (opposite_ground l ∙ p) y)
          (alone (minus beliefs (opposite l)) p q (minus_new beliefs l (opposite l) x) (minus-gone beliefs (opposite l) (beliefs-distinct beliefs h)) (minus_short beliefs (opposite l) h y))
      go true false false true false p q x e y = alone beliefs p q x y (fits_short beliefs l x y e)
      go g r b room against p q x e y = refl

  -- a change that takes effect by itself is all that it does
  pub effective_alone : (is_ground c.literal && alters beliefs c) ≡ true → effective beliefs c ≡ (c ∷ [])
  unfolding effective takes_effect alters clearing fits
  effective_alone = go (is_ground l) c.removes (holds beliefs l) (holds beliefs (opposite l)) (ltb (length beliefs) most_beliefs)
    where
      go : (g r b against room : Bool) → (g && cond r b (not b && (not against && room))) ≡ true
          → cond (g && cond r b (not b && (b || (against || room)))) (when (not r && against) (record { removes = true; literal = opposite l }) ++ (c ∷ [])) [] ≡ (c ∷ [])
      go true true true against room e = refl
      go true false false false true e = refl
      go g r b against room e = both_ways e refl

  pub effective-few : length (effective beliefs c) ≤ 2
  unfolding effective clearing
  effective-few = go (is_ground l && takes_effect beliefs c) (not c.removes && holds beliefs (opposite l))
    where
      go : (b d : Bool) → length (cond b (when d (record { removes = true; literal = opposite l }) ++ (c ∷ [])) []) ≤ 2
      go true true = omega arith
      go b d = omega arith

-- ---- A list of actions

pub effects-kept : (beliefs : List Literal) (env : Env) (actions : List Action) → are_beliefs beliefs ≡ true
    → are_beliefs (replay beliefs (effects beliefs env actions)) ≡ true
unfolding effects replay
effects-kept beliefs env [] h = h
effects-kept beliefs env (a ∷ actions) h =
    let now = effective beliefs (as_change env a) in
    subst (λ (b : List Literal). are_beliefs b ≡ true) (sym (replay_join beliefs now (effects (replay beliefs now) env actions)))
    (effects-kept (replay beliefs now) env actions (effective-kept beliefs (as_change env a) h))

pub effects_do : (beliefs : List Literal) (env : Env) (actions : List Action) → are_beliefs beliefs ≡ true → are_effective beliefs (effects beliefs env actions) ≡ true
unfolding effects are_effective
effects_do beliefs env [] h = refl
effects_do beliefs env (a ∷ actions) h =
    let now = effective beliefs (as_change env a) in
    effective_join beliefs now (effects (replay beliefs now) env actions) (effective_does beliefs (as_change env a) h) (effects_do (replay beliefs now) env actions (effective-kept beliefs (as_change env a) h))

pub effects-few : (beliefs : List Literal) (env : Env) (actions : List Action) → length (effects beliefs env actions) ≤ 2 * length actions
unfolding effects
effects-few beliefs env [] = omega arith
effects-few beliefs env (a ∷ actions) =
    let now = effective beliefs (as_change env a) in
    omega (arith, length-append now (effects (replay beliefs now) env actions), effective-few beliefs (as_change env a), effects-few (replay beliefs now) env actions)

-- ---- A report

module _ (beliefs : List Literal) (kind : ℕ) (literal : Literal) where
  pub report-kept : are_beliefs beliefs ≡ true → are_beliefs (replay beliefs (report_changes beliefs kind literal)) ≡ true
  unfolding report_changes replay
  report-kept h = by_cases (ltb kind told_kind) (λ e. rw e (effective-kept beliefs (change_of kind literal) h)) (λ e. rw e h)

  pub report_does : are_beliefs beliefs ≡ true → are_effective beliefs (report_changes beliefs kind literal) ≡ true
  unfolding report_changes are_effective
  report_does h = by_cases (ltb kind told_kind) (λ e. rw e (effective_does beliefs (change_of kind literal) h)) (λ e. rw e)

  pub report-few : length (report_changes beliefs kind literal) ≤ 2
  unfolding report_changes
  report-few = by_cases (ltb kind told_kind) (λ e. rw e (effective-few beliefs (change_of kind literal))) (λ e. rw e (omega arith))
