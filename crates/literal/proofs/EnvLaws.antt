-- Laws of environments: what binding changes, what it keeps, and the rule for environments.
use Prim.Native.Nat.{ℕ, zero, suc, ◌+◌, ◌-◌, ◌<◌, ◌≤◌}
use native.Mathlib.Omega.{arith}
use mathlib.Core.Path.{◌≡◌, refl, ap, sym, ◌∙◌}
use mathlib.Core.Bool.{Bool, true, false, cond, ◌||◌}
use mathlib.Core.List.{List, [], ◌∷◌, map}
use lib.ListN.{length, get_or, length-map, get_or-map, get_or-eq_default}
use lib.Dec.{eqb, ltb}
use borrow.Author.Tests.{ltb-true, ltb-false, eq-eqb, ne_eqb, eqb-true}
use Rattle.lists.proofs.BoolLaws.{by_cases, both_ways, and_parts, and_both}
use Rattle.literal.specs.declared.Literal.{Literal}
use Rattle.literal.specs.declared.Env.{Env}
use Rattle.literal.specs.Literal.{first_variable, is_constant, is_ground}
use Rattle.literal.specs.Environment.{empty_env, value, instantiate, replace, bind, are_entries, is_env}

pub replace_same : (variable constant : ℕ) → replace variable constant variable ≡ constant
replace_same variable constant = rw (eq-eqb variable variable refl)

pub replace_other : (variable constant term : ℕ) → (term ≡ variable → ⊥) → replace variable constant term ≡ term
replace_other variable constant term h = rw (ne_eqb term variable h)

-- a constant is no variable
pub constant_variable : {term variable : ℕ} → is_constant term ≡ true → is_constant variable ≡ false → term ≡ variable → ⊥
constant_variable {term} {variable} p q e = omega (arith, ltb-true term first_variable p, ltb-false variable first_variable q)

pub constant_value : (env : Env) (term : ℕ) → is_constant term ≡ true → value env term ≡ term
unfolding value
constant_value env term h = rw h

-- ---- Binding

-- after a variable is bound, whatever stood for it stands for the constant, and nothing else changes
pub value-bind : (variable constant : ℕ) (env : Env) (term : ℕ) → is_constant variable ≡ false
    → value (bind variable constant env) term ≡ replace variable constant (value env term)
unfolding value bind
value-bind variable constant env term h = by_cases (is_constant term)
    (λ k. rw k (sym (replace_other variable constant term (constant_variable k h))))
    (λ k. rw k (ap (get_or (map (replace variable constant) env.terms) (term - first_variable)) (sym zero_kept)
    ∙ get_or-map (replace variable constant) env.terms (term - first_variable) 0))
  where
    zero_kept : replace variable constant 0 ≡ 0
    zero_kept = replace_other variable constant 0 (λ e. omega (arith, ltb-false variable first_variable h))

-- ---- Ground literals

pub record GroundTerms (l : Literal) : Type 0 where
  pub first : is_constant l.first ≡ true
  pub second : is_constant l.second ≡ true
  pub third : is_constant l.third ≡ true

pub ground_terms : (l : Literal) → is_ground l ≡ true → GroundTerms l
unfolding is_ground
ground_terms l h =
    let a = and_parts (is_constant l.first) _ h in
    let b = and_parts (is_constant l.second) _ a.1 in
    record { first = a.0; second = b.0; third = b.1 }

-- instantiating a ground literal changes nothing
pub ground_itself : (env : Env) (l : Literal) → is_ground l ≡ true → instantiate env l ≡ l
unfolding instantiate
ground_itself env l h =
    let g = ground_terms l h in
    let first = constant_value env l.first g.first in
    let second = constant_value env l.second g.second in
    let third = constant_value env l.third g.third in
    λ i. record { head = l.head; first = first i; second = second i; third = third i }

-- ---- The rule for environments

pub empty_env_lem : is_env empty_env ≡ true
unfolding is_env are_entries
empty_env_lem = refl

entries_at : (variable : ℕ) (terms : List ℕ) (i : ℕ) → are_entries variable terms ≡ true → i < length terms
    → is_constant (get_or terms i 0) ≡ false → get_or terms i 0 ≡ variable + i
unfolding are_entries
entries_at variable [] i e h k = absurd (omega arith)
entries_at variable (term ∷ terms) zero e h k =
    let own = (and_parts (is_constant term || eqb term variable) _ e).0 in
    let f : (b : Bool) → b ≡ false → (b || eqb term variable) ≡ true → eqb term variable ≡ true = λ b p q. rw p at q in
    omega (arith, eqb-true term variable (f (is_constant term) k own))
entries_at variable (term ∷ terms) (suc i) e h k =
    omega (arith, entries_at (suc variable) terms i (and_parts (is_constant term || eqb term variable) _ e).1 (omega arith) k)

-- a term stands for a constant or for itself
pub env_value : (env : Env) (term : ℕ) → is_env env ≡ true → is_constant (value env term) ≡ false → value env term ≡ term
unfolding is_env value
env_value env term e = by_cases (is_constant term) (λ k. rw k (λ h. refl)) (λ k. rw k (λ h. entry k h (ltb place 8) refl))
  where
    place : ℕ
    place = term - first_variable

    rules : (length env.terms ≡ 8) × (are_entries first_variable env.terms ≡ true)
    rules = let parts = and_parts (eqb (length env.terms) 8) _ e in (eqb-true _ 8 parts.0, parts.1)

    entry : is_constant term ≡ false → is_constant (get_or env.terms place 0) ≡ false → (inside : Bool) → ltb place 8 ≡ inside → get_or env.terms place 0 ≡ term
    entry k h true b =
        let below : place < length env.terms = omega (arith, ltb-true place 8 b, rules.0) in
        omega (arith, ltb-false term first_variable k, entries_at first_variable env.terms place rules.1 below h)
    entry k h false b =
        let past : length env.terms ≤ place = omega (arith, ltb-false place 8 b, rules.0) in
        both_ways (ap is_constant (get_or-eq_default env.terms 0 past)) h

-- binding to a constant keeps the rule
pub bind_env : (variable constant : ℕ) (env : Env) → is_constant constant ≡ true → is_env env ≡ true → is_env (bind variable constant env) ≡ true
unfolding is_env bind are_entries
bind_env variable constant env k e =
    let parts = and_parts (eqb (length env.terms) 8) _ e in
    let sized = ap (λ (n : ℕ). eqb n 8) (length-map env.terms (replace variable constant)) ∙ parts.0 in
    and_both _ _ sized (entries first_variable env.terms parts.1)
  where
    entry : (own term : ℕ) (b : Bool) → eqb term variable ≡ b → (is_constant term || eqb term own) ≡ true
        → (is_constant (cond b constant term) || eqb (cond b constant term) own) ≡ true
    entry own term true p q = rw k
    entry own term false p q = q

    entries : (own : ℕ) (terms : List ℕ) → are_entries own terms ≡ true → are_entries own (map (replace variable constant) terms) ≡ true
    entries own [] h = refl
    entries own (term ∷ terms) h =
        let parts = and_parts (is_constant term || eqb term own) _ h in
        and_both _ _ (entry own term (eqb term variable) refl parts.0) (entries (suc own) terms parts.1)
