-- Laws of matching: it makes the literal equal to the ground one, keeps what was bound, and binds only the literal's variables.
use Prim.Native.Nat.{ℕ}
use mathlib.Core.Path.{◌≡◌, refl, ap, sym, subst, ◌∙◌}
use mathlib.Core.Bool.{Bool, true, false, cond, ◌&&◌}
use Rattle.std.specs.Prelude.{Option, None, Some}
use lib.Dec.{eqb}
use borrow.Author.Tests.{eqb-true}
use Rattle.lists.proofs.BoolLaws.{by_cases}
use Rattle.lists.proofs.OptionLaws.{some_equal, none-some}
use Rattle.literal.specs.declared.Literal.{Literal}
use Rattle.literal.specs.declared.Env.{Env}
use Rattle.literal.specs.Literal.{is_constant, is_ground, same}
use Rattle.literal.specs.Environment.{value, instantiate, bind, is_env}
use Rattle.literal.specs.Match.{match_term, and_then, match_literal}
use Rattle.literal.proofs.EnvLaws.{replace_same, replace_other, constant_variable, value-bind, GroundTerms, ground_terms, ground_itself, env_value, bind_env}

-- ---- One term

-- a match of a term against a constant: what it stood for was that constant, or a variable that is now bound to it
pub data TermMatch (env : Env) (term constant : ℕ) : Env → Type 0 where
  agrees : is_constant (value env term) ≡ true → value env term ≡ constant → TermMatch env term constant env
  binds : is_constant (value env term) ≡ false → TermMatch env term constant (bind (value env term) constant env)

pub term_match : (env : Env) (term constant : ℕ) (next : Env) → match_term term constant env ≡ Some next → TermMatch env term constant next
unfolding match_term
term_match env term constant next e = by_cases (is_constant (value env term))
    (λ k. by_cases (eqb (value env term) constant)
    (λ q. subst (TermMatch env term constant) (some_equal (rw (k, q) at e)) (agrees k (eqb-true _ _ q)))
    (λ q. none-some (rw (k, q) at e)))
    (λ k. subst (TermMatch env term constant) (some_equal (rw k at e)) (binds k))

module _ {env : Env} {term constant : ℕ} where
  pub term_equal : {next : Env} → TermMatch env term constant next → value next term ≡ constant
  term_equal (agrees k p) = p
  term_equal (binds k) = value-bind (value env term) constant env term k ∙ replace_same (value env term) constant

  -- what was bound stays bound to the same constant
  pub term_keeps : {next : Env} → TermMatch env term constant next → (t : ℕ) → is_constant (value env t) ≡ true → value next t ≡ value env t
  term_keeps (agrees k p) t h = refl
  term_keeps (binds k) t h =
      value-bind (value env term) constant env t k ∙ replace_other (value env term) constant (value env t) (constant_variable h k)

  -- only what stands for the same as the term is bound
  pub term_only : {next : Env} → TermMatch env term constant next → (t : ℕ) → (value env t ≡ value env term → ⊥) → value next t ≡ value env t
  term_only (agrees k p) t h = refl
  term_only (binds k) t h = value-bind (value env term) constant env t k ∙ replace_other (value env term) constant (value env t) h

  pub term_env : {next : Env} → TermMatch env term constant next → is_constant constant ≡ true → is_env env ≡ true → is_env next ≡ true
  term_env (agrees k p) c e = e
  term_env (binds k) c e = bind_env (value env term) constant env c e

-- ---- Variables that stand for different things

-- two terms stand for different things
abbrev pub Apart : Env → ℕ → ℕ → Type 0
Apart env t u = value env t ≡ value env u → ⊥

-- an unbound variable that a match leaves alone stays apart from what it was apart from
apart_kept : {env : Env} {term constant : ℕ} {next : Env} → TermMatch env term constant next → is_constant constant ≡ true → (t u : ℕ)
    → is_constant (value env t) ≡ false → Apart env t term → Apart env t u → Apart next t u
apart_kept (agrees k p) c t u v x y e = y e
apart_kept {env} {term = term} {constant = constant} (binds k) c t u v x y e =
    let left = value-bind (value env term) constant env t k ∙ replace_other (value env term) constant (value env t) x in
    let right = value-bind (value env term) constant env u k in
    by_cases (eqb (value env u) (value env term))
    (λ q. constant_variable {term = constant} {variable = value env t} c v (sym (sym left ∙ e ∙ right ∙ rw q)))
    (λ q. y (sym left ∙ e ∙ right ∙ rw q))

-- ---- A literal

-- a match of a literal: the heads agree, and its terms match one after the other
pub record LiteralMatch (l ground : Literal) (env next : Env) : Type 0 where
  pub one : Env
  pub two : Env
  pub head : l.head ≡ ground.head
  pub first : TermMatch env l.first ground.first one
  pub second : TermMatch one l.second ground.second two
  pub third : TermMatch two l.third ground.third next

then_some : (o : Option Env) (f : Env → Option Env) (next : Env) → and_then o f ≡ Some next → (env : Env) × (o ≡ Some env) × (f env ≡ Some next)
then_some None f next e = none-some e
then_some (Some env) f next e = (env, refl, e)

pub literal_match : (l ground : Literal) (env next : Env) → match_literal l ground env ≡ Some next → LiteralMatch l ground env next
unfolding match_literal
literal_match l ground env next e = by_cases (eqb l.head ground.head)
    (λ h.
    let (one, p, e₁) = then_some (match_term l.first ground.first env) _ next (rw h at e) in
    let (two, q, r) = then_some (match_term l.second ground.second one) _ next e₁ in
    record {
      one = one;
      two = two;
      head = eqb-true _ _ h;
      first = term_match env l.first ground.first one p;
      second = term_match one l.second ground.second two q;
      third = term_match two l.third ground.third next r;
    })
    (λ h. none-some (rw h at e))

module _ (l ground : Literal) (env next : Env) (e : match_literal l ground env ≡ Some next) where
  m : LiteralMatch l ground env next
  m = literal_match l ground env next e

  -- what was bound stays bound to the same constant
  pub match_keeps : (t : ℕ) → is_constant (value env t) ≡ true → value next t ≡ value env t
  match_keeps t h =
      let a = term_keeps m.first t h in
      let b = term_keeps m.second t (ap is_constant a ∙ h) in
      term_keeps m.third t (ap is_constant (b ∙ a) ∙ h) ∙ b ∙ a

  module _ (g : is_ground ground ≡ true) where
    terms : GroundTerms ground
    terms = ground_terms ground g

    -- the literal under the new environment is the ground literal
    pub match_equal : instantiate next l ≡ ground
    unfolding instantiate
    match_equal =
        let a = term_equal m.first in
        let b = term_equal m.second in
        let a' = term_keeps m.second l.first (ap is_constant a ∙ terms.first) ∙ a in
        let first = term_keeps m.third l.first (ap is_constant a' ∙ terms.first) ∙ a' in
        let second = term_keeps m.third l.second (ap is_constant b ∙ terms.second) ∙ b in
        let third = term_equal m.third in
        let head = m.head in
        λ i. record { head = head i; first = first i; second = second i; third = third i }

    -- the rule for environments is kept
    pub match_env : is_env env ≡ true → is_env next ≡ true
    match_env h = term_env m.third terms.third (term_env m.second terms.second (term_env m.first terms.first h))

    -- an unbound variable that stands apart from the literal's terms stays unbound
    pub match_only : (t : ℕ) → is_constant (value env t) ≡ false → Apart env t l.first → Apart env t l.second → Apart env t l.third
        → value next t ≡ value env t
    match_only t v x y z =
        let a = term_only m.first t x in
        let y₁ = apart_kept m.first terms.first t l.second v x y in
        let z₁ = apart_kept m.first terms.first t l.third v x z in
        let v₁ = ap is_constant a ∙ v in
        let b = term_only m.second t y₁ in
        let z₂ = apart_kept m.second terms.second t l.third v₁ y₁ z₁ in
        term_only m.third t z₂ ∙ b ∙ a

    -- so, from an environment, only variables of the literal are bound
    pub match_binds_own : is_env env ≡ true → (t : ℕ) → (t ≡ l.first → ⊥) → (t ≡ l.second → ⊥) → (t ≡ l.third → ⊥) → value next t ≡ value env t
    match_binds_own h t x y z = by_cases (is_constant (value env t)) (match_keeps t)
        (λ v. match_only t v (apart v l.first x) (apart v l.second y) (apart v l.third z))
      where
        apart : is_constant (value env t) ≡ false → (u : ℕ) → (t ≡ u → ⊥) → Apart env t u
        apart v u d e = d (sym (env_value env t h v) ∙ e ∙ env_value env u h (ap is_constant (sym e) ∙ v))

-- ---- A literal that is ground under the environment

module _ (env : Env) where
  when : Bool → Option Env
  when b = cond b (Some env) None

  bound_term : (term constant : ℕ) → is_constant (value env term) ≡ true → match_term term constant env ≡ when (eqb (value env term) constant)
  unfolding match_term when
  bound_term term constant k = rw k

  -- what follows a term that binds nothing
  followed : (b c : Bool) (next : Env → Option Env) → next env ≡ when c → and_then (when b) next ≡ when (b && c)
  unfolding when
  followed true c next e = e
  followed false c next e = refl

  -- such a literal matches only its own instance, and binds nothing
  pub ground_match : (l ground : Literal) → is_ground (instantiate env l) ≡ true → match_literal l ground env ≡ cond (same (instantiate env l) ground) (Some env) None
  unfolding match_literal instantiate same when
  ground_match l ground h =
      let g = ground_terms (instantiate env l) h in
      let third = bound_term l.third ground.third g.third in
      let second =
      ap (λ (o : Option Env). and_then o (λ two. match_term l.third ground.third two)) (bound_term l.second ground.second g.second)
      ∙ followed (eqb (value env l.second) ground.second) _ (λ two. match_term l.third ground.third two) third in
      let first =
      ap (λ (o : Option Env). and_then o (λ one. and_then (match_term l.second ground.second one) (λ two. match_term l.third ground.third two)))
      (bound_term l.first ground.first g.first)
      ∙ followed (eqb (value env l.first) ground.first) _ (λ one. and_then (match_term l.second ground.second one) (λ two. match_term l.third ground.third two)) second in
      heads (eqb l.head ground.head) _ _ first
    where
      heads : (b c : Bool) (o : Option Env) → o ≡ cond c (Some env) None → cond b o None ≡ cond (b && c) (Some env) None
      heads true c o e = e
      heads false c o e = refl

-- a ground literal matches only itself
pub ground_only : (env : Env) (l ground : Literal) → is_ground l ≡ true → match_literal l ground env ≡ cond (same l ground) (Some env) None
ground_only env l ground h =
    let e = ground_itself env l h in
    ground_match env l ground (ap is_ground e ∙ h) ∙ ap (λ (x : Literal). cond (same x ground) (Some env) None) e

-- after a match, matching the literal again is equality with what it matched
pub match_again : (l ground : Literal) (env next : Env) → match_literal l ground env ≡ Some next → is_ground ground ≡ true
    → (other : Literal) → match_literal l other next ≡ cond (same ground other) (Some next) None
match_again l ground env next e g other =
    let p = match_equal l ground env next e g in
    ground_match next l other (ap is_ground p ∙ g) ∙ ap (λ (x : Literal). cond (same x other) (Some next) None) p
