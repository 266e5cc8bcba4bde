-- The steps of the loops that test the stages of a refusal, and each stage's ways.
use Prim.Native.Nat.{ℕ, ◌+◌, ◌*◌, ◌-◌, ◌<◌, ◌≤◌}
use mathlib.Core.Path.{◌≡◌, refl, sym, ◌∙◌}
use mathlib.Core.Bool.{Bool, true, false, not, ◌&&◌, ◌||◌}
use mathlib.Core.List.{List, [], ◌∷◌}
use native.Mathlib.Omega.{arith}
use borrow.Author.Tests.{leb-true, eq-eqb, ne_eqb}
use lib.ListN.{length, get_or}
use lib.Dec.{leb, eqb}
use Rattle.lists.proofs.BoolLaws.{and_parts}
use Rattle.std.specs.List.{range_with_len, list_all, list_any}
use Rattle.lists.specs.Search.{distinct}
use Rattle.literal.specs.declared.Literal.{Literal}
use Rattle.literal.specs.Literal.{is_ground, same, opposed}
use Rattle.library.specs.Plan.{no_literal}
use Rattle.library.specs.Layout.{plan_count, belief_count, plans_off, entry_off, entry_length, beliefs_of}
use Rattle.library.proofs.PartLaws.{length-beliefs}
use Rattle.library.proofs.RowLaws.{left_next, left_none, all_left}
use Rattle.std.proofs.lemmas.List.{get_or_default, same_lists}
use Rattle.accepted.specs.Rules.{beliefs_ok}
use Rattle.accepted.specs.Refusal.{contents_fit, packed_from, is_packed, plan_fits, plans_fit}

-- ---- 1: contents

pub contents_small : (bytes : List ℕ) → contents_fit bytes ≡ true → (plan_count bytes ≤ 32) × (belief_count bytes ≤ 64)
unfolding contents_fit
contents_small bytes fit =
    let header = and_parts (leb 4 (length bytes)) _ fit in
    let plans = and_parts (leb (plan_count bytes) 32) _ header.1 in
    let beliefs = and_parts (leb (belief_count bytes) 64) _ plans.1 in
    (leb-true _ _ plans.0, leb-true _ _ beliefs.0)

-- ---- 2: packing

module _ (bytes : List ℕ) where
  pub packed_step : (n entry at off size : ℕ) → off ≡ entry_off bytes entry → size ≡ entry_length bytes entry → entry < n → off ≡ at
      → packed_from bytes (n - (entry + 1)) (entry + 1) (at + size) ≡ packed_from bytes (n - entry) entry at
  unfolding packed_from
  packed_step n entry at off size p q h e = rw (left_next n entry h, ← p, ← q, eq-eqb off at e) refl

  pub packed_stop : (n entry at off : ℕ) → off ≡ entry_off bytes entry → entry < n → (off ≡ at → ⊥) → false ≡ packed_from bytes (n - entry) entry at
  unfolding packed_from
  packed_stop n entry at off p h e = rw (left_next n entry h, ← p, ne_eqb off at e) refl

  pub packed_done : (n entry at : ℕ) → n ≤ entry → eqb at (length bytes) ≡ packed_from bytes (n - entry) entry at
  unfolding packed_from
  packed_done n entry at h = rw (left_none n entry h) refl

  pub packed-whole : (plans beliefs : ℕ) → plans ≡ plan_count bytes → beliefs ≡ belief_count bytes → packed_from bytes (plans - 0) 0 (4 + 4 * plans + 8 * beliefs) ≡ is_packed bytes
  unfolding is_packed plans_off
  packed-whole plans beliefs p b = rw (all_left plans, p, b)

-- ---- 3: beliefs

-- no element equals a later one by either of two tests
module _ {A : Type 0} (f g : A → A → Bool) where
  abbrev either : A → A → Bool
  either x y = f x y || g x y

  any-either : (x : A) (ys : List A) → list_any (either x) ys ≡ (list_any (f x) ys || list_any (g x) ys)
  any-either x [] = refl
  any-either x (y ∷ ys) = rw (any-either x ys) (or_swap (f x y) (g x y) (list_any (f x) ys) (list_any (g x) ys))
    where
      or_swap : (a b c d : Bool) → ((a || b) || (c || d)) ≡ ((a || c) || (b || d))
      or_swap true b c d = refl
      or_swap false true true d = refl
      or_swap false true false d = refl
      or_swap false false c d = refl

  pub distinct-either : (xs : List A) → distinct (λ x y. f x y || g x y) xs ≡ (distinct f xs && distinct g xs)
  unfolding distinct
  distinct-either [] = refl
  distinct-either (x ∷ xs) =
      rw (any-either x xs, distinct-either xs) (and_swap (list_any (f x) xs) (list_any (g x) xs) (distinct f xs) (distinct g xs))
    where
      and_swap : (a b c d : Bool) → (not (a || b) && (c && d)) ≡ ((not a && c) && (not b && d))
      and_swap true b c d = refl
      and_swap false true true d = refl
      and_swap false true false d = refl
      and_swap false false c d = refl

-- the same literal, or its opposite
abbrev pub alike : Literal → Literal → Bool
alike l m = same l m || opposed l m

module _ (bytes : List ℕ) where
  -- as many items as there are beliefs, each the belief of its number
  pub beliefs_made : (items : List Literal) → length items ≡ belief_count bytes
      → ((i : ℕ) → i < length items → get_or items i no_literal ≡ get_or (beliefs_of bytes) i no_literal) → items ≡ beliefs_of bytes
  beliefs_made items size each =
      let held : length items ≡ length (beliefs_of bytes) = size ∙ sym (length-beliefs bytes) in
      same_lists items (beliefs_of bytes) held (λ i d h.
      get_or_default items i d no_literal h ∙ each i h ∙ get_or_default (beliefs_of bytes) i no_literal d (omega arith))

  pub no_beliefs : belief_count bytes ≡ 0 → true ≡ beliefs_ok (beliefs_of bytes)
  unfolding beliefs_ok distinct
  no_beliefs none = rw (empty_by_length (beliefs_of bytes) (length-beliefs bytes ∙ none)) refl
    where
      empty_by_length : (xs : List Literal) → length xs ≡ 0 → xs ≡ []
      empty_by_length [] h = refl
      empty_by_length (x ∷ xs) h = absurd (omega arith)

module _ (beliefs : List Literal) where
  pub ground_fails : list_all is_ground beliefs ≡ false → false ≡ beliefs_ok beliefs
  unfolding beliefs_ok
  ground_fails h = rw h

  pub apart_decides : list_all is_ground beliefs ≡ true → distinct alike beliefs ≡ beliefs_ok beliefs
  unfolding beliefs_ok
  apart_decides h = distinct-either same opposed beliefs ∙ rw h

-- ---- 4: plans

module _ (bytes : List ℕ) where
  pub plans_whole : (plans : ℕ) → plans ≡ plan_count bytes → list_all (plan_fits bytes) (range_with_len 0 plans) ≡ plans_fit bytes
  unfolding plans_fit
  plans_whole plans p = rw p
