-- What each way through the code of the table answers.
use Prim.Native.Nat.{ℕ, ◌+◌, ◌-◌, ◌<◌, ◌≤◌}
use native.Mathlib.Numerals.{add-one}
use native.Mathlib.Omega.{arith}
use mathlib.Core.Path.{◌≡◌, refl, ap, sym, ◌∙◌}
use mathlib.Core.Bool.{Bool, true, false, cond, not, ◌&&◌, and-false}
use mathlib.Core.List.{List, [], ◌∷◌}
use lib.ListN.{length, drop, set, get_or, length-take, drop_of_length-le}
use lib.Seq.{drop-cons}
use lib.Dec.{ltb}
use borrow.Author.Tests.{lt-ltb, le-ltb, ltb-true, ltb-false}
use Rattle.std.specs.List.{list_any, list_all}
use Rattle.lists.specs.Search.{distinct}
use Rattle.lists.specs.Gap.{close_gap}
use Rattle.lists.specs.Row.{in_use}
use Rattle.lists.proofs.BoolLaws.{by_cases, both_ways}
use Rattle.std.specs.Prelude.{None, Some}
use Rattle.std.specs.List as std
use Rattle.lists.proofs.SearchLaws.{any-position}
use Rattle.lists.proofs.PositionLaws.{position_some, position_none}
use Rattle.literal.proofs.LiteralLaws.{same_either_way}
use Rattle.literal.specs.declared.Literal.{Literal}
use Rattle.literal.specs.Literal.{is_ground, same, opposite, opposed}
use Rattle.belief.specs.declared.Beliefs.{Beliefs}
use Rattle.belief.specs.declared.Effect.TheVariants.{Impossible, Changed}
use Rattle.belief.specs.declared.Applied.{Applied}
use Rattle.belief.specs.Beliefs.{most_beliefs, size, view, holds, are_sound}
use Rattle.belief.specs.Table.{over, unchanged, add, remove}

pub length-view : (b : Beliefs) → length b.items ≡ 64 → length (view b) ≡ size b
length-view b len = length-take (size b) b.items ∙ omega arith

-- a table has room by its count just where it has by its beliefs
module _ (b : Beliefs) (len : length b.items ≡ 64) where
  pub view-room : ltb (length (view b)) most_beliefs ≡ ltb b.count most_beliefs
  view-room = by_cases (ltb b.count most_beliefs)
      (λ p. lt-ltb (length (view b)) most_beliefs (omega (arith, length-view b len, ltb-true b.count most_beliefs p)) ∙ sym p)
      (λ p. le-ltb (length (view b)) most_beliefs (omega (arith, length-view b len, ltb-false b.count most_beliefs p)) ∙ sym p)

-- ---- A literal held, added, removed

-- compared from either side
pub any_either_way : (l : Literal) (xs : List Literal) → list_any (λ m. same m l) xs ≡ list_any (same l) xs
any_either_way l [] = refl
any_either_way l (x ∷ xs) = rw (same_either_way x l, any_either_way l xs)

module _ (b : Beliefs) (l : Literal) where
  pub remove_absent : None ≡ std.position (same l) (view b) → unchanged b ≡ remove b l
  unfolding remove holds
  remove_absent h = rw (any-position (same l) (view b), le-ltb _ _ (position_none (same l) (view b) h))

  -- the gap is closed
  pub remove_held : (place : ℕ) → Some place ≡ std.position (same l) (view b) → (items : List Literal) (count : ℕ) → length b.items ≡ 64
      → items ≡ cond (ltb place (in_use b.count b.items)) (close_gap place (in_use b.count b.items - 1) b.items) b.items
      → count ≡ cond (ltb place (in_use b.count b.items)) (in_use b.count b.items - 1) b.count
      → ◌≡◌ {A = Applied} (record { table = record { items = items; count = count }; effect = Changed }) (remove b l)
  unfolding remove holds
  remove_held place h items count len p q =
      let (e, low) = position_some (same l) (view b) place h in
      let there : place < size b = omega (arith, low, length-view b len) in
      let held : list_any (same l) (view b) ≡ true = any-position (same l) (view b) ∙ lt-ltb _ _ (rw e at low) in
      rw (p, q, len, lt-ltb place (size b) there, held, e)

  pub add_held : holds (view b) l ≡ true → unchanged b ≡ add b l
  unfolding add
  add_held h = rw h

  module _ (without : Applied) (e : without ≡ remove b (opposite l)) (new : holds (view b) l ≡ false) where
    pub add_full : 64 ≤ without.table.count → ◌≡◌ {A = Applied} (record { table = b; effect = Impossible }) (add b l)
    unfolding add
    add_full k = rw (new, ← e, le-ltb without.table.count 64 k)

    -- the literal is appended
    pub add_last : (items : List Literal) (count : ℕ) → length without.table.items ≡ 64 → without.table.count < 64
        → items ≡ cond (ltb without.table.count (length without.table.items)) (set without.table.items without.table.count l) without.table.items
        → count ≡ cond (ltb without.table.count (length without.table.items)) (without.table.count + 1) without.table.count
        → ◌≡◌ {A = Applied} (record { table = record { items = items; count = count }; effect = over without.effect }) (add b l)
    unfolding add
    add_last items count len k p q = rw (p, q, len, lt-ltb without.table.count 64 k) (rw (new, ← e, lt-ltb without.table.count 64 k))

-- ---- The rules, one literal at a time

sound_cons : (x : Literal) (xs : List Literal) (ground held against : Bool) → is_ground x ≡ ground → list_any (same x) xs ≡ held → list_any (opposed x) xs ≡ against
    → are_sound (x ∷ xs) ≡ ((ground && list_all is_ground xs) && ((not held && distinct same xs) && (not against && distinct opposed xs)))
unfolding distinct
sound_cons x xs ground held against p q r = rw (p, q, r)

-- the literal at i, and those after it
module _ (xs : List Literal) (i : ℕ) (d : Literal) (low : i < length xs) (inv : are_sound (drop i xs) ≡ are_sound xs) where
  abbrev here : Literal
  here = get_or xs i d

  abbrev later : List Literal
  later = drop (i + 1) xs

  here_decides : (ground held against : Bool) → is_ground here ≡ ground → list_any (same here) later ≡ held → list_any (opposed here) later ≡ against
      → ((ground && list_all is_ground later) && ((not held && distinct same later) && (not against && distinct opposed later))) ≡ are_sound xs
  here_decides ground held against p q r =
      let e : drop i xs ≡ here ∷ later = rw (add-one i) (drop-cons xs i d low) in
      sym (sound_cons here later ground held against p q r) ∙ ap are_sound (sym e) ∙ inv

  -- it breaks a rule
  pub sound_stop : (is_ground here && (not (list_any (same here) later) && not (list_any (opposed here) later))) ≡ false → false ≡ are_sound xs
  sound_stop e = go (is_ground here) (list_any (same here) later) (list_any (opposed here) later) e (here_decides _ _ _ refl refl refl)
    where
      go : (ground held against : Bool) → (ground && (not held && not against)) ≡ false
          → ((ground && list_all is_ground later) && ((not held && distinct same later) && (not against && distinct opposed later))) ≡ are_sound xs → false ≡ are_sound xs
      go false held against e f = f
      go true true against e f = sym (and-false (list_all is_ground later)) ∙ f
      go true false true e f = sym (ap (λ (b : Bool). list_all is_ground later && b) (and-false (distinct same later)) ∙ and-false (list_all is_ground later)) ∙ f
      go true false false e f = both_ways {b = true} refl e

  -- it breaks none
  pub sound_next : (is_ground here && (not (list_any (same here) later) && not (list_any (opposed here) later))) ≡ true → are_sound later ≡ are_sound xs
  sound_next e = go (is_ground here) (list_any (same here) later) (list_any (opposed here) later) e (here_decides _ _ _ refl refl refl)
    where
      go : (ground held against : Bool) → (ground && (not held && not against)) ≡ true
          → ((ground && list_all is_ground later) && ((not held && distinct same later) && (not against && distinct opposed later))) ≡ are_sound xs → are_sound later ≡ are_sound xs
      go true false false e f = f
      go true false true e f = both_ways {b = false} e refl
      go true true against e f = both_ways {b = false} e refl
      go false held against e f = both_ways {b = false} e refl

pub sound_end : (xs : List Literal) (i : ℕ) → length xs ≤ i → are_sound (drop i xs) ≡ are_sound xs → true ≡ are_sound xs
unfolding distinct
sound_end xs i h inv = rw (drop_of_length-le xs h) at inv
