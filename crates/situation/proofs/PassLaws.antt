-- The steps of the search's passes: over the literals of an alternative, over the beliefs, and over the alternatives of a situation.
use Prim.Native.Nat.{ℕ, zero, suc, ◌+◌, ◌-◌, ◌*◌, ◌<◌, ◌≤◌}
use native.Mathlib.Numerals.{add-one, sub-one}
use native.Mathlib.Omega.{arith}
use mathlib.Core.Path.{◌≡◌, refl}
use Rattle.std.specs.Prelude.{Option, None, Some}
use mathlib.Core.List.{List, [], ◌∷◌, foldl, foldl-append}
use lib.ListN.{length, drop, get_or, drop_of_length-le}
use lib.Seq.{drop-cons}
use Rattle.literal.specs.declared.Literal.{Literal}
use Rattle.literal.specs.declared.Env.{Env}
use Rattle.literal.specs.Match.{match_literal}
use Rattle.library.specs.Bytes.{u16_at, literal_at, items, rows}
use Rattle.library.specs.Layout.{situation_at}
use Rattle.library.proofs.PastEnd.{u16_past}
use Rattle.situation.specs.Solutions.{on_match, over_beliefs, solve, solutions}

-- ---- The literals of an alternative: none, and one more

items_more : (bytes : List ℕ) (at n : ℕ) → (n ≡ 0 → ⊥) → items (literal_at bytes) 8 n at ≡ literal_at bytes at ∷ items (literal_at bytes) 8 (n - 1) (at + 8)
unfolding items
items_more bytes at zero h = absurd (h refl)
items_more bytes at (suc n) h = rw (sub-one (suc n))

module _ (beliefs : List Literal) (bytes : List ℕ) (at n : ℕ) (env : Env) where
  pub solve-none : n ≡ 0 → solve beliefs (items (literal_at bytes) 8 n at) env ≡ env ∷ []
  unfolding solve items
  solve-none e = rw e

  pub solve_more : (n ≡ 0 → ⊥) → solve beliefs (items (literal_at bytes) 8 n at) env ≡ over_beliefs (literal_at bytes at) env (solve beliefs (items (literal_at bytes) 8 (n - 1) (at + 8))) beliefs
  unfolding solve
  solve_more h = rw (items_more bytes at n h)

-- ---- The beliefs: what each gives is folded in; the belief at i is looked at next

module _ {B : Type 0} (f : B → Env → B) (l : Literal) (env : Env) (next : Env → List Env) (xs : List Literal) where
  module _ (d : Literal) (i : ℕ) (best : B) (h : i < length xs) where
    turn : (o : Option Env) → o ≡ match_literal l (get_or xs i d) env
        → foldl f (foldl f best (on_match o next)) (over_beliefs l env next (drop (i + 1) xs)) ≡ foldl f best (over_beliefs l env next (drop i xs))
    unfolding over_beliefs
    turn o e = rw (e, drop-cons xs i d h, foldl-append, add-one i)

    -- it matches
    pub turn_hit : (found : Env) (after : B) → Some found ≡ match_literal l (get_or xs i d) env → after ≡ foldl f best (next found)
        → foldl f after (over_beliefs l env next (drop (i + 1) xs)) ≡ foldl f best (over_beliefs l env next (drop i xs))
    turn_hit found after e y = rw y (turn (Some found) e)

    -- it does not
    pub turn-miss : None ≡ match_literal l (get_or xs i d) env
        → foldl f best (over_beliefs l env next (drop (i + 1) xs)) ≡ foldl f best (over_beliefs l env next (drop i xs))
    turn-miss e = turn None e

  -- none is left
  pub turn_end : (i : ℕ) (best : B) → length xs ≤ i → foldl f best (over_beliefs l env next (drop i xs)) ≡ best
  unfolding over_beliefs
  turn_end i best h = rw (drop_of_length-le xs h)

-- ---- The alternatives: one more, and none

module _ {B : Type 0} (f : B → Env → B) (best : B) (beliefs : List Literal) (env : Env) (bytes : List ℕ) (at : ℕ) where
  pub alternative_more : (n : ℕ) → 0 < n
      → foldl f (foldl f best (solve beliefs (items (literal_at bytes) 8 (u16_at bytes at) (at + 2)) env)) (solutions beliefs (rows (literal_at bytes) bytes 8 (n - 1) (at + 2 + 8 * u16_at bytes at)) env)
      ≡ foldl f best (solutions beliefs (rows (literal_at bytes) bytes 8 n at) env)
  unfolding solutions rows
  alternative_more zero h = absurd (omega arith)
  alternative_more (suc n) h = rw (sub-one (suc n), foldl-append)

  pub alternative_none : (n : ℕ) → n ≤ 0 → foldl f best (solutions beliefs (rows (literal_at bytes) bytes 8 n at) env) ≡ best
  unfolding solutions rows
  alternative_none zero h = refl
  alternative_none (suc n) h = absurd (omega arith)

-- past the end stands a situation with no alternatives
pub alternative_past : {B : Type 0} (f : B → Env → B) (best : B) (beliefs : List Literal) (env : Env) (bytes : List ℕ) (at : ℕ) → length bytes ≤ at
    → foldl f best (solutions beliefs (situation_at bytes at) env) ≡ best
unfolding situation_at
alternative_past f best beliefs env bytes at h = alternative_none f best beliefs env bytes (at + 2) (u16_at bytes at) (omega (arith, u16_past bytes at h))
