-- What a literal asks of the beliefs is its match with the first of them that it matches; and the steps of the loop that looks for it.
use Prim.Native.Nat.{ℕ, ◌+◌, ◌<◌, ◌≤◌}
use native.Mathlib.Numerals.{add-one}
use mathlib.Core.Path.{◌≡◌, refl}
use Rattle.std.specs.Prelude.{Option, None, Some}
use mathlib.Core.List.{List, [], ◌∷◌, ◌++◌}
use lib.ListN.{length, drop, get_or, drop_of_length-le}
use lib.Seq.{drop-cons}
use Rattle.literal.specs.declared.Literal.{Literal}
use Rattle.literal.specs.declared.Env.{Env}
use Rattle.literal.specs.Match.{match_literal}
use Rattle.situation.specs.Solutions.{on_match, over_beliefs, solve, first_of, ask}

abbrev pub or_else : Option Env → Option Env → Option Env
or_else None later = later
or_else (Some env) later = Some env

-- the match with the first belief that the literal matches
unfoldable pub first_match : Literal → Env → List Literal → Option Env
first_match l env [] = None
first_match l env (belief ∷ beliefs) = or_else (match_literal l belief env) (first_match l env beliefs)

pub ask-first : (beliefs : List Literal) (l : Literal) (env : Env) → ask beliefs l env ≡ first_match l env beliefs
unfolding ask solve over_beliefs first_of first_match
ask-first beliefs l env = go beliefs
  where
    step : (o : Option Env) (xs : List Literal) → first_of (over_beliefs l env (solve beliefs []) xs) ≡ first_match l env xs
        → first_of (on_match o (solve beliefs []) ++ over_beliefs l env (solve beliefs []) xs) ≡ or_else o (first_match l env xs)
    step None xs e = e
    step (Some next) xs e = refl

    go : (xs : List Literal) → first_of (over_beliefs l env (solve beliefs []) xs) ≡ first_match l env xs
    go [] = refl
    go (x ∷ xs) = step (match_literal l x env) xs (go xs)

-- ---- The loop: the belief at i is looked at next

module _ (l : Literal) (env : Env) (xs : List Literal) where
  module _ (d : Literal) (i : ℕ) (h : i < length xs) (o : Option Env) (e : o ≡ match_literal l (get_or xs i d) env) where
    pub ask_turn : first_match l env (drop i xs) ≡ or_else o (first_match l env (drop (i + 1) xs))
    unfolding first_match
    ask_turn = rw (drop-cons xs i d h, e, add-one i)

  -- none is left
  pub ask-end : (i : ℕ) → length xs ≤ i → first_match l env (drop i xs) ≡ None
  unfolding first_match
  ask-end i h = rw (drop_of_length-le xs h)
