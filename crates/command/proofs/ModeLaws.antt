-- What so many words ask for.
use Prim.Native.Nat.{ℕ, zero, suc, ◌-◌, ◌≤◌, ◌<◌}
use mathlib.Core.Path.{◌≡◌, refl}
use Rattle.std.specs.Prelude.{None, Some}
use mathlib.Core.List.{List, [], ◌∷◌}
use native.Mathlib.Omega.{arith}
use lib.ListN.{take}
use Rattle.command.specs.declared.Mode.TheVariants.{Journal}
use Rattle.command.specs.Mode.{words_of, one_word, three_words, mode_of}

-- ---- How many words there are, with the program's name
module _ (name first second : List ℕ) where
  pub no_words : (count : ℕ) → count ≤ 1 → Some Journal ≡ mode_of (words_of count name first second)
  unfolding words_of mode_of
  no_words count h = let none_left : count - 1 ≡ 0 = omega arith in rw none_left

  pub one_behind : (count : ℕ) → count ≡ 2 → one_word name ≡ mode_of (words_of count name first second)
  unfolding words_of mode_of
  one_behind count e = rw e

  pub three_behind : (count : ℕ) → count ≡ 4 → three_words name first second ≡ mode_of (words_of count name first second)
  unfolding words_of mode_of
  three_behind count e = rw e

  -- any other number of words
  no_such : (n : ℕ) → (n ≡ 0 → ⊥) → (n ≡ 1 → ⊥) → (n ≡ 3 → ⊥) → None ≡ mode_of (take n (name ∷ first ∷ second ∷ [] ∷ []))
  unfolding mode_of
  no_such zero some_left one three = absurd (some_left refl)
  no_such (suc zero) some_left one three = absurd (one refl)
  no_such (suc (suc zero)) some_left one three = refl
  no_such (suc (suc (suc zero))) some_left one three = absurd (three refl)
  no_such (suc (suc (suc (suc n)))) some_left one three = refl

  pub other_words : (count : ℕ) → 1 < count → (count ≡ 2 → ⊥) → (count ≡ 4 → ⊥) → None ≡ mode_of (words_of count name first second)
  unfolding words_of
  other_words count h one three = no_such (count - 1) (λ e. omega arith) (λ e. one (omega arith)) (λ e. three (omega arith))

-- by how many words there are
pub ruleset words = (no_words, one_behind, three_behind, other_words)
