-- The steps of the loop over an environment's entries.
use Prim.Native.Nat.{ℕ, suc, ◌+◌, ◌<◌, ◌≤◌}
use native.Mathlib.Numerals.{add-one}
use native.Mathlib.Omega.{arith}
use mathlib.Core.Path.{◌≡◌, ap, sym, ◌∙◌}
use mathlib.Core.Bool.{Bool, true, false, ◌&&◌, ◌||◌}
use mathlib.Core.List.{List, ◌∷◌}
use lib.Dec.{eqb}
use lib.ListN.{length, drop, get_or, drop_of_length-le}
use lib.Seq.{drop-cons}
use borrow.Author.Tests.{eq-eqb}
use Rattle.literal.specs.declared.Env.{Env}
use Rattle.literal.specs.Literal.{first_variable, is_constant}
use Rattle.literal.specs.Environment.{are_entries, is_env}

-- the entries from i on decide as all of them do
abbrev pub EntriesLeft : List ℕ → ℕ → Type 0
EntriesLeft terms i = are_entries (first_variable + i) (drop i terms) ≡ are_entries first_variable terms

entry_cons : (variable term : ℕ) (terms : List ℕ) (b : Bool) → (is_constant term || eqb term variable) ≡ b
    → are_entries variable (term ∷ terms) ≡ (b && are_entries (suc variable) terms)
unfolding are_entries
entry_cons variable term terms b e = rw e

module _ (terms : List ℕ) (i : ℕ) (low : i < length terms) (inv : EntriesLeft terms i) where
  from_here : (b : Bool) → (is_constant (get_or terms i 0) || eqb (get_or terms i 0) (first_variable + i)) ≡ b
      → are_entries (first_variable + i) (drop i terms) ≡ (b && are_entries (suc (first_variable + i)) (drop (suc i) terms))
  from_here b e = ap (are_entries (first_variable + i)) (drop-cons terms i 0 low) ∙ entry_cons (first_variable + i) (get_or terms i 0) (drop (suc i) terms) b e

  pub entries_next : (is_constant (get_or terms i 0) || eqb (get_or terms i 0) (first_variable + i)) ≡ true → EntriesLeft terms (i + 1)
  entries_next e =
      let next : first_variable + (i + 1) ≡ suc (first_variable + i) = omega arith in
      rw (next, add-one i) (sym (from_here true e) ∙ inv)

  pub entries_stop : (is_constant (get_or terms i 0) || eqb (get_or terms i 0) (first_variable + i)) ≡ false → are_entries first_variable terms ≡ false
  entries_stop e = sym inv ∙ from_here false e

pub entries_end : (terms : List ℕ) (i : ℕ) → length terms ≤ i → EntriesLeft terms i → are_entries first_variable terms ≡ true
unfolding are_entries
entries_end terms i h inv = sym inv ∙ ap (are_entries (first_variable + i)) (drop_of_length-le terms h)

pub env_by_entries : (env : Env) → length env.terms ≡ 8 → are_entries first_variable env.terms ≡ is_env env
unfolding is_env
env_by_entries env len = rw (eq-eqb (length env.terms) 8 len)

-- what the loop over the entries stands on
pub ruleset entry_laws = (entries_next, entries_stop, entries_end, env_by_entries)
