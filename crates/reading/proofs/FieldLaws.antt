-- Laws of the fields of a line: the first one ends at the first space, or with the line.
use Prim.Native.Nat.{ℕ, zero, suc, ◌+◌, ◌-◌, ◌*◌, ◌<◌}
use mathlib.Core.Path.{◌≡◌, refl, ap, ◌∙◌}
use mathlib.Core.Bool.{Bool, true, false, cond}
use Rattle.std.specs.Prelude.{None, Some}
use mathlib.Core.List.{List, [], ◌∷◌, ◌++◌}
use native.Mathlib.Omega.{arith}
use lib.ListN.{length, take, drop, get_or}
use borrow.Author.Tests.{eq-eqb, ne_eqb, leb-true}
use lib.Dec.{leb, eqb}
use Rattle.lists.proofs.BoolLaws.{and_parts}
use Rattle.lists.proofs.OptionLaws.{none-some}
use Rattle.reading.specs.Call.{on_first, fields, is_digit, digits_from}

-- up to the first space
pub fields_at : (line : List ℕ) (i : ℕ) → i < length line → get_or line i 0 ≡ 32 → ((k : ℕ) → k < i → get_or line k 0 ≡ 32 → ⊥)
    → fields line ≡ take i line ∷ fields (drop (suc i) line)
fields_at [] i inside space before = absurd (omega arith)
fields_at (b ∷ line) zero inside space before = ap (λ t. cond t ([] ∷ fields line) (on_first b (fields line))) (eq-eqb b 32 space)
fields_at (b ∷ line) (suc i) inside space before =
    ap (λ t. cond t ([] ∷ fields line) (on_first b (fields line))) (ne_eqb b 32 (before 0 (omega arith)))
    ∙ ap (on_first b) (fields_at line i (omega arith) space (λ k below. before (suc k) (omega arith)))

-- a line without one is a field
pub fields_whole : (line : List ℕ) → ((k : ℕ) → k < length line → get_or line k 0 ≡ 32 → ⊥) → fields line ≡ line ∷ []
fields_whole [] none = refl
fields_whole (b ∷ line) none =
    ap (λ t. cond t ([] ∷ fields line) (on_first b (fields line))) (ne_eqb b 32 (none 0 (omega arith)))
    ∙ ap (on_first b) (fields_whole line (λ k below. none (suc k) (omega arith)))

-- ---- Bytes without a space

abbrev pub Spaceless : List ℕ → Type 0
Spaceless [] = Unit {0}
Spaceless (b ∷ text) = (eqb b 32 ≡ false) × Spaceless text

-- a space follows them
pub fields_then : (text line : List ℕ) → Spaceless text → fields (text ++ (32 ∷ line)) ≡ text ∷ fields line
fields_then [] line p = refl
fields_then (b ∷ text) line p = rw (p.0, fields_then text line p.1)

-- nothing follows them
pub fields_last : (text : List ℕ) → Spaceless text → fields text ≡ text ∷ []
fields_last [] p = refl
fields_last (b ∷ text) p = rw (p.0, fields_last text p.1)

pub spaceless_digits : (n value : ℕ) (digits : List ℕ) → digits_from n digits ≡ Some value → Spaceless digits
spaceless_digits n value [] e = tt
spaceless_digits n value (b ∷ digits) e = by (is_digit b) refl e (λ h. spaceless_digits (n * 10 + (b - 48)) value digits h) where
  by : (t : Bool) → is_digit b ≡ t → cond t (digits_from (n * 10 + (b - 48)) digits) None ≡ Some value
      → (digits_from (n * 10 + (b - 48)) digits ≡ Some value → Spaceless digits) → Spaceless (b ∷ digits)
  by true h e further = let low = leb-true 48 b (and_parts (leb 48 b) (leb b 57) h).0 in (ne_eqb b 32 (λ e. omega arith), further e)
  by false h e further = none-some e
