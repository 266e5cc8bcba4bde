-- Laws of a line's letter, its first field: by its first two bytes, and what stands behind them.
use Prim.Native.Nat.{ℕ, ◌≤◌}
use mathlib.Core.Path.{◌≡◌, refl, ◌∙◌}
use mathlib.Core.Bool.{Bool, true, false, cond}
use Rattle.std.specs.Prelude.{None}
use mathlib.Core.List.{List, [], ◌∷◌}
use native.Mathlib.Omega.{arith}
use lib.Dec.{eqb}
use lib.ListN.{length, get_or}
use borrow.Author.Tests.{ne_eqb, eqb-true}
use Rattle.lists.proofs.BoolLaws.{by_cases}
use Rattle.model.specs.State.{Call, cycle}
use Rattle.reading.specs.Call.{on_first, fields, letter, field, end, report_of, outcome_of, by_letter, call_of}

-- a line has a field
end-first : (b : ℕ) (texts : List (List ℕ)) (call : Call) → end (on_first b texts) call ≡ None
end-first b [] call = refl
end-first b (text ∷ texts) call = refl

end_line : (line : List ℕ) (call : Call) → end (fields line) call ≡ None
end_line [] call = refl
end_line (b ∷ line) call = by_cases (eqb b 32) (λ e. rw e) (λ e. rw e (end-first b (fields line) call))

-- a letter with a space behind it
letter_then : (b : ℕ) (line : List ℕ) → field letter (fields (b ∷ 32 ∷ line)) by_letter ≡ by_letter b (fields line)
unfolding letter
letter_then b line = by_cases (eqb b 32) (λ e. rw (e, eqb-true b 32 e)) (λ e. rw e)

no_letter : (b c : ℕ) (texts : List (List ℕ)) → field letter (on_first b (on_first c texts)) by_letter ≡ None
unfolding letter
no_letter b c [] = refl
no_letter b c (text ∷ texts) = refl

-- another byte behind it
letter_long : (b c : ℕ) (line : List ℕ) → eqb c 32 ≡ false → field letter (fields (b ∷ c ∷ line)) by_letter ≡ None
unfolding letter
letter_long b c line other = by_cases (eqb b 32) (λ e. rw (other, e)) (λ e. rw (other, e) (no_letter b c (fields line)))

pub call_report : (line : List ℕ) → call_of (80 ∷ 32 ∷ line) ≡ report_of (fields line)
unfolding call_of
call_report line = letter_then 80 line

pub call_outcome : (line : List ℕ) → call_of (79 ∷ 32 ∷ line) ≡ outcome_of (fields line)
unfolding call_of
call_outcome line = letter_then 79 line

-- any other line of two bytes or more
pub call_else : (line : List ℕ) → 2 ≤ length line
    → (get_or line 0 0 ≡ 80 → get_or line 1 0 ≡ 32 → ⊥) → (get_or line 0 0 ≡ 79 → get_or line 1 0 ≡ 32 → ⊥) → call_of line ≡ None
unfolding call_of
call_else [] h p o = absurd (omega arith)
call_else (b ∷ []) h p o = absurd (omega arith)
call_else (b ∷ c ∷ line) h p o = by_cases (eqb c 32) (λ e. spaced (eqb-true c 32 e)) (λ e. letter_long b c line e) where
  by : (t : Bool) → cond t (end (fields line) cycle) None ≡ None
  by true = end_line line cycle
  by false = refl

  spaced : c ≡ 32 → field letter (fields (b ∷ c ∷ line)) by_letter ≡ None
  spaced e = rw e (letter_then b line ∙ rw (ne_eqb b 80 (λ g. p g e), ne_eqb b 79 (λ g. o g e)) (by (eqb b 67)))
