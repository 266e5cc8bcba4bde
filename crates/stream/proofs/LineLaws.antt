-- Laws of lines: one that ends at a newline, and one that ends with the input.
use Prim.Native.Nat.{ℕ}
use mathlib.Core.Path.{◌≡◌, refl}
use mathlib.Core.Bool.{false}
use mathlib.Core.List.{List, [], ◌∷◌, ◌++◌}
use Rattle.reading.specs.Call.{on_first}
use Rattle.stream.specs.Lines.{is_newline, lines}

-- no newline in it
abbrev pub Plain : List ℕ → Type 0
Plain [] = Unit {0}
Plain (b ∷ line) = (is_newline b ≡ false) × Plain line

pub plain-append : (line further : List ℕ) → Plain line → Plain further → Plain (line ++ further)
plain-append [] further p q = q
plain-append (b ∷ line) further p q = (p.0, plain-append line further p.1 q)

pub lines-newline : (line rest : List ℕ) → Plain line → lines (line ++ (10 ∷ rest)) ≡ line ∷ lines rest
lines-newline [] rest p = refl
lines-newline (b ∷ line) rest p = rw (p.0, lines-newline line rest p.1)

-- the line that an input without a newline is
abbrev pub only : List ℕ → List (List ℕ)
only [] = []
only (b ∷ line) = (b ∷ line) ∷ []

only-first : (b : ℕ) (line : List ℕ) → on_first b (only line) ≡ (b ∷ line) ∷ []
only-first b [] = refl
only-first b (c ∷ line) = refl

pub lines_end : (line : List ℕ) → Plain line → lines line ≡ only line
lines_end [] p = refl
lines_end (b ∷ line) p = rw (p.0, lines_end line p.1) (only-first b line)
