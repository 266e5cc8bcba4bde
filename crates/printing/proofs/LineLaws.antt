-- Laws of lines: the only newline of a line is its last byte, a line that is printed is no longer than the longest, and without room none is.
use Prim.Native.Nat.{ℕ, zero, suc, ◌+◌, ◌/◌, ◌%◌, ◌≤◌, ◌<◌}
use native.Mathlib.Omega.{arith}
use mathlib.Core.Path.{◌≡◌, refl, sym}
use mathlib.Core.Bool.{Bool, true, false}
use mathlib.Core.Logic.{⊎_elim}
use mathlib.Core.List.{List, [], ◌∷◌, ◌++◌, append_assoc}
use lib.Dec.{eqb, ltb}
use lib.ListN.{length}
use borrow.Author.Tests.{ne_eqb}
use Rattle.std.specs.List.{list_any}
use Rattle.lists.specs.Counts.{each}
use Rattle.lists.proofs.BoolLaws.{by_cases, or_parts}
use Rattle.literal.specs.declared.Literal.{Literal}
use Rattle.literal.specs.Literal.{negative}
use Rattle.belief.specs.declared.Change.{Change}
use Rattle.model.specs.State.{Result}
use Rattle.model.specs.Lines.{Letter, T, I, N, U, M, S, B, D, G, E, F, X, Field, number, e, g, literal, Line}
use Rattle.printing.specs.Decimal.{last_digit, decimal}
use Rattle.printing.specs.LineText.{newline, letter_byte, sign_byte, change_byte, number_text, literal_text, field_text, change_text, line_text, result_text, IsLine, most_line}
use Rattle.printing.specs.Prints.{Prints}
use Rattle.printing.proofs.DecimalLaws.{side, decimal_small, decimal_more}

-- ---- No newline in a part

abbrev none : List ℕ → Type 0
none text = list_any (eqb newline) text ≡ false

none_cons : (b : ℕ) (text : List ℕ) → eqb newline b ≡ false → none text → none (b ∷ text)
none_cons b text p q = rw p q

none-joined : (s t : List ℕ) → none s → none t → none (s ++ t)
none-joined [] t p q = q
none-joined (b ∷ s) t p q = let parts = or_parts (eqb newline b) _ p in rw parts.0 (none-joined s t parts.1 q)

none_empty : none []
none_empty = refl

none_by : (k n : ℕ) → n < k → none (decimal n)
none_by zero n h = absurd (omega arith)
none_by (suc k) n h =
    ⊎_elim (λ (big : 10 ≤ n). rw (decimal_more n big) (none-joined (decimal (n / 10)) (last_digit n ∷ []) (none_by k (n / 10) (omega arith))
    (none_cons (last_digit n) [] (ne_eqb newline (last_digit n) (λ same. omega arith)) none_empty)))
    (λ (small : n < 10). rw (decimal_small n small) (none_cons (48 + n) [] (ne_eqb newline (48 + n) (λ same. omega arith)) none_empty))
    (side n 10)

none-decimal : (n : ℕ) → none (decimal n)
none-decimal n = none_by (suc n) n (omega arith)

none_number : (n : ℕ) → none (number_text n)
none_number n = none_cons 32 (decimal n) refl (none-decimal n)

none_sign : (head : ℕ) → eqb newline (sign_byte head) ≡ false
none_sign head = by_cases (ltb head negative) (λ h. rw h) (λ h. rw h)

none-literal : (l : Literal) → none (literal_text l)
unfolding literal_text
none-literal l =
    none-joined (32 ∷ sign_byte l.head ∷ decimal (l.head % negative)) _
    (none_cons 32 (sign_byte l.head ∷ decimal (l.head % negative)) refl
    (none_cons (sign_byte l.head) (decimal (l.head % negative)) (none_sign l.head) (none-decimal (l.head % negative))))
    (none-joined (number_text l.first) _ (none_number l.first)
    (none-joined (number_text l.second) _ (none_number l.second) (none_number l.third)))

none-field : (f : Field) → none (field_text f)
unfolding field_text
none-field (number n) = none_number n
none-field e = refl
none-field g = refl
none-field (literal l) = none-literal l

none-letter : (removes : Bool) → eqb newline (change_byte removes) ≡ false
none-letter true = refl
none-letter false = refl

none-change : (c : Change) → none (change_text c)
unfolding change_text
none-change c =
    none_cons 32 (change_byte c.removes ∷ literal_text c.literal) refl
    (none_cons (change_byte c.removes) (literal_text c.literal) (none-letter c.removes) (none-literal c.literal))

none_each : {A : Type 0} (text : A → List ℕ) → ((x : A) → none (text x)) → (xs : List A) → none (each text xs)
none_each text part [] = none_empty
none_each text part (x ∷ xs) = none-joined (text x) (each text xs) (part x) (none_each text part xs)

none_of : (letter : Letter) → eqb newline (letter_byte letter) ≡ false
none_of T = refl
none_of I = refl
none_of N = refl
none_of U = refl
none_of M = refl
none_of S = refl
none_of B = refl
none_of D = refl
none_of G = refl
none_of E = refl
none_of F = refl
none_of X = refl

-- ---- A line

-- the only newline is the last byte
pub one_newline : (line : Line) → IsLine (line_text line)
unfolding line_text
one_newline line = record {
  body = fields ++ changes;
  ends = sym (append_assoc fields changes (newline ∷ []));
  once = none-joined fields changes
      (none_cons (letter_byte line.letter) (each field_text line.fields) (none_of line.letter) (none_each field_text none-field line.fields))
      (none_each change_text none-change line.changes);
}
  where
    fields : List ℕ
    fields = letter_byte line.letter ∷ each field_text line.fields

    changes : List ℕ
    changes = each change_text line.changes

-- what is printed is no longer than the longest line
pub printed_most : {before after : List ℕ} {at next : ℕ} {result : Result} → Prints before after at next result → at + most_line ≤ length before
    → length (result_text result) ≤ most_line
printed_most p room = omega (arith, (p.line room).past, (p.line room).within)

-- without room nothing is printed
pub unprinted : {bytes : List ℕ} {at : ℕ} {result : Result} → length bytes < at + most_line → Prints bytes bytes at at result
unprinted full = record {
  line = λ room. absurd (omega arith);
  fit = λ room. absurd (omega arith);
  unwritten = λ short. refl;
  unmoved = λ short. refl;
}
