-- A field has as many bytes as columns, and a number in columns is its last digit after the columns of what is left.
use Prim.Native.Nat.{ℕ, zero, suc, ◌+◌, ◌-◌, ◌/◌, ◌<◌, ◌≤◌}
use native.Mathlib.Omega.{arith}
use mathlib.Core.Path.{◌≡◌, refl, ap, sym, ◌∙◌}
use mathlib.Core.List.{List, [], ◌∷◌, ◌++◌, append_assoc}
use mathlib.Core.Logic.{⊎_elim}
use lib.ListN.{length, length-append, drop, length-drop, replicate, length-replicate}
use lib.Seq.{drop-append-le, drop-length}
use borrow.Author.Tests.{ne_eqb, lt-ltb, le-ltb}
use Rattle.model.specs.declared.Status.{Status}
use Rattle.printing.specs.Decimal.{decimal, last_digit}
use Rattle.printing.proofs.DecimalLaws.{side, decimal_small, decimal_more}
use Rattle.writing.specs.Writing.{Wrote}
use Rattle.writing.proofs.WritingLaws.{then, widen, nothing, written}
use Rattle.board.specs.Columns.{cell, cells}
use Rattle.board.specs.Page.{Field, field, number, status_letter, letter, entry, aligned, after}

abbrev spaces : ℕ → List ℕ
spaces k = replicate k 32

-- ---- Right-aligned

pub length-aligned : (f : Field) → length (aligned f) ≡ f.width
unfolding aligned
length-aligned f =
    length-drop (length f.text) (spaces f.width ++ f.text)
    ∙ omega (arith, length-append (spaces f.width) f.text, length-replicate {A = ℕ} f.width 32)

-- a text that fits stands after spaces
drop-spaces : (k width : ℕ) → drop k (spaces width) ≡ spaces (width - k)
drop-spaces zero width = let all : width ≡ width - 0 = omega arith in ap spaces all
drop-spaces (suc k) zero = let none : 0 ≡ 0 - suc k = omega arith in ap spaces none
drop-spaces (suc k) (suc width) = let same : width - k ≡ suc width - suc k = omega arith in drop-spaces k width ∙ ap spaces same

pub aligned-fits : (width : ℕ) (text : List ℕ) → length text ≤ width → aligned (field width text) ≡ spaces (width - length text) ++ text
unfolding aligned
aligned-fits width text h =
    drop-append-le (length text) (spaces width) text (omega (arith, length-replicate {A = ℕ} width 32))
    ∙ ap (λ (l : List ℕ). l ++ text) (drop-spaces (length text) width)

-- one column and one character more
aligned_more : (width : ℕ) (text : List ℕ) (c : ℕ) → aligned (field (suc width) (text ++ (c ∷ []))) ≡ aligned (field width text) ++ (c ∷ [])
unfolding aligned
aligned_more width text c =
    let long : length (text ++ (c ∷ [])) ≡ suc (length text) = length-append text (c ∷ []) ∙ omega arith in
    let room : length text ≤ length (spaces width ++ text) = omega (arith, length-append (spaces width) text) in
    ap (λ (k : ℕ). drop k (32 ∷ (spaces width ++ (text ++ (c ∷ []))))) long
    ∙ ap (drop (length text)) (sym (append_assoc (spaces width) text (c ∷ [])))
    ∙ drop-append-le (length text) (spaces width ++ text) (c ∷ []) room

-- ---- A number

spaces_more : (k : ℕ) → spaces (suc k) ≡ spaces k ++ (32 ∷ [])
spaces_more zero = refl
spaces_more (suc k) = ap (λ (l : List ℕ). 32 ∷ l) (spaces_more k)

-- nothing left: spaces
cells-none : (width : ℕ) → cells width 0 ≡ spaces width
unfolding cells
cells-none zero = refl
cells-none (suc width) = ap (λ (l : List ℕ). l ++ (32 ∷ [])) (cells-none width) ∙ sym (spaces_more width)

pub cell-some : (n : ℕ) → (n ≡ 0 → ⊥) → last_digit n ≡ cell n
cell-some n h = rw (ne_eqb n 0 h)

one_digit : (width n : ℕ) → n < 10 → aligned (number (suc width) n) ≡ cells width (n / 10) ++ (last_digit n ∷ [])
unfolding aligned
one_digit width n small =
    let none : n / 10 ≡ 0 = omega arith in
    let digit : 48 + n ≡ last_digit n = omega arith in
    ap (λ (text : List ℕ). aligned (field (suc width) text)) (decimal_small n small ∙ ap (λ (c : ℕ). c ∷ []) digit)
    ∙ aligned_more width [] (last_digit n)
    ∙ ap (λ (l : List ℕ). l ++ (last_digit n ∷ [])) (append-none width ∙ sym (ap (cells width) none ∙ cells-none width))
  where
    append-none : (k : ℕ) → spaces k ++ [] ≡ spaces k
    append-none zero = refl
    append-none (suc k) = ap (λ (l : List ℕ). 32 ∷ l) (append-none k)

more_digits : (width n : ℕ) → 10 ≤ n → aligned (number (suc width) n) ≡ aligned (number width (n / 10)) ++ (last_digit n ∷ [])
more_digits width n big =
    ap (λ (text : List ℕ). aligned (field (suc width) text)) (decimal_more n big) ∙ aligned_more width (decimal (n / 10)) (last_digit n)

-- the columns of what is left, by whether there is more than one digit
columns_left : (width n : ℕ) → (10 ≤ n → aligned (number width (n / 10)) ≡ cells width (n / 10))
    → cells width (n / 10) ++ (last_digit n ∷ []) ≡ aligned (number (suc width) n)
columns_left width n left =
    ⊎_elim (λ (big : 10 ≤ n). sym (more_digits width n big ∙ ap (λ (l : List ℕ). l ++ (last_digit n ∷ [])) (left big)))
    (λ (small : n < 10). sym (one_digit width n small)) (side n 10)

-- whatever the number, its last digit stands after the columns of what is left
pub number-cells : (width n : ℕ) → cells width (n / 10) ++ (last_digit n ∷ []) ≡ aligned (number (suc width) n)
unfolding aligned cells
number-cells zero n = columns_left zero n (λ big. drop-length (decimal (n / 10)))
number-cells (suc width) n =
    columns_left (suc width) n
    (λ (big : 10 ≤ n).
    sym (number-cells width (n / 10))
    ∙ ap (λ (c : ℕ). cells width (n / 10 / 10) ++ (c ∷ [])) (cell-some (n / 10) (λ (none : n / 10 ≡ 0). omega arith)))

-- ---- Writing it

pub no_cells : {bytes : List ℕ} {at : ℕ} (width left : ℕ) → width ≡ 0 → Wrote width bytes bytes at at (cells width left)
unfolding cells
no_cells zero left none = nothing
no_cells (suc width) left none = absurd (omega arith)

pub more_cells : {first middle last : List ℕ} {at next end byte : ℕ} (width less left : ℕ) → width ≡ suc less
    → Wrote less first middle at next (cells less (left / 10)) → Wrote 1 middle last next end (byte ∷ []) → byte ≡ cell left
    → Wrote width first last at end (cells width left)
unfolding cells
more_cells width less left one_more before one same =
    rw one_more (written (ap (λ (c : ℕ). cells less (left / 10) ++ (c ∷ [])) same) (widen (omega arith) (then before one)))

pub whole_number : {first middle last : List ℕ} {at next end byte : ℕ} (width less n : ℕ) → width ≡ suc less
    → Wrote less first middle at next (cells less (n / 10)) → Wrote 1 middle last next end (byte ∷ []) → byte ≡ last_digit n
    → Wrote width first last at end (aligned (number width n))
whole_number width less n one_more before one same =
    rw one_more (written (ap (λ (c : ℕ). cells less (n / 10) ++ (c ∷ [])) same ∙ number-cells less n) (widen (omega arith) (then before one)))

-- ---- A status

pub status_text : (status : Status) {byte : ℕ} → byte ≡ status_letter status → 32 ∷ byte ∷ [] ≡ after (letter status)
unfolding aligned
status_text status same = ap (λ (c : ℕ). 32 ∷ c ∷ []) same

-- ---- An entry

pub entry_bound : (term : ℕ) → term < 65528 → after (number 5 term) ≡ after (entry term)
entry_bound term low = rw (lt-ltb term 65528 low)

pub entry_unbound : (term : ℕ) → 65528 ≤ term → 32 ∷ 32 ∷ 32 ∷ 32 ∷ 32 ∷ 45 ∷ [] ≡ after (entry term)
unfolding aligned
entry_unbound term high = rw (le-ltb term 65528 high)

-- an entry, bound or not
pub ruleset entries = (written, entry_bound, entry_unbound)
