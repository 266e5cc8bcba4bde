-- A line's fields one after the other: the last one, the next entry, and a whole line of 73 bytes.
use Prim.Native.Nat.{ℕ, zero, suc, ◌+◌, ◌*◌, ◌<◌}
use native.Mathlib.Numerals.{add-one}
use native.Mathlib.Omega.{arith}
use mathlib.Core.Path.{◌≡◌, refl, ap, sym, ◌∙◌}
use mathlib.Core.List.{List, [], ◌∷◌, ◌++◌, map, append_assoc, append-nil}
use lib.ListN.{length, get_or, take}
use Rattle.lists.specs.Counts.{each}
use Rattle.model.specs.declared.Instance.{Instance}
use Rattle.writing.specs.Writing.{Wrote}
use Rattle.writing.proofs.WritingLaws.{then, widen, written}
use Rattle.board.specs.Page.{Field, number, letter, entry, aligned, after, Row, fields_of, line_text}

-- ---- Lists joined

module _ {A B : Type 0} (f : A → List B) where
  pub each-joined : (xs ys : List A) → each f (xs ++ ys) ≡ each f xs ++ each f ys
  each-joined [] ys = refl
  each-joined (x ∷ xs) ys = ap (λ (l : List B). f x ++ l) (each-joined xs ys) ∙ sym (append_assoc (f x) (each f xs) (each f ys))

  -- one element more
  pub each_last : (xs : List A) (x : A) → each f (xs ++ (x ∷ [])) ≡ each f xs ++ f x
  each_last xs x = each-joined xs (x ∷ []) ∙ ap (λ (l : List B). each f xs ++ l) (append-nil (f x))

-- ---- Writing a line

-- the last field of a list
pub last_field : {n : ℕ} {before middle : List ℕ} {at next : ℕ} {text : List ℕ} → Wrote n before middle at next text → Wrote n before middle at next (text ++ [])
last_field {text = text} p = written (sym (append-nil text)) p

entry_more : (terms : List ℕ) (i : ℕ) → i < length terms
    → each after (map entry (take (suc i) terms)) ≡ each after (map entry (take i terms)) ++ after (entry (get_or terms i 0))
entry_more [] i low = absurd (omega arith)
entry_more (t ∷ terms) zero low = append-nil (after (entry t))
entry_more (t ∷ terms) (suc i) low =
    ap (λ (l : List ℕ). after (entry t) ++ l) (entry_more terms i (omega arith))
    ∙ sym (append_assoc (after (entry t)) (each after (map entry (take i terms))) (after (entry (get_or terms i 0))))

pub next_entry : {first middle last : List ℕ} {at o p : ℕ} (terms : List ℕ) (i : ℕ) → i < length terms
    → Wrote (6 * i) first middle at o (each after (map entry (take i terms))) → Wrote 6 middle last o p (after (entry (get_or terms i 0)))
    → Wrote (6 * (i + 1)) first last at p (each after (map entry (take (i + 1) terms)))
next_entry terms i low done one = rw (add-one i) (written (sym (entry_more terms i low)) (widen (omega arith) (then done one)))

regroup : (a b c d e : List ℕ) → (a ++ b) ++ (c ++ (d ++ e)) ≡ (a ++ (b ++ (c ++ d))) ++ e
regroup a b c d e = simp append_assoc

-- how far an instance has come
abbrev progress : Instance → List Field
progress x = number 10 x.id ∷ number 2 x.plan ∷ number 2 x.state ∷ number 1 x.tried ∷ letter x.status ∷ []

-- the three parts of a line and its newline
pub whole-line : (row : Row)
    → (aligned (number 1 row.stack) ++ after (number 1 row.height))
    ++ (each after (progress row.instance) ++ (each after (map entry row.instance.env.terms) ++ (10 ∷ [])))
    ≡ line_text row
unfolding fields_of line_text
whole-line row =
    let x = row.instance in
    let place = aligned (number 1 row.stack) in
    let height = after (number 1 row.height) in
    regroup place height (each after (progress x)) (each after (map entry x.env.terms)) (10 ∷ [])
    ∙ ap (λ (l : List ℕ). (place ++ (height ++ l)) ++ (10 ∷ [])) (sym (each-joined after (progress x) (map entry x.env.terms)))
