-- Numbers of 16 bits are read back where they were written, and a loop that writes them.
use Prim.Native.Nat.{ℕ, ◌≤◌, zero, suc, ◌+◌, ◌*◌, ◌/◌, ◌%◌, ◌<◌}
use native.Mathlib.Nat.{mul-suc, add_assoc, add-zero}
use native.Mathlib.Numerals.{add-one}
use native.Mathlib.Omega.{arith}
use mathlib.Core.Path.{◌≡◌, refl, ap, ap₂, sym, ◌∙◌}
use mathlib.Core.Bool.{true}
use mathlib.Core.List.{List, [], ◌∷◌, ◌++◌, append-nil, append_assoc}
use lib.Dec.{lit<}
use lib.ListN.{length, take, get_or}
use lib.Seq.{take_all, take-suc, get_or-append-add, length-sets}
use borrow.Author.Tests.{ltb-true}
use Rattle.lists.specs.Counts.{each}
use Rattle.library.specs.Bytes.{u16_at}
use Rattle.writing.specs.Writing.{Wrote}
use Rattle.writing.proofs.WritingLaws.{then, widen, written}
use Rattle.image.specs.declared.form.Form.{Form}
use Rattle.image.specs.declared.form.Form.TheVariants.{Narrow, Wide}
use Rattle.image.specs.Form.{number_size}
use Rattle.image.specs.Words.{word_size, word_bytes, words_bytes, list_bytes, long_words, number_bytes, number_at, holds_number}

-- ---- Reading back

-- the number at a place of the list
word_in : (words after : List ℕ) (i : ℕ) → i < length words → u16_at (words_bytes words ++ after) (2 * i) ≡ get_or words i 0
unfolding u16_at
word_in [] after i h = absurd (omega arith)
word_in (n ∷ words) after zero h = omega arith
word_in (n ∷ words) after (suc i) h =
    let high : 2 * suc i + 1 ≡ suc (suc (2 * i + 1)) = omega arith in
    let low : 2 * suc i ≡ suc (suc (2 * i)) = omega arith in
    rw (high, low) (word_in words after i (omega arith))

-- what stands before only moves the offset
shifted : (before rest : List ℕ) (at : ℕ) → u16_at (before ++ rest) (length before + at) ≡ u16_at rest at
unfolding u16_at
shifted before rest at = rw (get_or-append-add before rest at 0, add_assoc (length before) at 1, get_or-append-add before rest (at + 1) 0)

-- wherever the list stands
pub word_at : (before words after : List ℕ) (i : ℕ) → i < length words
    → u16_at (before ++ (words_bytes words ++ after)) (length before + 2 * i) ≡ get_or words i 0
word_at before words after i h = shifted before (words_bytes words ++ after) (2 * i) ∙ word_in words after i h

-- the first of the list
pub word_first : (before words after : List ℕ) → 0 < length words
    → u16_at (before ++ (words_bytes words ++ after)) (length before) ≡ get_or words 0 0
word_first before words after h =
    ap (u16_at (before ++ (words_bytes words ++ after))) (sym (add-zero (length before))) ∙ word_at before words after 0 h

-- a number of an event or of an instance, where the form holds it
pub number_at_lem : (form : Form) (before after : List ℕ) (n : ℕ) → holds_number form n ≡ true
    → number_at form (before ++ (number_bytes form n ++ after)) (length before) ≡ n
unfolding number_bytes number_at
number_at_lem Narrow before after n h =
    let small : n < 65536 = ltb-true n 65536 h in
    let same : n % 65536 % 65536 ≡ n = omega arith in
    ap (λ (k : ℕ). k % 65536) (word_first before (n % 65536 ∷ []) after (lit< tt)) ∙ same
number_at_lem Wide before after n h =
    let low = word_first before (long_words n) after (lit< tt) in
    let high = word_at before (long_words n) after 1 (lit< tt) in
    let same : n % 65536 + 65536 * (n / 65536) ≡ n = omega arith in
    ap₂ (λ (l k : ℕ). l + 65536 * k) low high ∙ same

pub length-number : (form : Form) (n : ℕ) → length (number_bytes form n) ≡ number_size form
unfolding number_bytes
length-number Narrow n = refl
length-number Wide n = refl

pub length-bytes : (words : List ℕ) → length (words_bytes words) ≡ 2 * length words
length-bytes [] = refl
length-bytes (n ∷ words) = rw mul-suc (omega (arith, length-bytes words))

-- ---- Lists of parts

module _ {A : Type 0} (write : A → List ℕ) where
  pub each-joined : (xs ys : List A) → each write (xs ++ ys) ≡ each write xs ++ each write ys
  each-joined [] ys = refl
  each-joined (x ∷ xs) ys = rw (append_assoc, each-joined xs ys)

  one_more : (xs : List A) (i : ℕ) (d : A) → i < length xs → each write (take (i + 1) xs) ≡ each write (take i xs) ++ write (get_or xs i d)
  one_more xs i d h =
      rw (add-one, take-suc xs i d h, each-joined) (ap (λ (t : List ℕ). each write (take i xs) ++ t) (append-nil (write (get_or xs i d))))

  module _ (width : ℕ) (xs : List A) where
    -- where a loop that writes the parts stands: those passed are written, each in at most `width` bytes
    pub record Parts (first : List ℕ) (at : ℕ) (out : List ℕ) (o i : ℕ) : Type 0 where
      pub kept : length out ≡ length first
      pub written : Wrote (width * i) first out at o (each write (take i xs))

    pub next_part : {first middle last : List ℕ} {at o p i : ℕ} (d : A) → i < length xs → Parts first at middle o i
        → Wrote width middle last o p (write (get_or xs i d)) → Parts first at last p (i + 1)
    next_part {first} {middle} {last} {at} {o} {p} {i} d h done one = record {
      kept = ap length one.bytes ∙ length-sets middle o (write (get_or xs i d)) ∙ done.kept;
      written = written (sym (one_more xs i d h)) (widen (rw (add-one, mul-suc) (omega arith)) (then done.written one));
    }

    -- all of them
    pub all_parts : {first last : List ℕ} {at o i : ℕ} → length xs ≤ i → i ≤ length xs → Parts first at last o i
        → Wrote (width * length xs) first last at o (each write xs)
    all_parts {first} {last} {at} {o} {i} h few done =
        let size : i ≡ length xs = omega arith in
        rw size at (written (ap (each write) (take_all i xs h)) done.written)

    -- and their count before them
    pub list_parts : {before first last : List ℕ} {start at o i : ℕ} → Wrote word_size before first start at (word_bytes (length xs)) → length xs ≤ i
        → i ≤ length xs → Parts first at last o i → Wrote (word_size + width * length xs) before last start o (list_bytes write xs)
    list_parts count h few done = then count (all_parts h few done)
