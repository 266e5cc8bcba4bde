-- When a parser reads, at each offset of some bytes, the value that a definition of the layout reads there, and how such parsers join.
use Prim.Native.Nat.{ℕ, zero, suc, ◌+◌, ◌*◌, ◌<◌, ◌≤◌}
use mathlib.Core.Path.{◌≡◌, refl, sym, ap, ◌∙◌}
use mathlib.Core.Bool.{Bool, true, false, cond, ◌&&◌}
use mathlib.Core.List.{List, [], ◌∷◌}
use native.Mathlib.Nat.{mul-suc}
use native.Mathlib.Omega.{arith}
use borrow.Author.Tests.{leb-true, leb-false, le-leb, lt-leb}
use lib.ListN.{length, get_or, drop, length-drop}
use lib.Seq.{drop-cons}
use lib.Dec.{leb}
use Rattle.std.specs.List.{list_all}
use Rattle.library.specs.Bytes.{u16_at, items, rows, rows_end}
use Rattle.accepted.specs.Rules.{at_most}
use Rattle.accepted.specs.Parser.{Parsed, and_then, given, many, number, number_up_to, up_to_four}
use Rattle.accepted.specs.Parser.Parsed.{parsed, off_layout}
use Rattle.library.proofs.RowLaws.{length-items}

-- from an offset within the bytes the parser gives `read` and ends at `end`, where `ok` holds and the bytes last
pub record Reads {A : Type 0} (bytes : List ℕ) (parser : List ℕ → Parsed A) (ok : ℕ → Bool) (read : ℕ → A) (end : ℕ → ℕ) : Type 0 where
  pub onward : (at : ℕ) → at ≤ end at
  pub reads : (at : ℕ) → at ≤ length bytes
      → parser (drop at bytes) ≡ cond (ok at && leb (end at) (length bytes)) (parsed (read at) (drop (end at) bytes)) off_layout

-- ---- Bools

pub and_true : (b : Bool) → (b && true) ≡ b
and_true true = refl
and_true false = refl

pub and_assoc : (a b c : Bool) → (a && (b && c)) ≡ (a && b && c)
and_assoc true b c = refl
and_assoc false b c = refl

-- ---- One parser after another

module _ {A B : Type 0} (bytes : List ℕ) (next : A → List ℕ → Parsed B) where
  then_cases : (ok ok' within : Bool) (end end' : ℕ) (v : A) (v' : B) → within ≡ leb end (length bytes) → end ≤ end'
      → (end ≤ length bytes → next v (drop end bytes) ≡ cond (ok' && leb end' (length bytes)) (parsed v' (drop end' bytes)) off_layout)
      → and_then (cond (ok && within) (parsed v (drop end bytes)) off_layout) next ≡ cond (ok && ok' && leb end' (length bytes)) (parsed v' (drop end' bytes)) off_layout
  then_cases false ok' within end end' v v' h l g = refl
  then_cases true ok' true end end' v v' h l g = g (leb-true end (length bytes) (sym h))
  then_cases true false false end end' v v' h l g = refl
  then_cases true true false end end' v v' h l g =
      let past = leb-false end (length bytes) (sym h) in
      rw (lt-leb end' (length bytes) (omega arith))

module _ {A B : Type 0} {bytes : List ℕ} {parser : List ℕ → Parsed A} {ok : ℕ → Bool} {read : ℕ → A} {end : ℕ → ℕ} (first : Reads bytes parser ok read end) (next : A → List ℕ → Parsed B) (ok' : A → ℕ → Bool) (read' : A → ℕ → B) (end' : A → ℕ → ℕ) (second : (v : A) → Reads bytes (next v) (ok' v) (read' v) (end' v)) where
  pub then_reads : Reads bytes (λ bs. and_then (parser bs) next) (λ at. ok at && ok' (read at) (end at)) (λ at. read' (read at) (end at)) (λ at. end' (read at) (end at))
  then_reads = record {
    onward = λ at. (let x = first.onward at in let y = (second (read at)).onward (end at) in omega arith);
    reads = λ at h. ap (λ z. and_then z next) (first.reads at h) ∙ then_cases bytes next (ok at) (ok' (read at) (end at)) (leb (end at) (length bytes)) (end at) (end' (read at) (end at)) (read at) (read' (read at) (end at)) refl ((second (read at)).onward (end at)) ((second (read at)).reads (end at));
  }

-- the same parser, by other names for the same values
pub renamed : {A : Type 0} {bytes : List ℕ} {parser : List ℕ → Parsed A} {ok : ℕ → Bool} {read : ℕ → A} {end : ℕ → ℕ} → Reads bytes parser ok read end
    → (ok' : ℕ → Bool) (read' : ℕ → A) (end' : ℕ → ℕ) → ((at : ℕ) → ok at ≡ ok' at) → ((at : ℕ) → read at ≡ read' at) → ((at : ℕ) → end at ≡ end' at)
    → Reads bytes parser ok' read' end'
renamed r ok' read' end' a b c = record {
  onward = λ at. (let x = r.onward at in let y = c at in omega arith);
  reads = λ at h. r.reads at h ∙ simp (a at, b at, c at);
}

-- ---- Values and tests

pub value_reads : {A : Type 0} (bytes : List ℕ) (v : A) → Reads bytes (λ bs. parsed v bs) (λ at. true) (λ at. v) (λ at. at)
value_reads bytes v = record { onward = λ at. omega arith; reads = λ at h. rw (le-leb at (length bytes) h) }

given-cases : {A : Type 0} (test : Bool) (v : A) (rest : List ℕ) → given test v rest ≡ cond (test && true) (parsed v rest) off_layout
given-cases true v rest = refl
given-cases false v rest = refl

pub given_reads : {A : Type 0} (bytes : List ℕ) (test : Bool) (v : A) → Reads bytes (given test v) (λ at. test) (λ at. v) (λ at. at)
given_reads bytes test v = record { onward = λ at. omega arith; reads = λ at h. rw (le-leb at (length bytes) h) (given-cases test v (drop at bytes)) }

-- a test before
if_cases : {A : Type 0} (test ok within : Bool) (p q : Parsed A) → p ≡ cond (ok && within) q off_layout → cond test p off_layout ≡ cond (test && ok && within) q off_layout
if_cases true ok within p q h = h
if_cases false ok within p q h = refl

pub if_reads : {A : Type 0} {bytes : List ℕ} {parser : List ℕ → Parsed A} {ok : ℕ → Bool} {read : ℕ → A} {end : ℕ → ℕ} (test : Bool) → Reads bytes parser ok read end
    → Reads bytes (λ bs. cond test (parser bs) off_layout) (λ at. test && ok at) read end
if_reads {bytes = bytes} {parser = parser} {ok = ok} {read = read} {end = end} test r = record {
  onward = r.onward;
  reads = λ at h. if_cases test (ok at) (leb (end at) (length bytes)) (parser (drop at bytes)) (parsed (read at) (drop (end at) bytes)) (r.reads at h);
}

-- ---- Numbers

number_short : (bs : List ℕ) → length bs < 2 → number bs ≡ off_layout
unfolding number
number_short [] h = refl
number_short (a ∷ []) h = refl
number_short (a ∷ b ∷ rest) h = absurd (omega arith)

two_bytes : (bytes : List ℕ) (at : ℕ) → at + 2 ≤ length bytes → drop at bytes ≡ get_or bytes at 0 ∷ get_or bytes (at + 1) 0 ∷ drop (at + 2) bytes
two_bytes bytes at h =
    let e1 : suc at ≡ at + 1 = omega arith in
    let e2 : suc (suc at) ≡ at + 2 = omega arith in
    let x = drop-cons bytes at 0 (omega arith) in
    let y = drop-cons bytes (suc at) 0 (omega arith) in
    cc

number-cases : (bytes : List ℕ) (at : ℕ) (within : Bool) → within ≡ leb (at + 2) (length bytes)
    → number (drop at bytes) ≡ cond within (parsed (u16_at bytes at) (drop (at + 2) bytes)) off_layout
unfolding number u16_at
number-cases bytes at true h = rw (two_bytes bytes at (leb-true (at + 2) (length bytes) (sym h)))
number-cases bytes at false h =
    let past = leb-false (at + 2) (length bytes) (sym h) in
    let left = length-drop at bytes in
    number_short (drop at bytes) (omega arith)

pub number_reads : (bytes : List ℕ) → Reads bytes number (λ at. true) (u16_at bytes) (λ at. at + 2)
number_reads bytes = record { onward = λ at. omega arith; reads = λ at h. number-cases bytes at (leb (at + 2) (length bytes)) refl }

pub up_to_reads : (bytes : List ℕ) (most : ℕ) → Reads bytes (number_up_to most) (λ at. leb (u16_at bytes at) most) (u16_at bytes) (λ at. at + 2)
unfolding number_up_to
up_to_reads bytes most = then_reads (number_reads bytes) (λ n rest. given (leb n most) n rest) (λ n at. leb n most) (λ n at. n) (λ n at. at) (λ n. given_reads bytes (leb n most) n)

-- ---- Items and rows

-- one more of many
module _ {A : Type 0} {bytes : List ℕ} {parser : List ℕ → Parsed A} {ok : ℕ → Bool} {read : ℕ → A} {end : ℕ → ℕ} (one : Reads bytes parser ok read end) (n : ℕ) {oks : ℕ → Bool} {list : ℕ → List A} {ends : ℕ → ℕ} (rest : Reads bytes (many parser n) oks list ends) where
  more_reads : Reads bytes (many parser (suc n)) (λ at. ok at && oks (end at)) (λ at. read at ∷ list (end at)) (λ at. ends (end at))
  unfolding many
  more_reads =
      then_reads one _ (λ v at. oks at) (λ v at. v ∷ list at) (λ v at. ends at)
      (λ v. renamed (then_reads rest _ (λ vs at. true) (λ vs at. v ∷ vs) (λ vs at. at) (λ vs. value_reads bytes (v ∷ vs))) oks (λ at. v ∷ list at) ends (λ at. and_true (oks at)) (λ at. refl) (λ at. refl))

module _ {A : Type 0} {bytes : List ℕ} {parser : List ℕ → Parsed A} (test : A → Bool) {read : ℕ → A} (width : ℕ) (one : Reads bytes parser (λ at. test (read at)) read (λ at. at + width)) where
  items-read : (n : ℕ) → Reads bytes (many parser n) (λ at. list_all test (items read width n at)) (items read width n) (λ at. at + width * n)
  unfolding many items
  items-read zero = renamed (value_reads bytes []) (λ at. true) (items read width zero) (λ at. at + width * zero) (λ at. refl) (λ at. refl) (λ at. omega arith)
  items-read (suc n) =
      renamed (more_reads one n (items-read n)) (λ at. list_all test (items read width (suc n) at)) (items read width (suc n)) (λ at. at + width * suc n) (λ at. refl) (λ at. refl) (λ at. simp mul-suc (omega arith))

  -- their number, and them
  pub four_read : Reads bytes (up_to_four parser) (λ at. at_most 4 (items read width (u16_at bytes at) (at + 2)) && list_all test (items read width (u16_at bytes at) (at + 2)))
      (λ at. items read width (u16_at bytes at) (at + 2)) (λ at. at + 2 + width * u16_at bytes at)
  unfolding up_to_four
  four_read =
      renamed
      (then_reads (up_to_reads bytes 4) _ (λ n at. list_all test (items read width n at)) (λ n at. items read width n at) (λ n at. at + width * n) (λ n. items-read n))
      _ _ _ (λ at. rw (length-items read width (u16_at bytes at) (at + 2))) (λ at. refl) (λ at. refl)

  -- rows of them
  pub rows-read : (n : ℕ) → Reads bytes (many (up_to_four parser) n) (λ at. list_all (λ row. at_most 4 row && list_all test row) (rows read bytes width n at)) (rows read bytes width n) (rows_end bytes width n)
  unfolding many rows rows_end
  rows-read zero = value_reads bytes []
  rows-read (suc n) =
      renamed (more_reads four_read n (rows-read n))
      (λ at. list_all (λ row. at_most 4 row && list_all test row) (rows read bytes width (suc n) at)) (rows read bytes width (suc n)) (rows_end bytes width (suc n))
      (λ at. refl) (λ at. refl) (λ at. refl)
