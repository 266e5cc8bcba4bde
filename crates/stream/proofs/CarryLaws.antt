-- Laws of the line so far: bytes may come in parts, and what is too long stays too long and says nothing.
use Prim.Native.Nat.{ℕ, ◌+◌, ◌-◌, ◌≤◌, ◌<◌}
use mathlib.Core.Path.{◌≡◌, refl, sym, ap, ◌∙◌}
use Rattle.std.specs.Prelude.{Option, None, Some}
use mathlib.Core.List.{List, [], ◌∷◌, ◌++◌, append-nil, append_assoc}
use native.Mathlib.Omega.{arith}
use lib.Dec.{leb}
use lib.ListN.{length, take, drop, length-append, length-take, drop_of_length-le}
use borrow.Rule.Slice.PartMut.{put_mid}
use Rattle.std.proofs.lemmas.Slice.{take-put_mid}
use borrow.Author.Tests.{le-leb, lt-leb, leb-true, leb-false}
use Rattle.lists.proofs.BoolLaws.{by_cases}
use Rattle.reading.specs.Call.{most_line, call_of}
use Rattle.reading.proofs.LongLines.{long_unreadable}
use Rattle.stream.specs.declared.Carry.{Carry}
use Rattle.stream.specs.Carried.{kept, begun, more, said}
use Rattle.stream.specs.Calls.{at_end}

-- ---- Lines that are kept or not

pub kept_short : (line : List ℕ) → length line ≤ most_line → kept line ≡ Some line
unfolding kept
kept_short line h = rw (le-leb _ _ h)

pub kept_long : (line : List ℕ) → most_line < length line → kept line ≡ None
unfolding kept
kept_long line h = rw (lt-leb _ _ h)

-- what is not kept says nothing
pub said-kept : (line : List ℕ) → said (kept line) ≡ call_of line
said-kept line =
    by_cases (leb (length line) most_line)
    (λ e. rw (kept_short line (leb-true _ _ e)))
    (λ e. let far = leb-false (length line) most_line e in rw (kept_long line far) (sym (long_unreadable line far)))

-- ---- Further bytes

pub more_kept : (line bytes : List ℕ) → more (kept line) bytes ≡ kept (line ++ bytes)
more_kept line bytes =
    by_cases (leb (length line) most_line)
    (λ e. rw (kept_short line (leb-true _ _ e)))
    (λ e. let far = leb-false (length line) most_line e in rw (kept_long line far) (sym (kept_long (line ++ bytes) (rw length-append (omega arith)))))

pub more_twice : (held : Option (List ℕ)) (one two : List ℕ) → more (more held one) two ≡ more held (one ++ two)
more_twice None one two = refl
more_twice (Some line) one two = more_kept (line ++ one) two ∙ ap kept (append_assoc line one two)

-- no bytes change nothing of what a carry can hold
abbrev pub Kept : Option (List ℕ) → Type 0
Kept held = more held [] ≡ held

pub more_stays : (held : Option (List ℕ)) (bytes : List ℕ) → Kept (more held bytes)
more_stays held bytes = more_twice held bytes [] ∙ rw append-nil

pub kept_nothing : Kept (Some [])
kept_nothing = kept_short [] (omega arith)

-- at the input's end a line of some bytes is a line
line_left : (line : List ℕ) → 0 < length line → at_end (Some line) ≡ call_of line ∷ []
line_left [] h = absurd (omega arith)
line_left (b ∷ line) h = refl

-- ---- Carries
module _ (carry : Carry) where
  pub begun_short : carry.count ≤ most_line → begun carry ≡ Some (take carry.count carry.bytes)
  unfolding begun
  begun_short h = rw (le-leb _ _ h)

  pub begun_long : most_line < carry.count → begun carry ≡ None
  unfolding begun
  begun_long h = rw (lt-leb _ _ h)

  pub begun_kept : Kept (begun carry)
  begun_kept =
      by_cases (leb carry.count most_line)
      (λ e.
      let few = leb-true carry.count most_line e in
      rw (begun_short few, append-nil) (kept_short (take carry.count carry.bytes) (simp length-take (omega arith))))
      (λ e. rw (begun_long (leb-false _ _ e)))

  -- a line that stands in the chunk alone says what it says by itself
  pub in_place_lem : (line : List ℕ) → carry.count ≡ 0 → call_of line ≡ said (more (begun carry) line)
  in_place_lem line e = rw (begun_short (omega arith), e) (sym (said-kept line))

  -- ---- With further bytes

  -- a place past the chunk adds none
  pub nothing_further : (chunk : List ℕ) (at : ℕ) → length chunk < at → begun carry ≡ more (begun carry) (drop at chunk)
  nothing_further chunk at h = rw (drop_of_length-le chunk {i = at} (omega arith)) (sym begun_kept)

  -- too long already
  pub extend_past : (bytes : List ℕ) → most_line < carry.count → begun carry ≡ more (begun carry) bytes
  extend_past bytes h = rw (begun_long h)

  module _ (l : length carry.bytes ≡ most_line) (few : carry.count ≤ most_line) (bytes : List ℕ) where
    size : length (take carry.count carry.bytes ++ bytes) ≡ carry.count + length bytes
    size = rw (length-append, length-take) (omega arith)

    -- too long now
    pub extend_over : most_line - carry.count < length bytes → None ≡ more (begun carry) bytes
    extend_over over = rw (begun_short few) (sym (kept_long _ (rw size (omega arith))))

    -- not too long
    pub extend_fits : length bytes ≤ most_line - carry.count → more (begun carry) bytes ≡ Some (take carry.count carry.bytes ++ bytes)
    extend_fits fits = rw (begun_short few) (kept_short _ (rw size (omega arith)))

  -- the bytes as the code puts them behind the first ones
  pub extend_put : (bytes : List ℕ) → carry.count ≤ length carry.bytes
      → take (carry.count + length bytes) (put_mid carry.count (carry.count + length bytes - carry.count) carry.bytes bytes) ≡ take carry.count carry.bytes ++ bytes
  extend_put bytes few = take-put_mid carry.count _ carry.bytes bytes _ refl few

  -- ---- At the input's end

  pub end_nothing : carry.count < 1 → at_end (begun carry) ≡ []
  end_nothing h = let e : carry.count ≡ 0 = omega arith in rw (begun_short (omega arith), e)

  pub end_line : length carry.bytes ≡ most_line → 1 ≤ carry.count → at_end (begun carry) ≡ said (begun carry) ∷ []
  end_line l h =
      by_cases (leb carry.count most_line)
      (λ t.
      let few = leb-true carry.count most_line t in
      rw (begun_short few) (line_left (take carry.count carry.bytes) (simp length-take (omega arith))))
      (λ t. rw (begun_long (leb-false _ _ t)))

-- what a carry holds, by its count
pub ruleset beginnings = (begun_short, begun_long)

-- what further bytes make of it, by its count and theirs
pub ruleset extending = (begun_short, begun_long, extend_past, extend_over, extend_fits, extend_put)
