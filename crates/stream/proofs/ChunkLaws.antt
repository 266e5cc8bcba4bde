-- What a chunk does to the calls of an input: a line that ends in it says its call, and one that does not goes on after it.
use Prim.Native.Nat.{ℕ, suc, ◌+◌, ◌-◌, ◌≤◌, ◌<◌}
use mathlib.Core.Path.{◌≡◌, refl, sym, ap, ◌∙◌}
use mathlib.Core.Bool.{Bool, true, false, cond}
use Rattle.std.specs.Prelude.{Option, None, Some}
use mathlib.Core.List.{List, [], ◌∷◌, ◌++◌}
use native.Mathlib.Omega.{arith}
use lib.Dec.{ltb}
use lib.ListN.{length, take, drop, length-drop, take-append-drop}
use lib.Seq.{take-add, take_all, drop-drop}
use borrow.Author.Tests.{lt-ltb, le-ltb, ltb-true, ltb-false}
use Rattle.std.specs.List as std
use Rattle.std.specs.List.{position_or_len, slice_range}
use Rattle.lists.proofs.BoolLaws.{by_cases}
use Rattle.lists.proofs.OptionLaws.{some_equal, none-some}
use Rattle.model.specs.State.{Call}
use Rattle.reading.specs.Spoken.{meaning}
use Rattle.stream.specs.declared.Carry.{Carry}
use Rattle.stream.specs.declared.Line.{Line}
use Rattle.stream.specs.Lines.{is_newline}
use Rattle.stream.specs.Carried.{begun, more, said}
use Rattle.stream.specs.Calls.{calls_from, line_after, part, line_end, Ended, ended_at, next_line, shown}
use Rattle.stream.proofs.CarryLaws.{Kept, more_twice, more_stays, begun_kept}

-- ---- The place of the first newline

first_here : (b : ℕ) (bytes : List ℕ) → is_newline b ≡ true → position_or_len is_newline (b ∷ bytes) ≡ 0
first_here b bytes e = rw e

first_later : (b : ℕ) (bytes : List ℕ) → is_newline b ≡ false → position_or_len is_newline (b ∷ bytes) ≡ suc (position_or_len is_newline bytes)
first_later b bytes e = rw e (omega arith)

-- ---- Bytes with a newline, and bytes without

-- the calls where the first newline stands at a place
abbrev ends_at : Option (List ℕ) → List ℕ → List ℕ → ℕ → List (Option Call)
ends_at held bytes rest place = said (more held (take place bytes)) ∷ calls_from (Some []) (drop (suc place) bytes ++ rest)

newline_in : (held : Option (List ℕ)) (bytes rest : List ℕ) → Kept held → position_or_len is_newline bytes < length bytes
    → calls_from held (bytes ++ rest) ≡ ends_at held bytes rest (position_or_len is_newline bytes)
newline_in held [] rest k h = absurd (omega arith)
newline_in held (b ∷ bytes) rest k h =
    by_cases (is_newline b)
    (λ e. rw (first_here b bytes e, e, k))
    (λ e.
    let later = first_later b bytes e in
    let place = position_or_len is_newline bytes in
    let on = newline_in (more held (b ∷ [])) bytes rest (more_stays held (b ∷ [])) (omega arith) in
    rw (later, e)
    (on ∙ ap (λ o. said o ∷ calls_from (Some []) (drop (suc place) bytes ++ rest)) (more_twice held (b ∷ []) (take place bytes))))

no_newline_in : (held : Option (List ℕ)) (bytes rest : List ℕ) → Kept held → length bytes ≤ position_or_len is_newline bytes
    → calls_from held (bytes ++ rest) ≡ calls_from (more held bytes) rest
no_newline_in held [] rest k h = rw k
no_newline_in held (b ∷ bytes) rest k h =
    by_cases (is_newline b)
    (λ e. absurd (omega (arith, first_here b bytes e)))
    (λ e.
    let later = first_later b bytes e in
    let on = no_newline_in (more held (b ∷ [])) bytes rest (more_stays held (b ∷ [])) (omega arith) in
    rw e (on ∙ ap (λ o. calls_from o rest) (more_twice held (b ∷ []) bytes)))

-- ---- The line so far behind them

pub after_join : (held : Option (List ℕ)) (xs ys : List ℕ) → line_after held (xs ++ ys) ≡ line_after (line_after held xs) ys
after_join held [] ys = refl
after_join held (b ∷ xs) ys = by_cases (is_newline b) (λ e. rw e (after_join (Some []) xs ys)) (λ e. rw e (after_join (more held (b ∷ [])) xs ys))

-- behind the first newline nothing has begun
after-newline : (held : Option (List ℕ)) (bytes : List ℕ) → position_or_len is_newline bytes < length bytes
    → line_after held (take (suc (position_or_len is_newline bytes)) bytes) ≡ Some []
after-newline held [] h = absurd (omega arith)
after-newline held (b ∷ bytes) h =
    by_cases (is_newline b)
    (λ e. rw (first_here b bytes e, e))
    (λ e. let later = first_later b bytes e in rw (later, e) (after-newline (more held (b ∷ [])) bytes (omega arith)))

-- without one the line goes on
after_none : (held : Option (List ℕ)) (bytes : List ℕ) → Kept held → length bytes ≤ position_or_len is_newline bytes → line_after held bytes ≡ more held bytes
after_none held [] k h = sym k
after_none held (b ∷ bytes) k h =
    by_cases (is_newline b)
    (λ e. absurd (omega (arith, first_here b bytes e)))
    (λ e.
    let later = first_later b bytes e in
    rw e (after_none (more held (b ∷ [])) bytes (more_stays held (b ∷ [])) (omega arith) ∙ more_twice held (b ∷ []) bytes))

-- ---- A chunk from a place on

module _ (chunk : List ℕ) (at : ℕ) (held : Option (List ℕ)) where
  pub next_ends : line_end chunk at < length chunk → next_line chunk at held ≡ Some (ended_at chunk at (line_end chunk at) held)
  unfolding next_line
  next_ends h = rw (lt-ltb _ _ h)

  pub next_used : length chunk ≤ line_end chunk at → next_line chunk at held ≡ None
  unfolding next_line
  next_used h = rw (le-ltb _ _ h)

  -- a place past the chunk
  pub next_past : length chunk < at → next_line chunk at held ≡ None
  next_past h = next_used (omega arith)

  -- what is answered by the place of the newline that the code finds in the rest of the chunk
  module _ (rest : List ℕ) (is : rest ≡ slice_range chunk at (length chunk)) where
    rest-all : rest ≡ drop at chunk
    rest-all = is ∙ take_all (length chunk - at) (drop at chunk) (rw length-drop (omega arith))

    position_told : std.position is_newline rest ≡ cond (ltb (line_end chunk at) (length chunk)) (Some (position_or_len is_newline (drop at chunk))) None
    position_told =
        rw rest-all
        (by_cases (ltb (position_or_len is_newline (drop at chunk)) (length (drop at chunk)))
        (λ e. rw (e, lt-ltb (line_end chunk at) (length chunk) (omega (arith, ltb-true _ _ e, length-drop at chunk))))
        (λ e. rw (e, le-ltb (line_end chunk at) (length chunk) (omega (arith, ltb-false _ _ e, length-drop at chunk)))))

    pub next_nothing : None ≡ std.position is_newline rest → None ≡ next_line chunk at held
    unfolding next_line
    next_nothing found = by (ltb (line_end chunk at) (length chunk)) (found ∙ position_told) where
      by : (t : Bool) → None ≡ cond t (Some (position_or_len is_newline (drop at chunk))) None → None ≡ cond t (Some (ended_at chunk at (line_end chunk at) held)) None
      by true e = none-some e
      by false e = refl

    pub next_answer : (size : ℕ) (call : Option Call) → Some size ≡ std.position is_newline rest → call ≡ said (more held (take size rest))
        → Some (record { call = call; next = at + size + 1 }) ≡ next_line chunk at held
    unfolding next_line
    next_answer size call found says = by (ltb (line_end chunk at) (length chunk)) (found ∙ position_told) where
      by : (t : Bool) → Some size ≡ cond t (Some (position_or_len is_newline (drop at chunk))) None
          → Some (record { call = call; next = at + size + 1 }) ≡ cond t (Some (ended_at chunk at (line_end chunk at) held)) None
      by true e =
          let same : size ≡ position_or_len is_newline (drop at chunk) = some_equal e in
          let back : at + position_or_len is_newline (drop at chunk) - at ≡ position_or_len is_newline (drop at chunk) = omega arith in
          rw (says, rest-all, same, back)
      by false e = none-some {y = size} (sym e)

  -- what an answer tells of the line's end
  told_line : (e : Ended) → Some e ≡ next_line chunk at held → (line_end chunk at < length chunk) × (e ≡ ended_at chunk at (line_end chunk at) held)
  told_line e h =
      by_cases (ltb (line_end chunk at) (length chunk))
      (λ t. let g = ltb-true _ _ t in (g, some_equal (h ∙ next_ends g)))
      (λ t. none-some (sym (next_used (ltb-false _ _ t)) ∙ sym h))

  told_used : None ≡ next_line chunk at held → length chunk ≤ line_end chunk at
  told_used h =
      by_cases (ltb (line_end chunk at) (length chunk))
      (λ t. none-some (h ∙ next_ends (ltb-true _ _ t)))
      (λ t. ltb-false _ _ t)

  module _ (k : Kept held) (rest : List ℕ) where
    ends_here : line_end chunk at < length chunk
        → calls_from held (drop at chunk ++ rest)
        ≡ said (more held (part chunk at (line_end chunk at))) ∷ calls_from (Some []) (drop (line_end chunk at + 1) chunk ++ rest)
    ends_here h =
        let place = position_or_len is_newline (drop at chunk) in
        let back : at + place - at ≡ place = omega arith in
        let behind : at + suc place ≡ at + place + 1 = omega arith in
        newline_in held (drop at chunk) rest k (omega (arith, length-drop at chunk)) ∙ rw (back, drop-drop (suc place) at chunk, behind)

    ends_so : (e : Ended) → Some e ≡ next_line chunk at held
        → calls_from held (drop at chunk ++ rest) ≡ e.call ∷ calls_from (Some []) (drop e.next chunk ++ rest)
    ends_so e h = let t = told_line e h in rw t.1 (ends_here t.0)

    goes_on : None ≡ next_line chunk at held → calls_from held (drop at chunk ++ rest) ≡ calls_from (more held (drop at chunk)) rest
    goes_on h = no_newline_in held (drop at chunk) rest k (omega (arith, told_used h, length-drop at chunk))

-- ---- For a loop over a chunk: what the contracts of `next_line` and `carried` say of the calls that are left
module _ (chunk : List ℕ) (at : ℕ) (carry : Carry) where
  -- a line's end is behind the place, and in the chunk
  pub line_moves : (line : Line) → shown (Some line) ≡ next_line chunk at (begun carry) → (at < line.at) × (line.at ≤ length chunk)
  line_moves line h =
      let t = told_line chunk at (begun carry) (record { call = meaning line.call; next = line.at }) h in
      let n = ap (λ (x : Ended). x.next) t.1 in
      (omega (arith, t.0), omega (arith, t.0))

  -- its call is the first, and the others are those from the place behind it
  pub line_ends : (line : Line) (rest : List ℕ) → shown (Some line) ≡ next_line chunk at (begun carry)
      → calls_from (begun carry) (drop at chunk ++ rest) ≡ meaning line.call ∷ calls_from (Some []) (drop line.at chunk ++ rest)
  line_ends line rest h = ends_so chunk at (begun carry) (begun_kept carry) rest (record { call = meaning line.call; next = line.at }) h

  -- the chunk is used up: they are those from the line so far
  pub line_goes_on : (held : Carry) (rest : List ℕ) → shown None ≡ next_line chunk at (begun carry) → begun held ≡ more (begun carry) (drop at chunk)
      → calls_from (begun carry) (drop at chunk ++ rest) ≡ calls_from (begun held) rest
  line_goes_on held rest h e = goes_on chunk at (begun carry) (begun_kept carry) rest h ∙ ap (λ o. calls_from o rest) (sym e)

  -- what is held, from a line so far at the chunk's start: nothing behind a line's end
  pub line_after_lem : (line : Line) → shown (Some line) ≡ next_line chunk at (begun carry) → (start : Option (List ℕ))
      → line_after start (take line.at chunk) ≡ Some []
  line_after_lem line h start =
      let t = told_line chunk at (begun carry) (record { call = meaning line.call; next = line.at }) h in
      let place = position_or_len is_newline (drop at chunk) in
      let n : line.at ≡ at + suc place = ap (λ (x : Ended). x.next) t.1 ∙ omega arith in
      rw (n, take-add at (suc place) chunk)
      (after_join start (take at chunk) (take (suc place) (drop at chunk))
      ∙ after-newline (line_after start (take at chunk)) (drop at chunk) (omega (arith, t.0, length-drop at chunk)))

  -- and at the chunk's end the rest of it behind what was held
  pub used_after : shown None ≡ next_line chunk at (begun carry) → (start : Option (List ℕ)) → begun carry ≡ line_after start (take at chunk)
      → more (begun carry) (drop at chunk) ≡ line_after start chunk
  used_after h start e =
      let past = told_used chunk at (begun carry) h in
      sym (after_none (begun carry) (drop at chunk) (begun_kept carry) (omega (arith, past, length-drop at chunk)))
      ∙ ap (λ (o : Option (List ℕ)). line_after o (drop at chunk)) e
      ∙ sym (after_join start (take at chunk) (drop at chunk))
      ∙ ap (line_after start) (take-append-drop at chunk)
