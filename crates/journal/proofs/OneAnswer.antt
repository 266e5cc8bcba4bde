-- The contract of `feed` allows one answer: of two, neither has read more than the other.
use Prim.Native.Nat.{ℕ, ◌+◌, ◌-◌, ◌≤◌, ◌<◌}
use native.Mathlib.Omega.{arith}
use mathlib.Core.Path.{◌≡◌, refl, ap, sym, ◌∙◌}
use mathlib.Core.Bool.{cond}
use mathlib.Core.Logic.{◌⊎◌, inl, inr, ⊎_elim}
use Rattle.std.specs.Prelude.{Option, None, Some}
use mathlib.Core.List.{List, [], ◌∷◌, ◌++◌, append-nil, append_assoc, append_cancel_right}
use lib.Dec.{ltb, leb, eqb}
use lib.ListN.{length, take, drop, get_or, length-append, length-take, length-drop, take-append-drop, get_or-append}
use lib.Seq.{take-add, length-sets, get_or-append_seam, get_or-append-add}
use borrow.Author.Tests.{ltb-true, ltb-false, leb-true, leb-false}
use Rattle.lists.proofs.BoolLaws.{by_cases, both_ways}
use Rattle.lists.proofs.AllLaws.{none_at}
use Rattle.lists.proofs.OptionLaws.{some_equal, none-some}
use Rattle.model.specs.State.{AgentState, Call, Reply}
use Rattle.model.specs.Lines.{line_of}
use Rattle.state.specs.View.{view_state}
use Rattle.printing.specs.LineText.{newline, result_text, most_line, IsLine}
use Rattle.printing.proofs.LineLaws.{one_newline}
use Rattle.reading.specs.Call.{most_line as mostRead}
use Rattle.stream.specs.declared.Carry.{Carry}
use Rattle.stream.specs.Lines.{is_newline}
use Rattle.stream.specs.Carried.{kept, begun, more, said}
use Rattle.stream.specs.Calls.{calls_from, line_after}
use Rattle.stream.proofs.ChunkLaws.{after_join}
use Rattle.load.specs.declared.Agent.{Agent}
use Rattle.agent.specs.declared.feed.Fed.{Fed}
use Rattle.agent.specs.Feed.{Journal, start, unread, answered, Roomy, silent, roomy, Feeds}
use Rattle.journal.specs.Output.{answers_by}
use Rattle.journal.specs.OneAnswer.{Same}
use Rattle.journal.proofs.OutputLaws.{state_by, reply_of, journal_computed, journal-state}

-- ---- The lines that end in some bytes

abbrev calls_in : Option (List ℕ) → List ℕ → List (Option Call)
calls_in held [] = []
calls_in held (b ∷ bytes) = cond (is_newline b) (said held ∷ calls_in (Some []) bytes) (calls_in (more held (b ∷ [])) bytes)

calls_split : (held : Option (List ℕ)) (xs ys : List ℕ) → calls_from held (xs ++ ys) ≡ calls_in held xs ++ calls_from (line_after held xs) ys
calls_split held [] ys = refl
calls_split held (b ∷ xs) ys =
    by_cases (is_newline b)
    (λ e. rw e (ap (λ (calls : List (Option Call)). said held ∷ calls) (calls_split (Some []) xs ys)))
    (λ e. rw e (calls_split (more held (b ∷ [])) xs ys))

calls_join : (held : Option (List ℕ)) (xs ys : List ℕ) → calls_in held (xs ++ ys) ≡ calls_in held xs ++ calls_in (line_after held xs) ys
calls_join held [] ys = refl
calls_join held (b ∷ xs) ys =
    by_cases (is_newline b)
    (λ e. rw e (ap (λ (calls : List (Option Call)). said held ∷ calls) (calls_join (Some []) xs ys)))
    (λ e. rw e (calls_join (more held (b ∷ [])) xs ys))

-- a line that goes on is not empty
more_begun : (held : Option (List ℕ)) (b : ℕ) → more held (b ∷ []) ≡ Some [] → ⊥
unfolding kept
more_begun None b e = none-some e
more_begun (Some line) b e =
    by_cases (leb (length (line ++ (b ∷ []))) mostRead)
    (λ p. let none_left = ap length (some_equal (rw p at e)) in absurd (omega (arith, length-append line (b ∷ []), none_left)))
    (λ p. none-some (rw p at e))

-- so where no line ends in some bytes, one has begun behind them
none_ends : (held : Option (List ℕ)) (bytes : List ℕ) → (held ≡ Some [] → ⊥) → calls_in held bytes ≡ [] → line_after held bytes ≡ Some [] → ⊥
none_ends held [] has c e = has e
none_ends held (b ∷ bytes) has c e =
    by_cases (is_newline b)
    (λ n. let one = ap length (rw n at c) in absurd (omega (arith, one)))
    (λ n. none_ends (more held (b ∷ [])) bytes (more_begun held b) (rw n at c) (rw n at e))

stays_begun : (held : Option (List ℕ)) (bytes : List ℕ) → 0 < length bytes → calls_in held bytes ≡ [] → line_after held bytes ≡ Some [] → ⊥
stays_begun held [] h c e = absurd (omega (arith, h))
stays_begun held (b ∷ bytes) h c e =
    by_cases (is_newline b)
    (λ n. let one = ap length (rw n at c) in absurd (omega (arith, one)))
    (λ n. none_ends (more held (b ∷ [])) bytes (more_begun held b) (rw n at c) (rw n at e))

-- ---- The text of their answers

-- nothing, or it ends with a newline
abbrev EndsLine : List ℕ → Type 0
EndsLine text = (text ≡ []) ⊎ ((body : List ℕ) × (text ≡ body ++ (newline ∷ [])))

module _ (reply : AgentState → Option Call → Reply) where
  answers_join : (s : AgentState) (xs ys : List (Option Call))
      → answers_by reply s (xs ++ ys) ≡ answers_by reply s xs ++ answers_by reply (state_by reply s xs) ys
  unfolding answers_by
  answers_join s [] ys = refl
  answers_join s (x ∷ xs) ys =
      let line = result_text (reply s x).result in
      let next = (reply s x).state in
      ap (λ (text : List ℕ). line ++ text) (answers_join next xs ys)
      ∙ sym (append_assoc line (answers_by reply next xs) (answers_by reply (state_by reply next xs) ys))

  answers-end : (s : AgentState) (calls : List (Option Call)) → EndsLine (answers_by reply s calls)
  unfolding answers_by
  answers-end s [] = inl refl
  answers-end s (x ∷ xs) =
      let result = (reply s x).result in
      let line = result_text result in
      let l : IsLine line = one_newline (line_of result) in
      ⊎_elim
      (λ e. inr (l.body, ap (λ (text : List ℕ). line ++ text) e ∙ append-nil line ∙ l.ends))
      (λ e. inr (line ++ e.0, ap (λ (text : List ℕ). line ++ text) e.1 ∙ sym (append_assoc line e.0 (newline ∷ []))))
      (answers-end (reply s x).state xs)

-- no text that ends with a newline ends within a line
within_line : (text line front back : List ℕ) → IsLine line → text ++ line ≡ front ++ back → 0 < length back → length text < length front
    → EndsLine front → ⊥
within_line text line front back l e h past (inl none_yet) = let size = ap length none_yet in absurd (omega (arith, size, past))
within_line text line front back l e h past (inr (body, ends)) =
    let whole : text ++ (l.body ++ (newline ∷ [])) ≡ body ++ (newline ∷ back)
    = sym (ap (λ (x : List ℕ). text ++ x) l.ends) ∙ e ∙ ap (λ (x : List ℕ). x ++ back) ends ∙ append_assoc body (newline ∷ []) back in
    let place = length body - length text in
    let sizes = ap length whole in
    let left = length-append text (l.body ++ (newline ∷ [])) in
    let line-size = length-append l.body (newline ∷ []) in
    let right = length-append body (newline ∷ back) in
    let front-size = ap length ends ∙ length-append body (newline ∷ []) in
    let at : length text + place ≡ length body = omega (arith, past, front-size) in
    let low : place < length l.body = omega (arith, past, front-size, sizes, left, line-size, right, h) in
    let byte : get_or l.body place 0 ≡ newline
    = sym (get_or-append l.body (newline ∷ []) 0 place low)
    ∙ sym (get_or-append-add text (l.body ++ (newline ∷ [])) place 0)
    ∙ ap (λ (n : ℕ). get_or (text ++ (l.body ++ (newline ∷ []))) n 0) at
    ∙ ap (λ (x : List ℕ). get_or x (length body) 0) whole
    ∙ get_or-append_seam body newline back 0 in
    both_ways (ap (eqb newline) byte) (none_at (eqb newline) l.body place 0 l.once low)

-- where more answers follow a text, the first of them began where there was room
rooms : (size : ℕ) {text : List ℕ} → Roomy size text → (front back : List ℕ) → text ≡ front ++ back → 0 < length back → EndsLine front
    → length front + most_line ≤ size
rooms size silent front back e h ends = let n = ap length e ∙ length-append front back in absurd (omega (arith, n, h))
rooms size (roomy text result room) front back e h ends =
    by_cases (leb (length front) (length text))
    (λ p. omega (arith, leb-true (length front) (length text) p, room))
    (λ p. absurd (within_line text (result_text result) front back (one_newline (line_of result)) e h (leb-false (length front) (length text) p) ends))

-- ---- A journal

abbrev answers : Agent → List (Option Call) → List ℕ
answers a calls = answers_by (reply_of a) (view_state a.state) calls

-- a call leaves the library alone
library_kept : {a b : Agent} {calls : List (Option Call)} {text : List ℕ} → Journal a calls text b → (b.library ≡ a.library) × (b.length ≡ a.length)
library_kept start = (refl, refl)
library_kept (unread j) = library_kept j
library_kept (answered j c r h fit) = let k = library_kept j in (h.library ∙ k.0, h.length ∙ k.1)

-- ---- Two answers

module _ {a : Agent} {carry : Carry} {chunk before : List ℕ} where
  module _ {after : List ℕ} {r : Fed} (f : Feeds a carry chunk before after r) where
    same_size : length after ≡ length before
    same_size = ap length f.written.bytes ∙ length-sets before 0 f.text

    -- the lines run are those that end in what was read
    ended : f.calls ≡ calls_in (begun carry) (take r.read chunk)
    ended =
        let rest = drop r.read chunk ++ [] in
        append_cancel_right f.calls (calls_in (begun carry) (take r.read chunk)) (calls_from (begun r.carry) rest)
        (sym (f.said [])
        ∙ ap (λ (l : List ℕ). calls_from (begun carry) (l ++ [])) (sym (take-append-drop r.read chunk))
        ∙ ap (calls_from (begun carry)) (append_assoc (take r.read chunk) (drop r.read chunk) [])
        ∙ calls_split (begun carry) (take r.read chunk) rest
        ∙ ap (λ (o : Option (List ℕ)). calls_in (begun carry) (take r.read chunk) ++ calls_from o rest) (sym f.so_far))

    texts : f.text ≡ answers a f.calls
    texts = journal_computed f.journal

  module _ {after other : List ℕ} {r q : Fed} (f : Feeds a carry chunk before after r) (g : Feeds a carry chunk before other q) (less : r.read < q.read) where
    -- what the second has read beyond the first
    beyond : List ℕ
    beyond = take (q.read - r.read) (drop r.read chunk)

    parts : take q.read chunk ≡ take r.read chunk ++ beyond
    unfolding beyond
    parts =
        let n : q.read ≡ r.read + (q.read - r.read) = omega (arith, less) in
        ap (λ (m : ℕ). take m chunk) n ∙ take-add r.read (q.read - r.read) chunk

    some_beyond : 0 < length beyond
    unfolding beyond
    some_beyond =
        omega (arith, less, g.within, length-take (q.read - r.read) (drop r.read chunk), length-drop r.read chunk)

    calls_beyond : g.calls ≡ f.calls ++ calls_in (begun r.carry) beyond
    calls_beyond =
        ended g ∙ ap (calls_in (begun carry)) parts ∙ calls_join (begun carry) (take r.read chunk) beyond
        ∙ ap (λ (calls : List (Option Call)). calls ++ calls_in (line_after (begun carry) (take r.read chunk)) beyond) (sym (ended f))
        ∙ ap (λ (o : Option (List ℕ)). f.calls ++ calls_in o beyond) (sym f.so_far)

    held_beyond : begun q.carry ≡ line_after (begun r.carry) beyond
    held_beyond =
        g.so_far ∙ ap (line_after (begun carry)) parts ∙ after_join (begun carry) (take r.read chunk) beyond
        ∙ ap (λ (o : Option (List ℕ)). line_after o beyond) (sym f.so_far)

    full : length after < r.wrote + most_line
    full = f.whole (omega (arith, less, g.within))

    -- if no line ended there, the second had no room either, and should not have read on
    none_beyond : calls_in (begun r.carry) beyond ≡ [] → ⊥
    none_beyond c =
        let same : g.text ≡ f.text
        = texts g ∙ ap (answers a) (calls_beyond ∙ ap (λ (calls : List (Option Call)). f.calls ++ calls) c ∙ append-nil f.calls) ∙ sym (texts f) in
        let sizes = ap length same in
        let stop : length other < q.wrote + most_line
        = omega (arith, full, same_size f, same_size g, f.written.past, g.written.past, sizes) in
        ⊎_elim
        (λ z. absurd (omega (arith, less, z.0)))
        (λ z. stays_begun (begun r.carry) beyond some_beyond c (sym held_beyond ∙ z))
        (g.stops stop)

    -- and one that ended there was run without room
    some-ended : (c : Option Call) (cs : List (Option Call)) → calls_in (begun r.carry) beyond ≡ c ∷ cs → ⊥
    unfolding answers_by
    some-ended c cs e =
        let s = state_by (reply_of a) (view_state a.state) f.calls in
        let line = result_text (reply_of a s c).result in
        let l : IsLine line = one_newline (line_of (reply_of a s c).result) in
        let rest = answers_by (reply_of a) (reply_of a s c).state cs in
        let split : g.text ≡ f.text ++ (line ++ rest)
        = texts g ∙ ap (answers a) (calls_beyond ∙ ap (λ (calls : List (Option Call)). f.calls ++ calls) e)
        ∙ answers_join (reply_of a) (view_state a.state) f.calls (c ∷ cs)
        ∙ ap (λ (text : List ℕ). text ++ (line ++ rest)) (sym (texts f)) in
        let sizes = length-append line rest in
        let one = ap length l.ends ∙ length-append l.body (newline ∷ []) in
        let room = rooms (length before) g.roomy f.text (line ++ rest) split (omega (arith, sizes, one))
        (rw (texts f) (answers-end (reply_of a) (view_state a.state) f.calls)) in
        absurd (omega (arith, room, full, same_size f, f.written.past))

    not_behind : ⊥
    not_behind = go (calls_in (begun r.carry) beyond) refl
      where
        go : (calls : List (Option Call)) → calls_in (begun r.carry) beyond ≡ calls → ⊥
        go [] e = none_beyond e
        go (c ∷ cs) e = some-ended c cs e

  -- ---- So they are the same

  pub one_answer : {after other : List ℕ} {r q : Fed} → Feeds a carry chunk before after r → Feeds a carry chunk before other q → Same after other r q
  one_answer {after} {other} {r} {q} f g =
      let read : r.read ≡ q.read =
      by_cases (ltb r.read q.read)
      (λ p. absurd (not_behind f g (ltb-true r.read q.read p)))
      (λ p. by_cases (ltb q.read r.read)
      (λ t. absurd (not_behind g f (ltb-true q.read r.read t)))
      (λ t. omega (arith, ltb-false r.read q.read p, ltb-false q.read r.read t))) in
      let calls : f.calls ≡ g.calls = ended f ∙ ap (λ (n : ℕ). calls_in (begun carry) (take n chunk)) read ∙ sym (ended g) in
      let text : f.text ≡ g.text = texts f ∙ ap (answers a) calls ∙ sym (texts g) in
      let sizes = ap length text in
      record {
        read = read;
        wrote = omega (arith, f.written.past, g.written.past, sizes);
        bytes = f.written.bytes ∙ rw text (sym g.written.bytes);
        so_far = f.so_far ∙ ap (λ (n : ℕ). line_after (begun carry) (take n chunk)) read ∙ sym g.so_far;
        library = (library_kept f.journal).0 ∙ sym (library_kept g.journal).0;
        length = (library_kept f.journal).1 ∙ sym (library_kept g.journal).1;
        state = journal-state f.journal ∙ ap (state_by (reply_of a) (view_state a.state)) calls ∙ sym (journal-state g.journal);
      }
