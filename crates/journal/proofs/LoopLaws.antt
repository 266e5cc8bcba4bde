-- The loop around the dialogue is a session: each of its turns is a feed, and its last one is the input's end.
use Prim.Native.Nat.{ℕ, zero, suc, ◌+◌, ◌≤◌, ◌<◌}
use native.Mathlib.Omega.{arith}
use borrow.Author.Tests.{leb-true, eqb-true, eqb-false, eq-eqb, ne_eqb}
use mathlib.Core.Path.{◌≡◌, refl, ap, sym, subst, subst⁻¹, ◌∙◌}
use mathlib.Core.Bool.{Bool, true, false}
use Rattle.std.specs.Prelude.{Option, None, Some, Ok}
use mathlib.Core.List.{List, [], ◌∷◌, ◌++◌, append-nil}
use lib.Dec.{leb, eqb}
use lib.ListN.{length, length-drop, take, drop, drop_of_length-le}
use lib.Seq.{drop-drop, drop-nil}
use Rattle.lists.proofs.BoolLaws.{by_cases, both_ways}
use Rattle.model.specs.State.{Call, report, cycle, outcome}
use Rattle.reading.specs.declared.Spoken.{Spoken}
use Rattle.reading.specs.declared.Spoken.TheVariants.{Report, Cycle, Outcome}
use Rattle.reading.specs.Spoken.{meaning}
use Rattle.printing.specs.LineText.{newline, most_line}
use Rattle.stream.specs.declared.Carry.{Carry}
use Rattle.stream.specs.Carried.{begun}
use Rattle.stream.specs.Calls.{at_end, calls_from, line_after}
use Rattle.load.specs.declared.Agent.{Agent}
use Rattle.load.specs.Load.{Loads}
use Rattle.agent.specs.declared.feed.Fed.{Fed}
use Rattle.agent.specs.Feed.{Feeds}
use Rattle.dialogue.specs.declared.Dialogue.{Dialogue}
use Rattle.dialogue.specs.declared.Next.{Next}
use Rattle.dialogue.specs.declared.Next.TheVariants.{Read, Answer, End}
use Rattle.dialogue.specs.Dialogue.{Begins, is_end, closing, chunk_by, next_in, next_at_end, after_by, TurnsBy}
use Rattle.journal.specs.Session.{Session, feeds, stops, ends}
use Rattle.journal.specs.Output.{printed_for}
use Rattle.journal.specs.Loop.{TurnWrites, Loop, over, reads, turns}
use Rattle.journal.proofs.SessionLaws.{nothing_in}
use Rattle.journal.proofs.PieceLaws.{none-ended, feed_reads, newline-read}
use Rattle.journal.proofs.OutputLaws.{session_printed}

-- ---- What is next

-- whether the input's end is answered
abbrev ended : Next → Bool
ended End = true
ended next = false

-- whether what is left of a piece is to be answered
abbrev answers : Next → Bool
answers Answer = true
answers next = false

-- what of a piece's rest is to be answered
abbrev left_by : Next → List ℕ → List ℕ
left_by Answer rest = rest
left_by next rest = []

-- ---- A turn on a piece

-- what is left of the piece read last
left_in : Dialogue → List ℕ → List ℕ
left_in d piece = left_by d.next (drop d.at piece)

-- a turn on a piece does not answer the input's end
not_ended : (used : Bool) → ended (next_in used) ≡ false
unfolding next_in
not_ended true = refl
not_ended false = refl

-- a used place has nothing behind it
nothing_behind : (piece : List ℕ) (at : ℕ) → left_by (next_in (leb (length piece) at)) (drop at piece) ≡ drop at piece
unfolding next_in
nothing_behind piece at =
    by_cases (leb (length piece) at)
    (λ e. rw e (sym (drop_of_length-le piece (leb-true (length piece) at e))))
    (λ e. rw e)

module _ (d : Dialogue) (piece rest output : List ℕ) (b : Agent) where
  -- it is a feed of what is left of the piece
  piece_feed : {before after : List ℕ} (written : List ℕ) (fed : Fed) → Feeds d.agent d.carry (drop d.at piece) before after fed
      → written ≡ take fed.wrote after
      → Session fed.agent fed.carry (left_by (next_in (leb (length piece) (d.at + fed.read))) (drop (d.at + fed.read) piece) ++ rest) output b
      → Session d.agent d.carry (drop d.at piece ++ rest) (written ++ output) b
  piece_feed {before} {after} written fed f first s =
      feeds (drop d.at piece) rest written fed (record { before = before; after = after; feeds = f; first = first })
      (subst (λ (left : List ℕ). Session fed.agent fed.carry (left ++ rest) output b)
      (nothing_behind piece (d.at + fed.read) ∙ sym (drop-drop fed.read d.at piece)) s)

  -- behind it the dialogue goes on
  piece_turn : {r : Dialogue} {written : List ℕ} → is_end piece ≡ false → TurnWrites d piece written r
      → (ended r.next ≡ false → Session r.agent r.carry (left_in r piece ++ rest) output b)
      → Session d.agent d.carry (drop d.at piece ++ rest) (written ++ output) b
  unfolding chunk_by after_by left_in
  piece_turn {r} {written} full w next =
      let t = subst (λ (end : Bool). TurnsBy end d piece w.before w.after r) full w.turn in
      subst⁻¹ (λ (x : Dialogue). written ≡ take x.wrote w.after
      → (ended x.next ≡ false → Session x.agent x.carry (left_in x piece ++ rest) output b)
      → Session d.agent d.carry (drop d.at piece ++ rest) (written ++ output) b)
      t.gives (λ first s. piece_feed written t.fed t.feeds first (s (not_ended (leb (length piece) (d.at + t.fed.read))))) w.first next

-- ---- The input's end

-- a call as a line tells it
abbrev spoken_for : Option Call → Option Spoken
spoken_for None = None
spoken_for (Some (report kind literal)) = Some (Report kind literal)
spoken_for (Some cycle) = Some Cycle
spoken_for (Some (outcome id worked)) = Some (Outcome id worked)

spoken_for_lem : (call : Option Call) → meaning (spoken_for call) ≡ call
spoken_for_lem (Some cycle) = refl
spoken_for_lem call = refl

-- a feed that has read nothing is a feed of no bytes
unread_feed : {a : Agent} {carry : Carry} {chunk before after : List ℕ} {r : Fed} → Feeds a carry chunk before after r → r.read ≡ 0
    → Feeds a carry [] before after r
unread_feed {a} {carry} {chunk} {before} {after} {r} f e =
    let same : begun r.carry ≡ begun carry = f.so_far ∙ ap (λ (n : ℕ). line_after (begun carry) (take n chunk)) e in
    let quiet : f.calls ≡ [] = nothing_in f.calls (none-ended f e) in
    record {
      calls = f.calls;
      text = f.text;
      said = λ rest.
          sym (ap (λ (xs : List (Option Call)). xs ++ calls_from (begun r.carry) (drop r.read [] ++ rest)) quiet
          ∙ ap (λ (xs : List ℕ). calls_from (begun r.carry) (xs ++ rest)) (drop-nil r.read)
          ∙ ap (λ (held : Option (List ℕ)). calls_from held rest) same);
      journal = f.journal;
      written = f.written;
      roomy = f.roomy;
      so_far = same ∙ sym (ap (λ (n : ℕ). line_after (begun carry) (take n [])) e);
      within = omega (arith, e);
      room = f.room;
      whole = λ unread. absurd (omega arith);
      stops = f.stops;
    }

at_most_one : (held : Option (List ℕ)) → length (at_end held) ≤ 1
at_most_one (Some []) = omega arith
at_most_one held = omega arith

not_one : (n : ℕ) → n ≤ 1 → (n ≡ 1 → ⊥) → n ≡ 0
not_one zero h other = refl
not_one (suc n) h other = absurd (other (omega (arith, h)))

module _ (d : Dialogue) (output : List ℕ) (b : Agent) {written before after : List ℕ} (fed : Fed) (first : written ≡ take fed.wrote after) where
  -- a feed of no bytes, and what comes behind it
  end_unmoved : Feeds d.agent d.carry [] before after fed → Session fed.agent fed.carry [] output b
      → Session d.agent d.carry [] (written ++ output) b
  end_unmoved f s =
      feeds [] [] written fed (record { before = before; after = after; feeds = f; first = first })
      (subst⁻¹ (λ (xs : List ℕ). Session fed.agent fed.carry (xs ++ []) output b) (drop-nil fed.read) s)

  -- no line has begun: nothing is left to be said
  end_quiet : [] ≡ at_end (begun d.carry) → Feeds d.agent d.carry [] before after fed → output ≡ [] → b ≡ fed.agent
      → Session d.agent d.carry [] (written ++ output) b
  end_quiet e f silent last =
      let read : fed.read ≡ 0 = omega (arith, f.within) in
      let still : [] ≡ at_end (begun fed.carry)
      = e ∙ ap at_end (sym (f.so_far ∙ ap (λ (n : ℕ). line_after (begun d.carry) (take n [])) read)) in
      end_unmoved f (subst⁻¹ (λ (xs : List ℕ). Session fed.agent fed.carry [] xs b) silent
      (subst⁻¹ (λ (x : Agent). Session fed.agent fed.carry [] [] x) last (stops still)))

  -- a line has begun, and the newline that ends it is read
  end_line : (call : Option Call) → call ∷ [] ≡ at_end (begun d.carry) → Feeds d.agent d.carry (newline ∷ []) before after fed
      → fed.read ≡ 1 → output ≡ [] → b ≡ fed.agent → Session d.agent d.carry [] (written ++ output) b
  end_line call e f read silent last =
      subst⁻¹ (λ (xs : List ℕ). Session d.agent d.carry [] (written ++ xs) b) silent
      (subst⁻¹ (λ (xs : List ℕ). Session d.agent d.carry [] xs b) (append-nil written)
      (subst⁻¹ (λ (x : Agent). Session d.agent d.carry [] written x) last
      (ends (spoken_for call) (ap (λ (c : Option Call). c ∷ []) (spoken_for_lem call) ∙ e) written fed
      (record { before = before; after = after; feeds = f; first = first }) read)))

  -- the input's end, by the line that it ends: it is answered, or there was no room for the answer
  end-feed : (calls : List (Option Call)) → calls ≡ at_end (begun d.carry) → Feeds d.agent d.carry (closing calls) before after fed
      → (eqb fed.read (length (closing calls)) ≡ false → Session fed.agent fed.carry [] output b)
      → (eqb fed.read (length (closing calls)) ≡ true → (output ≡ []) × (b ≡ fed.agent))
      → Session d.agent d.carry [] (written ++ output) b
  unfolding closing
  end-feed [] e f next last =
      let all = last (eq-eqb fed.read 0 (omega (arith, f.within))) in
      end_quiet e f all.0 all.1
  end-feed (call ∷ []) e f next last =
      by_cases (eqb fed.read 1)
      (λ p. end_line call e f (eqb-true fed.read 1 p) (last p).0 (last p).1)
      (λ p. end_unmoved (unread_feed f (not_one fed.read f.within (eqb-false fed.read 1 p))) (next p))
  end-feed (call ∷ more ∷ calls) e f next last =
      let two : length (call ∷ more ∷ calls) ≡ length (at_end (begun d.carry)) = ap length e in
      absurd (omega (arith, two, at_most_one (begun d.carry)))

-- the turn at the input's end
end-turn : (d : Dialogue) (output : List ℕ) (b : Agent) {r : Dialogue} {piece written : List ℕ} → is_end piece ≡ true → TurnWrites d piece written r
    → (r.next ≡ Read → Session r.agent r.carry [] output b) → (r.next ≡ End → (output ≡ []) × (b ≡ r.agent))
    → Session d.agent d.carry [] (written ++ output) b
unfolding chunk_by next_at_end after_by
end-turn d output b {r} {piece} {written} end w next last =
    let t = subst (λ (x : Bool). TurnsBy x d piece w.before w.after r) end w.turn in
    subst⁻¹ (λ (x : Dialogue). written ≡ take x.wrote w.after
    → (x.next ≡ Read → Session x.agent x.carry [] output b) → (x.next ≡ End → (output ≡ []) × (b ≡ x.agent))
    → Session d.agent d.carry [] (written ++ output) b)
    t.gives (λ first s e. end-feed d output b t.fed first (at_end (begun d.carry)) refl t.feeds (λ p. s (ap next_at_end p)) (λ p. e (ap next_at_end p))) w.first next last

-- ---- The loop

-- once the input's end is answered nothing more is written
loop_over : {d e : Dialogue} {piece rest output : List ℕ} → Loop d piece rest output e → d.next ≡ End → (output ≡ []) × (e.agent ≡ d.agent)
loop_over (over end) done = (refl, refl)
loop_over (reads piece next end more) done = both_ways (ap ended done) (ap ended next)
loop_over (turns written r next w more) done = both_ways (ap ended done) (ap ended next)

-- where a piece of no bytes is to be answered the input is at its end
abbrev AtEnd : Dialogue → List ℕ → List ℕ → Type 0
AtEnd d piece rest = d.next ≡ Answer → is_end piece ≡ true → rest ≡ []

-- from where the loop stands, with what is left of the piece before what is not read yet
loop_from : {d e : Dialogue} {piece rest output : List ℕ} → Loop d piece rest output e → ended d.next ≡ false → AtEnd d piece rest
    → Session d.agent d.carry (left_in d piece ++ rest) output e.agent
unfolding left_in
loop_from (over done) not_yet end = both_ways (ap ended done) not_yet
loop_from (reads {rest = rest} {output = output} piece next end more) not_yet _ =
    rw next (loop_from more refl (λ left. end))
loop_from {d} {e} {piece} {rest} (turns {output = output} written r next w more) not_yet end =
    rw next (by_cases (is_end piece)
    (λ no_bytes. let empty : piece ≡ [] = nothing_in piece (eqb-true (length piece) 0 no_bytes) in
    let input : drop d.at piece ++ rest ≡ [] = ap (λ (xs : List ℕ). drop d.at xs ++ rest) empty ∙ ap (λ (xs : List ℕ). xs ++ rest) (drop-nil d.at) ∙ end next no_bytes in
    subst⁻¹ (λ (xs : List ℕ). Session d.agent d.carry xs (written ++ output) e.agent) input
    (end-turn d output e.agent no_bytes w
    (λ again. subst (λ (xs : List ℕ). Session r.agent r.carry xs output e.agent)
    (ap (λ (n : Next). left_by n (drop r.at piece) ++ rest) again ∙ end next no_bytes)
    (loop_from more (ap ended again) (λ still. both_ways (ap answers still) (ap answers again)))) (loop_over more)))
    (λ full. piece_turn d piece rest output e.agent full w (λ again. loop_from more again (λ _ no_bytes. both_ways no_bytes full))))

-- the loop from a dialogue that begins is a session of its agent
pub loop_session : {a : Agent} {d e : Dialogue} {input output : List ℕ} → Begins a d → Loop d [] input output e → Session a d.carry input output e.agent
unfolding left_in
loop_session {a} {d} {e} {input} {output} b loop =
    subst (λ (x : Agent). Session x d.carry input output e.agent) b.agent
    (subst (λ (n : Next). Session d.agent d.carry (left_by n (drop d.at []) ++ input) output e.agent) b.next
    (loop_from loop (ap ended b.next) (λ left. both_ways (ap answers left) (ap answers b.next))))

-- on an agent that load gives it prints what the definition computes
pub loop_printed : (bytes : List ℕ) (l : Agent) → Loads bytes (Ok l) → {d e : Dialogue} {input output : List ℕ}
    → Begins l d → Loop d [] input output e → output ≡ printed_for bytes input
loop_printed bytes l loads b loop = session_printed bytes l loads b.silent (loop_session b loop)

-- ---- It ends

-- with room for the longest line a turn uses some of its piece
pub turn_moves : {d r : Dialogue} {piece written : List ℕ} (w : TurnWrites d piece written r) → most_line ≤ length w.before → d.at < length piece
    → d.at < r.at
unfolding chunk_by after_by
turn_moves {d} {r} {piece} w room left =
    let t = subst (λ (x : Bool). TurnsBy x d piece w.before w.after r) (ne_eqb (length piece) 0 (λ e. absurd (omega (arith, e, left)))) w.turn in
    let some_left : 0 < length (drop d.at piece) = simp length-drop (omega arith) in
    let read : 0 < t.fed.read = feed_reads t.feeds room some_left in
    let place : r.at ≡ d.at + t.fed.read = ap (λ (x : Dialogue). x.at) t.gives in
    omega (arith, read, place)

-- all that the input's end adds is read
closed-read : {a : Agent} {carry : Carry} {before after : List ℕ} {r : Fed} (calls : List (Option Call)) → Feeds a carry (closing calls) before after r
    → most_line ≤ length before → r.read ≡ length (closing calls)
unfolding closing
closed-read [] f room = omega (arith, f.within)
closed-read (call ∷ calls) f room = newline-read f room

-- and a turn at the input's end answers it
pub end-answered : {d r : Dialogue} {piece written : List ℕ} (w : TurnWrites d piece written r) → most_line ≤ length w.before → is_end piece ≡ true
    → r.next ≡ End
unfolding chunk_by next_at_end after_by
end-answered {d} {r} {piece} w room end =
    let t = subst (λ (x : Bool). TurnsBy x d piece w.before w.after r) end w.turn in
    ap (λ (x : Dialogue). x.next) t.gives ∙ ap next_at_end (eq-eqb t.fed.read _ (closed-read (at_end (begun d.carry)) t.feeds room))
