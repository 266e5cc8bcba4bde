-- With room for the longest line a feed reads some of its piece: else it would have written an answer, and no line would have ended.
-- So a loop that feeds what is left of a piece ends.
use Prim.Native.Nat.{ℕ, zero, suc, ◌+◌, ◌≤◌, ◌<◌}
use native.Mathlib.Omega.{arith}
use mathlib.Core.Path.{◌≡◌, refl, ap, sym, ◌∙◌}
use Rattle.std.specs.Prelude.{Option, Some}
use mathlib.Core.List.{List, [], ◌∷◌, ◌++◌, map}
use lib.ListN.{length, length-append, drop}
use lib.Seq.{length-sets}
use Rattle.lists.specs.Counts.{count, each}
use Rattle.lists.proofs.BoolLaws.{by_cases}
use Rattle.model.specs.State.{Call}
use Rattle.stream.specs.declared.Carry.{Carry}
use Rattle.stream.specs.Lines.{is_newline}
use Rattle.stream.specs.Carried.{begun, more}
use Rattle.stream.specs.Calls.{calls_from}
use Rattle.printing.specs.LineText.{newline, most_line}
use Rattle.load.specs.declared.Agent.{Agent}
use Rattle.agent.specs.declared.feed.Fed.{Fed}
use Rattle.agent.specs.Chain.{Link}
use Rattle.agent.specs.Feed.{Journal, Feeds}
use Rattle.journal.specs.Answers.{call_in, text_of}
use Rattle.journal.proofs.AnswerLaws.{journal-chain}

-- an input that a newline ends has as many lines as newlines, whatever the line so far
lines-ended : (held : Option (List ℕ)) (input : List ℕ) → length (calls_from held (input ++ (newline ∷ []))) ≡ count is_newline input + 1
lines-ended held [] = refl
lines-ended held (b ∷ input) =
    by_cases (is_newline b)
    (λ e. let rest = lines-ended (Some []) input in rw e (omega (arith, rest)))
    (λ e. let rest = lines-ended (more held (b ∷ [])) input in rw e (omega (arith, rest)))

-- no lines have no text
no_text : (answers : List (Option Link)) → length (map call_in answers) ≡ 0 → length (each text_of answers) ≡ 0
no_text [] e = refl
no_text (x ∷ xs) e = absurd (omega (arith, e))

journal_empty : {a b : Agent} {calls : List (Option Call)} {text : List ℕ} → Journal a calls text b → length calls ≡ 0 → length text ≡ 0
journal_empty j e =
    let s = journal-chain j in
    sym (ap length s.printed) ∙ no_text s.answers (ap length s.lines ∙ e)

-- where nothing was read no line has ended
pub none-ended : {a : Agent} {carry : Carry} {piece before after : List ℕ} {r : Fed} (f : Feeds a carry piece before after r) → r.read ≡ 0
    → length f.calls ≡ 0
none-ended {a} {carry} {piece} {before} {after} {r} f e =
    let all = lines-ended (begun carry) piece in
    let left = lines-ended (begun r.carry) piece in
    let same : length (calls_from (begun carry) (piece ++ (newline ∷ []))) ≡ length f.calls + length (calls_from (begun r.carry) (piece ++ (newline ∷ [])))
    = ap length (f.said (newline ∷ []) ∙ ap (λ n. f.calls ++ calls_from (begun r.carry) (drop n piece ++ (newline ∷ []))) e)
    ∙ length-append f.calls (calls_from (begun r.carry) (piece ++ (newline ∷ []))) in
    omega (arith, all, left, same)

module _ {a : Agent} {carry : Carry} {piece before after : List ℕ} {r : Fed} (f : Feeds a carry piece before after r) (room : most_line ≤ length before) where
  -- nor was anything written, so there was nothing to read
  none_left : r.read ≡ 0 → (n : ℕ) → n ≡ length piece → length piece ≡ 0
  none_left e zero p = sym p
  none_left e (suc n) p =
      let text = journal_empty f.journal (none-ended f e) in
      let size : length after ≡ length before = ap length f.written.bytes ∙ length-sets before 0 f.text in
      let unread : r.read < length piece = omega (arith, p, e) in
      absurd (omega (arith, f.whole unread, f.written.past, text, size, room))

  -- some of a piece is read
  pub feed_reads : 0 < length piece → 0 < r.read
  feed_reads h = reads r.read refl
    where
      reads : (n : ℕ) → n ≡ r.read → 0 < r.read
      reads zero p = let None = none_left (sym p) (length piece) refl in absurd (omega (arith, None, h))
      reads (suc n) p = omega (arith, p)

-- so one feed reads the newline at the input's end
pub newline-read : {a : Agent} {carry : Carry} {before after : List ℕ} {r : Fed} → Feeds a carry (newline ∷ []) before after r → most_line ≤ length before
    → r.read ≡ 1
newline-read {r = r} f room =
    let some_read : 0 < r.read = feed_reads f room (omega arith) in
    let at_most : r.read ≤ 1 = f.within in
    omega (arith, some_read, at_most)
