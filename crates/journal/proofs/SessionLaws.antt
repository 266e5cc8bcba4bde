-- A session is a journal: each line of the input is answered once, in order, whatever its length and however the input came in pieces.
use Prim.Native.Nat.{ℕ, ◌+◌, ◌≤◌}
use native.Mathlib.Omega.{arith}
use mathlib.Core.Path.{◌≡◌, refl, ap, sym, subst, subst⁻¹, ◌∙◌}
use Rattle.std.specs.Prelude.{Option, None, Some}
use mathlib.Core.List.{List, [], ◌∷◌, ◌++◌, map, append-nil, append_assoc}
use lib.ListN.{length, length-append, take, drop}
use lib.Seq.{length-sets, take_at}
use Rattle.model.specs.State.{Call, view_result}
use Rattle.reading.specs.Call.{call_of}
use Rattle.reading.specs.Spoken.{meaning}
use Rattle.stream.specs.declared.Carry.{Carry}
use Rattle.stream.specs.Lines.{lines}
use Rattle.stream.specs.Carried.{begun}
use Rattle.stream.specs.Calls.{at_end, calls_from}
use Rattle.stream.proofs.EveryLine.{calls-lines}
use Rattle.printing.specs.LineText.{newline, result_text}
use Rattle.writing.specs.Writing.{Wrote}
use Rattle.writing.proofs.WritingLaws.{whole}
use Rattle.load.specs.declared.Agent.{Agent}
use Rattle.agent.specs.declared.feed.Fed.{Fed}
use Rattle.agent.specs.Feed.{unreadable, Journal, start, unread, answered}
use Rattle.journal.specs.Session.{Writes, Session, feeds, stops, ends}

-- ---- One feed

-- what was written is the text of the answers
front : {before after text : List ℕ} {wrote : ℕ} → Wrote wrote before after 0 wrote text → wrote ≤ length after → take wrote after ≡ text
front {before} {after} {text} {wrote} w h =
    let same : length after ≡ length before = ap length w.bytes ∙ length-sets before 0 text in
    let room : 0 + wrote ≤ length before = omega (arith, same, h) in
    let size : length text ≡ wrote = omega (arith, w.past) in
    ap (take wrote) (whole room w) ∙ take_at text (drop wrote before) wrote size

writes_text : {a : Agent} {carry : Carry} {piece written : List ℕ} {r : Fed} (w : Writes a carry piece written r) → written ≡ w.feeds.text
writes_text w = w.first ∙ front w.feeds.written w.feeds.room

-- ---- Journals, one after the other

pub journal_join : {a b c : Agent} {calls more : List (Option Call)} {text further : List ℕ}
    → Journal a calls text b → Journal b more further c → Journal a (calls ++ more) (text ++ further) c
journal_join {a} {b} {c} {calls} {more} {text} {further} j start =
    subst⁻¹ (λ xs. Journal a xs (text ++ []) b) (append-nil calls) (subst⁻¹ (λ t. Journal a calls t b) (append-nil text) j)
journal_join {a} {b} {c} {calls} {more} {text} {further} j (unread {calls = xs} {text = t} k) =
    subst (λ ys. Journal a ys (text ++ (t ++ result_text unreadable)) c) (append_assoc calls xs (None ∷ []))
    (subst (λ l. Journal a ((calls ++ xs) ++ (None ∷ [])) l c) (append_assoc text t (result_text unreadable)) (unread (journal_join j k)))
journal_join {a} {b} {c} {calls} {more} {text} {further} j (answered {calls = xs} {text = t} k call r h fit) =
    let line = result_text (view_result r.result) in
    subst (λ ys. Journal a ys (text ++ (t ++ line)) c) (append_assoc calls xs (Some call ∷ []))
    (subst (λ l. Journal a ((calls ++ xs) ++ (Some call ∷ [])) l c) (append_assoc text t line) (answered (journal_join j k) call r h fit))

-- ---- The input's end

-- a newline ends a line that has begun as the input's end does
newline_ends : (held : Option (List ℕ)) (call : Option Call) → call ∷ [] ≡ at_end held → calls_from held (newline ∷ []) ≡ at_end held
newline_ends None call e = refl
newline_ends (Some []) call e = absurd (let n : 1 ≡ 0 = ap length e in omega (arith, n))
newline_ends (Some (b ∷ line)) call e = refl

pub nothing_in : {A : Type 0} (xs : List A) → length xs ≡ 0 → xs ≡ []
nothing_in [] e = refl
nothing_in (x ∷ xs) e = absurd (omega (arith, e))

-- where a feed has read a newline nothing is left to be said
all_said : (held after : Option (List ℕ)) (calls : List (Option Call))
    → ((rest : List ℕ) → calls_from held (newline ∷ rest) ≡ calls ++ calls_from after rest) → at_end after ≡ []
all_said held after calls said =
    let two : 2 ≡ length calls + 1 = ap length (said (newline ∷ [])) ∙ length-append calls (calls_from after (newline ∷ [])) in
    let one : 1 ≡ length calls + length (at_end after) = ap length (said []) ∙ length-append calls (at_end after) in
    nothing_in (at_end after) (omega (arith, two, one))

-- ---- A session

-- from a line so far on
session_calls : {a b : Agent} {carry : Carry} {input output : List ℕ} → Session a carry input output b → Journal a (calls_from (begun carry) input) output b
session_calls {a} {b} {carry} {input} {output} (feeds {output = further} piece rest written r w s) =
    subst⁻¹ (λ t. Journal a (calls_from (begun carry) (piece ++ rest)) (t ++ further) b) (writes_text w)
    (subst⁻¹ (λ calls. Journal a calls (w.feeds.text ++ further) b) (w.feeds.said rest) (journal_join w.feeds.journal (session_calls s)))
session_calls {a} (stops e) = subst (λ calls. Journal a calls [] a) e start
session_calls {a} {b} {carry} (ends call e written r w read) =
    let f = w.feeds in
    let said : (rest : List ℕ) → calls_from (begun carry) (newline ∷ rest) ≡ f.calls ++ calls_from (begun r.carry) rest
    = λ rest. f.said rest ∙ ap (λ n. f.calls ++ calls_from (begun r.carry) (drop n (newline ∷ []) ++ rest)) read in
    let same : at_end (begun carry) ≡ f.calls
    = sym (newline_ends (begun carry) (meaning call) e) ∙ said [] ∙ ap (λ xs. f.calls ++ xs) (all_said (begun carry) (begun r.carry) f.calls said) ∙ append-nil f.calls in
    subst⁻¹ (λ calls. Journal a calls written r.agent) same (subst⁻¹ (λ t. Journal a f.calls t r.agent) (writes_text w) f.journal)

-- the output of a session is the answers to the lines of its input, each line's once and in order, by the agent's calls
pub session_journal : {a b : Agent} {carry : Carry} {input output : List ℕ} → begun carry ≡ Some [] → Session a carry input output b
    → Journal a (map call_of (lines input)) output b
session_journal {a} {b} {carry} {input} {output} e s =
    subst (λ calls. Journal a calls output b) (ap (λ o. calls_from o input) e ∙ calls-lines input) (session_calls s)
