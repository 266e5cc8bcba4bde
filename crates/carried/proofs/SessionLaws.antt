-- A journal over several shifts prints what the same input prints in one: the program may be stopped at any line's end, saved and restored.
use Prim.Native.Nat.{ℕ}
use mathlib.Core.Path.{◌≡◌, refl, ap, ap₂, sym, subst, subst⁻¹, ◌∙◌}
use mathlib.Core.Bool.{Bool, true, cond}
use Rattle.std.specs.Prelude.{Option, None, Some, Ok}
use mathlib.Core.List.{List, [], ◌∷◌, ◌++◌, map}
use lib.Dec.{eqb}
use lib.ListN.{length, length-map}
use Rattle.lists.specs.Counts.{count, each}
use Rattle.lists.proofs.BoolLaws.{by_cases}
use Rattle.library.specs.Layout.{beliefs_of}
use Rattle.model.specs.State.{Call, Reply, Result, view_result}
use Rattle.model.specs.Demand3.{Demand3}
use Rattle.printing.specs.LineText.{newline, result_text, fits}
use Rattle.reading.specs.Call.{call_of}
use Rattle.stream.specs.declared.Carry.{Carry}
use Rattle.stream.specs.Lines.{is_newline, lines}
use Rattle.stream.specs.Carried.{begun, more, said}
use Rattle.stream.specs.Calls.{at_end, calls_from, line_after}
use Rattle.stream.proofs.EveryLine.{calls-lines}
use Rattle.state.specs.View.{view_state}
use Rattle.load.specs.declared.Agent.{Agent}
use Rattle.load.specs.Load.{Loads}
use Rattle.image.specs.Saves.{image_of_agent}
use Rattle.agent.specs.Chain.{Link, entries_of, calls_of}
use Rattle.agent.specs.Feed.{Journal, start, unread, answered}
use Rattle.journal.specs.Session.{Session}
use Rattle.journal.specs.Answers.{call_in, links_of, Answers, Accounted}
use Rattle.journal.specs.Output.{printed_for}
use Rattle.journal.proofs.SessionLaws.{journal_join, session_journal}
use Rattle.journal.proofs.AnswerLaws.{journal-chain, journal_accounted, one_line-each}
use Rattle.journal.proofs.AccountLaws.{journal_reading}
use Rattle.journal.proofs.OutputLaws.{journal_computed, journal_printed}
use Rattle.carried.specs.Alike.{Alike}
use Rattle.carried.specs.Sessions.{UnbrokenJournal, EndsLine, Sessions, last, carried}
use Rattle.carried.proofs.AlikeLaws.{alike_itself, alike_back, alike_then, same_reply, alike-after, mirrored, chains_alike}
use Rattle.carried.proofs.CarriedLaws.{alike-image, carried-alike}

-- ---- An input cut at a line's end

calls_cut : (held : Option (List ℕ)) (part rest : List ℕ) → line_after held part ≡ Some []
    → calls_from held (part ++ rest) ≡ calls_from held part ++ calls_from (Some []) rest
calls_cut held [] rest e = subst⁻¹ (λ (h : Option (List ℕ)). calls_from h rest ≡ at_end h ++ calls_from (Some []) rest) e refl
calls_cut held (b ∷ part) rest e =
    let after : Bool → Option (List ℕ) = λ n. cond n (line_after (Some []) part) (line_after (more held (b ∷ [])) part) in
    by_cases (is_newline b)
    (λ n. rw n (ap (λ (calls : List (Option Call)). said held ∷ calls) (calls_cut (Some []) part rest (ap after (sym n) ∙ e))))
    (λ n. rw n (calls_cut (more held (b ∷ [])) part rest (ap after (sym n) ∙ e)))

-- the lines of the whole are those of the part and those of the rest
lines_cut : (part rest : List ℕ) → EndsLine part → map call_of (lines (part ++ rest)) ≡ map call_of (lines part) ++ map call_of (lines rest)
lines_cut part rest e =
    sym (calls-lines (part ++ rest)) ∙ calls_cut (Some []) part rest e
    ∙ ap₂ (λ (x y : List (Option Call)). x ++ y) (calls-lines part) (calls-lines rest)

-- ---- A journal on an agent that is alike

mirrored_journal : {a b c : Agent} {calls : List (Option Call)} {text : List ℕ} → Alike a b → Journal b calls text c
    → UnbrokenJournal a calls text c
mirrored_journal {a} same start = record { end = a; journal = start; alike = same }
mirrored_journal same (unread j) =
    let m = mirrored_journal same j in record { end = m.end; journal = unread m.journal; alike = m.alike }
mirrored_journal {a} same (answered {calls = calls} {text = text} j c r h fit) =
    let m = mirrored_journal same j in
    let n = mirrored m.alike c r h in
    let reply = same_reply m.alike c n.calls h in
    let result : view_result n.given.result ≡ view_result r.result = ap (λ (y : Reply). y.result) reply in
    record {
      end = n.given.agent;
      journal = subst (λ (x : Result). Journal a (calls ++ (Some c ∷ [])) (text ++ result_text x) n.given.agent) result
          (answered m.journal c n.given n.calls (subst⁻¹ (λ (x : Result). fits x ≡ true) result fit));
      alike = alike-after m.alike c n.calls h;
    }

-- ---- Two journals of what the same lines say

-- the call that a line says, if it can be read
abbrev readable : Option Call → List Call
readable None = []
readable (Some call) = call ∷ []

links_readable : (xs : List (Option Link)) → calls_of (links_of xs) ≡ each readable (map call_in xs)
links_readable [] = refl
links_readable (None ∷ xs) = links_readable xs
links_readable (Some x ∷ xs) = ap (λ (calls : List Call). x.call ∷ calls) (links_readable xs)

journals-alike : {a b c : Agent} {calls : List (Option Call)} {text further : List ℕ} → Journal a calls text b → Journal a calls further c
    → Alike b c
journals-alike {a} j k =
    let s = journal-chain j in
    let t = journal-chain k in
    (chains_alike (alike_itself a) s.chain t.chain (links_readable s.answers ∙ ap (each readable) (s.lines ∙ sym t.lines) ∙ sym (links_readable t.answers))).alike

-- ---- Sessions over several shifts

-- they are one journal of the whole input, as if nothing had been saved and restored
pub sessions_journal : {a b : Agent} {input output : List ℕ} → Sessions a input output b
    → UnbrokenJournal a (map call_of (lines input)) output b
sessions_journal {a} {b} (last fresh s) = record { end = b; journal = session_journal fresh s; alike = alike_itself b }
sessions_journal {a} (carried {input = input} {output = output} part written ends fresh s restored over rest) =
    let first = session_journal fresh s in
    let more = sessions_journal rest in
    let m = mirrored_journal (carried-alike over) more.journal in
    record {
      end = m.end;
      journal = subst⁻¹ (λ (calls : List (Option Call)). Journal a calls (written ++ output) m.end) (lines_cut part input ends)
          (journal_join first m.journal);
      alike = alike_then m.alike more.alike;
    }

-- so they print what one session prints for the whole input, and end with an agent that is alike, and has the same image
module _ {a b c : Agent} {carry : Carry} {input output whole : List ℕ} (s : Sessions a input output b)
    (fresh : begun carry ≡ Some []) (t : Session a carry input whole c) where
  pub prints_the_same : output ≡ whole
  prints_the_same = journal_computed (sessions_journal s).journal ∙ sym (journal_computed (session_journal fresh t))

  pub ends_alike : Alike b c
  ends_alike =
      let j = sessions_journal s in
      alike_then (alike_back j.alike) (journals-alike j.journal (session_journal fresh t))

  pub ends_with_one_image : image_of_agent b ≡ image_of_agent c
  ends_with_one_image = alike-image ends_alike

-- one line out for each line in
pub sessions_lines : {a b : Agent} {input output : List ℕ} → Sessions a input output b → count (eqb newline) output ≡ length (lines input)
sessions_lines {input = input} s = one_line-each (sessions_journal s).journal ∙ length-map (lines input) call_of

module _ (bytes : List ℕ) (l : Agent) (loads : Loads bytes (Ok l))
    {b : Agent} {input output : List ℕ} (s : Sessions l input output b) where
  -- from an agent that load gives, the output is the one that the definition computes for one session
  pub sessions_printed : output ≡ printed_for bytes input
  sessions_printed = journal_printed bytes l loads input (sessions_journal s).journal

  -- it is the answers to the input's lines, and none is 10
  pub sessions_accounted : Accounted bytes l input output (sessions_journal s).end
  sessions_accounted = journal_accounted bytes l loads input (sessions_journal s).journal

  -- and demand 3 holds of every reading of the input and the output as calls and answers
  pub sessions_demand_3 : {c d : Agent} (t : Answers c (map call_of (lines input)) output d)
      → Demand3 (beliefs_of bytes) (entries_of (links_of t.answers)) (view_state b.state)
  sessions_demand_3 t =
      subst (Demand3 (beliefs_of bytes) (entries_of (links_of t.answers))) (sessions_journal s).alike.state
      (journal_reading bytes l loads input (sessions_journal s).journal t)
