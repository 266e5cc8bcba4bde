-- The account follows from the input's and the output's bytes alone: the output is cut at its newlines, each line tells its result,
-- and a history asks for nothing else.
use Prim.Native.Nat.{ℕ}
use native.Mathlib.Omega.{arith}
use mathlib.Core.Path.{◌≡◌, refl, ap, sym, subst, ◌∙◌}
use mathlib.Core.Bool.{false}
use Rattle.std.specs.Prelude.{Option, None, Some, Ok}
use mathlib.Core.List.{List, [], ◌∷◌, ◌++◌, map, append_assoc}
use lib.Dec.{eqb}
use lib.ListN.{length}
use borrow.Author.Tests.{eq-eqb}
use Rattle.std.specs.List.{list_any}
use Rattle.lists.specs.Counts.{each, Every}
use Rattle.lists.proofs.BoolLaws.{both_ways, or_parts}
use Rattle.lists.proofs.CountLaws.{bit_every}
use Rattle.lists.proofs.OptionLaws.{some_equal, none-some}
use Rattle.literal.specs.declared.Literal.{Literal}
use Rattle.belief.specs.Beliefs.{replay}
use Rattle.library.specs.Layout.{beliefs_of}
use Rattle.model.specs.declared.Answer.{Answer}
use Rattle.model.specs.declared.Answer.TheVariants.{Idle}
use Rattle.model.specs.State.{Call, Result, view_result}
use Rattle.model.specs.Lines.{letter_of, fields_of, line_of}
use Rattle.model.specs.Demand3.{Accounted, Demand3}
use Rattle.model.specs.History.{History, note, nothing_yet, history, replay_all}
use Rattle.state.specs.View.{view_state}
use Rattle.printing.specs.LineText.{newline, result_text, IsLine, fits}
use Rattle.printing.proofs.LineLaws.{one_newline}
use Rattle.printing.proofs.ResultInjective.{result_injective}
use Rattle.reading.specs.Call.{call_of}
use Rattle.stream.specs.declared.Carry.{Carry}
use Rattle.stream.specs.Lines.{lines}
use Rattle.stream.specs.Carried.{begun}
use Rattle.load.specs.declared.Agent.{Agent}
use Rattle.load.specs.Load.{Loads}
use Rattle.agent.specs.Chain.{Link, entries_of}
use Rattle.agent.specs.Feed.{unreadable, Journal}
use Rattle.journal.specs.Session.{Session}
use Rattle.journal.specs.Answers.{call_in, text_of, fits_answer, links_of, Answers}
use Rattle.journal.specs.Account.{note_line, SameAccount}
use Rattle.journal.proofs.SessionLaws.{session_journal}
use Rattle.journal.proofs.AnswerLaws.{journal_accounted, session_answers}

-- ---- One line

-- what a history notes of an answer is what its letter and values say
pub note-by_letter : (h : History) (c : Call) (answer : Answer) → note h c answer ≡ note_line h c (letter_of answer) (fields_of answer)
unfolding note note_line letter_of fields_of
note-by_letter h c Idle = refl
note-by_letter h c answer = refl

-- ---- The output, cut at its newlines

cut : (xs ys s t : List ℕ) → list_any (eqb newline) xs ≡ false → list_any (eqb newline) ys ≡ false → xs ++ (newline ∷ s) ≡ ys ++ (newline ∷ t)
    → (xs ≡ ys) × (s ≡ t)
cut [] [] s t p q e = let rest : s ≡ t = cc in (refl, rest)
cut [] (y ∷ ys) s t p q e = let here : newline ≡ y = cc in both_ways (eq-eqb newline y here) (or_parts (eqb newline y) _ q).0
cut (x ∷ xs) [] s t p q e = let here : newline ≡ x = cc in both_ways (eq-eqb newline x here) (or_parts (eqb newline x) _ p).0
cut (x ∷ xs) (y ∷ ys) s t p q e =
    let here : x ≡ y = cc in
    let behind : xs ++ (newline ∷ s) ≡ ys ++ (newline ∷ t) = cc in
    let more = cut xs ys s t (or_parts (eqb newline x) _ p).1 (or_parts (eqb newline y) _ q).1 behind in
    let same = more.0 in
    ((λ i. here i ∷ same i), more.1)

lines_cut : (x y s t : List ℕ) → IsLine x → IsLine y → x ++ s ≡ y ++ t → (x ≡ y) × (s ≡ t)
lines_cut x y s t l m e =
    let bodies : l.body ++ (newline ∷ s) ≡ m.body ++ (newline ∷ t)
    = sym (append_assoc l.body (newline ∷ []) s) ∙ ap (λ (z : List ℕ). z ++ s) (sym l.ends) ∙ e
    ∙ ap (λ (z : List ℕ). z ++ t) m.ends ∙ append_assoc m.body (newline ∷ []) t in
    let parts = cut l.body m.body s t l.once m.once bodies in
    (l.ends ∙ ap (λ (z : List ℕ). z ++ (newline ∷ [])) parts.0 ∙ sym m.ends, parts.1)

results_cut : (r q : Result) (s t : List ℕ) → result_text r ++ s ≡ result_text q ++ t → (result_text r ≡ result_text q) × (s ≡ t)
results_cut r q s t e = lines_cut (result_text r) (result_text q) s t (one_newline (line_of r)) (one_newline (line_of q)) e

-- ---- The calls with their results

record Told : Type 0 where
  call : Call
  result : Result

told : Link → Told
told link = record { call = link.call; result = view_result link.given.result }

-- one input and one output tell one list of calls with their results
same_told : (xs ys : List (Option Link)) → map call_in xs ≡ map call_in ys → each text_of xs ≡ each text_of ys
    → Every fits_answer xs → Every fits_answer ys → map told (links_of xs) ≡ map told (links_of ys)
unfolding told
same_told [] [] c e p q = refl
same_told (None ∷ xs) (None ∷ ys) c e p q =
    let calls : map call_in xs ≡ map call_in ys = cc in
    same_told xs ys calls (results_cut unreadable unreadable (each text_of xs) (each text_of ys) e).1 (omega (arith, p)) (omega (arith, q))
same_told (None ∷ xs) (Some m ∷ ys) c e p q = let other : None ≡ Some m.call = cc in none-some other
same_told (Some k ∷ xs) (None ∷ ys) c e p q = let other : None ≡ Some k.call = cc in none-some other
same_told (Some k ∷ xs) (Some m ∷ ys) c e p q =
    let calls : map call_in xs ≡ map call_in ys = cc in
    let here : Some k.call ≡ Some m.call = cc in
    let call = some_equal here in
    let r = view_result k.given.result in
    let s = view_result m.given.result in
    let parts = results_cut r s (each text_of xs) (each text_of ys) e in
    let result = result_injective r s (bit_every (fits r) (omega (arith, p))) (bit_every (fits s) (omega (arith, q))) parts.0 in
    let more = same_told xs ys calls parts.1 (omega (arith, p)) (omega (arith, q)) in
    λ i. record { call = call i; result = result i } ∷ more i
same_told xs ys c e p q = let sizes = ap length c in absurd (omega (arith, sizes))

-- ---- The account

history-told : (h : History) (xs ys : List Link) → map told xs ≡ map told ys → history h (entries_of xs) ≡ history h (entries_of ys)
unfolding history told
history-told h [] [] e = refl
history-told h (x ∷ xs) (y ∷ ys) e =
    let here : told x ≡ told y = cc in
    let more : map told xs ≡ map told ys = cc in
    ap (λ (d : Told). history (note h d.call d.result.answer) (entries_of xs)) here
    ∙ history-told (note h y.call (view_result y.given.result).answer) xs ys more
history-told h xs ys e = let sizes = ap length e in absurd (omega (arith, sizes))

table-told : (beliefs : List Literal) (xs ys : List Link) → map told xs ≡ map told ys
    → replay_all beliefs (entries_of xs) ≡ replay_all beliefs (entries_of ys)
unfolding replay_all told
table-told beliefs [] [] e = refl
table-told beliefs (x ∷ xs) (y ∷ ys) e =
    let here : told x ≡ told y = cc in
    let more : map told xs ≡ map told ys = cc in
    ap (λ (d : Told). replay_all (replay beliefs d.result.changes) (entries_of xs)) here
    ∙ table-told (replay beliefs (view_result y.given.result).changes) xs ys more
table-told beliefs xs ys e = let sizes = ap length e in absurd (omega (arith, sizes))

-- two ways to read one input and one output as calls and their answers, by whatever agents, give one account
pub account_by_bytes : {a b c d : Agent} {calls : List (Option Call)} {text : List ℕ}
    (s : Answers a calls text b) (t : Answers c calls text d) → SameAccount (entries_of (links_of s.answers)) (entries_of (links_of t.answers))
account_by_bytes s t =
    let same = same_told s.answers t.answers (s.lines ∙ sym t.lines) (s.printed ∙ sym t.printed) s.fit t.fit in
    record {
      history_is = history-told nothing_yet (links_of s.answers) (links_of t.answers) same;
      table_is = λ beliefs. table-told beliefs (links_of s.answers) (links_of t.answers) same;
    }

-- so two sessions with the same input and output have one account, whatever their libraries, agents and pieces:
-- who has the bytes has what demand 3 speaks of
pub session_account : {a b c d : Agent} {carry other : Carry} {input output : List ℕ}
    (fresh : begun carry ≡ Some []) (fresh-too : begun other ≡ Some []) (s : Session a carry input output b) (t : Session c other input output d)
    → SameAccount (entries_of (links_of (session_answers fresh s).answers)) (entries_of (links_of (session_answers fresh-too t).answers))
session_account fresh fresh-too s t = account_by_bytes (session_answers fresh s) (session_answers fresh-too t)

-- and demand 3, of a journal of an input's lines on a loaded agent, holds of every such reading of the bytes
pub journal_reading : (bytes : List ℕ) (l : Agent) → Loads bytes (Ok l)
    → (input : List ℕ) {output : List ℕ} {b c d : Agent} → Journal l (map call_of (lines input)) output b
    → (t : Answers c (map call_of (lines input)) output d)
    → Demand3 (beliefs_of bytes) (entries_of (links_of t.answers)) (view_state b.state)
journal_reading bytes l loads input {b = b} j t =
    let own = journal_accounted bytes l loads input j in
    let same = account_by_bytes own.answers t in
    record {
      accounts = subst (λ (h : History). Accounted h (view_state b.state)) same.history_is own.demand_3.accounts;
      table = own.demand_3.table ∙ same.table_is (beliefs_of bytes);
    }

-- so of what a session on a loaded agent prints
pub reading_demand_3 : (bytes : List ℕ) (l : Agent) → Loads bytes (Ok l)
    → {b c d : Agent} {carry : Carry} {input output : List ℕ} → begun carry ≡ Some [] → Session l carry input output b
    → (t : Answers c (map call_of (lines input)) output d)
    → Demand3 (beliefs_of bytes) (entries_of (links_of t.answers)) (view_state b.state)
reading_demand_3 bytes l loads {input = input} fresh s t = journal_reading bytes l loads input (session_journal fresh s) t
