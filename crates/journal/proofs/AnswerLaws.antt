-- A journal is a chain of the agent's calls, with the lines that cannot be read between them, and its text is one line for each.
-- So demand 3 holds of what a session prints.
use Prim.Native.Nat.{ℕ, ◌+◌}
use mathlib.Core.Path.{◌≡◌, refl, ap, sym, subst, ◌∙◌}
use mathlib.Core.Bool.{true, not}
use Rattle.std.specs.Prelude.{Option, None, Some, Ok}
use mathlib.Core.List.{List, [], ◌∷◌, ◌++◌, map, map-append, append-nil, append_assoc}
use native.Mathlib.Omega.{arith}
use lib.Dec.{eqb}
use lib.ListN.{length, length-map}
use Rattle.lists.specs.Counts.{bit, count, each, Every}
use Rattle.lists.proofs.CountLaws.{total-append}
use Rattle.lists.proofs.TestCounts.{any_none}
use Rattle.model.specs.State.{Call, Result, view_result}
use Rattle.model.specs.Lines.{line_of}
use Rattle.printing.specs.LineText.{newline, result_text, IsLine, fits}
use Rattle.printing.proofs.LineLaws.{one_newline}
use Rattle.reading.specs.Call.{call_of}
use Rattle.stream.specs.declared.Carry.{Carry}
use Rattle.stream.specs.Lines.{lines}
use Rattle.stream.specs.Carried.{begun}
use Rattle.load.specs.declared.Agent.{Agent}
use Rattle.agent.specs.declared.Replied.{Replied}
use Rattle.load.specs.Load.{Loads}
use Rattle.agent.specs.Calls.{Calls}
use Rattle.agent.specs.Chain.{Link, Chain}
use Rattle.agent.specs.Feed.{unreadable, Journal, start, unread, answered}
use Rattle.agent.proofs.ChainLaws as ChainLaws
use Rattle.journal.specs.Session.{Session}
use Rattle.journal.specs.Answers.{call_in, text_of, fits_answer, links_of, Answers, Accounted}
use Rattle.journal.proofs.SessionLaws.{session_journal}

-- ---- One line more

links_join : (xs ys : List (Option Link)) → links_of (xs ++ ys) ≡ links_of xs ++ links_of ys
links_join [] ys = refl
links_join (None ∷ xs) ys = links_join xs ys
links_join (Some link ∷ xs) ys = ap (λ links. link ∷ links) (links_join xs ys)

texts_join : (xs : List (Option Link)) (answer : Option Link) → each text_of (xs ++ (answer ∷ [])) ≡ each text_of xs ++ text_of answer
texts_join [] answer = append-nil (text_of answer)
texts_join (x ∷ xs) answer = ap (λ text. text_of x ++ text) (texts_join xs answer) ∙ sym (append_assoc (text_of x) (each text_of xs) (text_of answer))

-- one answer more that no other result has the text of
fits_join : (xs : List (Option Link)) (answer : Option Link) → Every fits_answer xs → fits_answer answer ≡ true
    → Every fits_answer (xs ++ (answer ∷ []))
fits_join xs answer all one =
    let joined = total-append (λ x. bit (not (fits_answer x))) xs (answer ∷ []) in
    let last = ap (λ b. bit (not b)) one in
    omega (arith, joined, all, last)

chain_then : {a b : Agent} {links : List Link} → Chain a links b → (link : Link) → Calls b link.call link.given
    → Chain a (links ++ (link ∷ [])) link.given.agent
chain_then Chain.start link h = Chain.then link h Chain.start
chain_then (Chain.then other k rest) link h = Chain.then other k (chain_then rest link h)

module _ {a b : Agent} {calls : List (Option Call)} {text : List ℕ} (s : Answers a calls text b) where
  -- one that cannot be read
  answers_unread : Answers a (calls ++ (None ∷ [])) (text ++ result_text unreadable) b
  answers_unread = record {
    answers = s.answers ++ (None ∷ []);
    lines = map-append call_in s.answers (None ∷ []) ∙ ap (λ cs. cs ++ (None ∷ [])) s.lines;
    printed = texts_join s.answers None ∙ ap (λ t. t ++ result_text unreadable) s.printed;
    fit = fits_join s.answers None s.fit refl;
    chain = subst (λ links. Chain a links b) (sym (links_join s.answers (None ∷ []) ∙ append-nil (links_of s.answers))) s.chain;
  }

  -- a call
  answers-call : (c : Call) (r : Replied) → Calls b c r → fits (view_result r.result) ≡ true
      → Answers a (calls ++ (Some c ∷ [])) (text ++ result_text (view_result r.result)) r.agent
  answers-call c r h fit = record {
    answers = s.answers ++ (Some link ∷ []);
    lines = map-append call_in s.answers (Some link ∷ []) ∙ ap (λ cs. cs ++ (Some c ∷ [])) s.lines;
    printed = texts_join s.answers (Some link) ∙ ap (λ t. t ++ result_text (view_result r.result)) s.printed;
    fit = fits_join s.answers (Some link) s.fit fit;
    chain = subst (λ links. Chain a links r.agent) (sym (links_join s.answers (Some link ∷ []))) (chain_then s.chain link h);
  }
    where
      link : Link
      link = record { call = c; given = r }

-- ---- A journal

-- its calls, with what they gave, form a chain from the agent before it to the agent after it; its text is theirs,
-- with the text for each line that cannot be read in that line's place
pub journal-chain : {a b : Agent} {calls : List (Option Call)} {text : List ℕ} → Journal a calls text b → Answers a calls text b
journal-chain start = record { answers = []; lines = refl; printed = refl; fit = refl; chain = Chain.start }
journal-chain (unread j) = answers_unread (journal-chain j)
journal-chain (answered j c r h fit) = answers-call (journal-chain j) c r h fit

-- ---- One line out for each

line_once : (text : List ℕ) → IsLine text → count (eqb newline) text ≡ 1
line_once text l =
    ap (count (eqb newline)) l.ends ∙ total-append (λ b. bit (eqb newline b)) l.body (newline ∷ [])
    ∙ ap (λ n. n + 1) (any_none (eqb newline) l.body l.once)

result_once : (result : Result) → count (eqb newline) (result_text result) ≡ 1
result_once result = line_once (result_text result) (one_newline (line_of result))

text_once : (answer : Option Link) → count (eqb newline) (text_of answer) ≡ 1
text_once None = result_once unreadable
text_once (Some link) = result_once (view_result link.given.result)

texts_count : (answers : List (Option Link)) → count (eqb newline) (each text_of answers) ≡ length (map call_in answers)
texts_count [] = refl
texts_count (x ∷ xs) =
    let here = text_once x in
    let rest = texts_count xs in
    let joined = total-append (λ b. bit (eqb newline b)) (text_of x) (each text_of xs) in
    omega (arith, here, rest, joined)

pub one_line-each : {a b : Agent} {calls : List (Option Call)} {text : List ℕ} → Journal a calls text b → count (eqb newline) text ≡ length calls
one_line-each j =
    let s = journal-chain j in
    sym (ap (count (eqb newline)) s.printed) ∙ texts_count s.answers ∙ ap length s.lines

-- demand 3 holds of a journal's text, on an agent that load gives, and 10 is not in it
pub journal_accounted : (bytes : List ℕ) (l : Agent) → Loads bytes (Ok l)
    → (input : List ℕ) {output : List ℕ} {b : Agent} → Journal l (map call_of (lines input)) output b
    → Accounted bytes l input output b
journal_accounted bytes l loads input j =
    let told = journal-chain j in
    record {
      answers = told;
      demand_3 = ChainLaws.demand_3 bytes l loads told.chain;
      never_ten = ChainLaws.never_ten bytes l loads told.chain;
    }

-- ---- A session

pub session_answers : {a b : Agent} {carry : Carry} {input output : List ℕ} → begun carry ≡ Some [] → Session a carry input output b
    → Answers a (map call_of (lines input)) output b
session_answers fresh s = journal-chain (session_journal fresh s)

-- one line out for each line in
pub session_lines : {a b : Agent} {carry : Carry} {input output : List ℕ} → begun carry ≡ Some [] → Session a carry input output b
    → count (eqb newline) output ≡ length (lines input)
session_lines {input = input} fresh s = one_line-each (session_journal fresh s) ∙ length-map (lines input) call_of

-- demand 3 holds of what a session prints on an agent that load gives, whatever the library, the input and its pieces; 10 is never printed
pub session_demand_3 : (bytes : List ℕ) (l : Agent) → Loads bytes (Ok l)
    → {b : Agent} {carry : Carry} {input output : List ℕ} → begun carry ≡ Some [] → Session l carry input output b
    → Accounted bytes l input output b
session_demand_3 bytes l loads {input = input} fresh s = journal_accounted bytes l loads input (session_journal fresh s)
