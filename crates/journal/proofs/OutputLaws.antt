-- What a journal prints is what the definition computes, since each of its calls is the model's.
use Prim.Native.Nat.{ℕ, ◌≤◌, ◌<◌}
use native.Mathlib.Omega.{arith}
use mathlib.Core.Path.{◌≡◌, refl, ap, sym, ◌∙◌}
use mathlib.Core.Bool.{Bool, false}
use Rattle.std.specs.Prelude.{Option, None, Some, Ok, Err}
use mathlib.Core.List.{List, [], ◌∷◌, ◌++◌, map}
use lib.Dec.{eqb}
use lib.ListN.{length}
use borrow.Author.Tests.{ne_eqb, lt-ltb, le-ltb}
use Rattle.lists.specs.Counts.{each}
use Rattle.refusals.specs.declared.Refusal.{Refusal}
use Rattle.refusals.specs.Numbers.{number_of}
use Rattle.refusals.proofs.NumberLaws.{never_zero}
use Rattle.library.specs.Layout.{library_of}
use Rattle.accepted.specs.Refusal.{refusal_of}
use Rattle.accepted.proofs.Size.{library_most}
use Rattle.model.specs.State.{AgentState, Call, Reply, refuse}
use Rattle.model.specs.Calls.{call_by, call}
use Rattle.state.specs.View.{view_state}
use Rattle.printing.specs.LineText.{result_text}
use Rattle.reading.specs.Call.{call_of}
use Rattle.stream.specs.declared.Carry.{Carry}
use Rattle.stream.specs.Lines.{lines}
use Rattle.stream.specs.Carried.{begun}
use Rattle.load.specs.declared.Agent.{Agent}
use Rattle.load.specs.Load.{bytes_of, Loads, is_well_formed_agent}
use Rattle.agent.specs.Calls.{view_replied, Calls}
use Rattle.agent.specs.Chain.{Link, Chain}
use Rattle.agent.specs.Feed.{respond_by, Journal}
use Rattle.agent.proofs.ChainLaws.{Held, call_library, held_call, held_next, loaded_held, call_test}
use Rattle.journal.specs.Session.{Session}
use Rattle.journal.specs.Answers.{call_in, text_of, links_of}
use Rattle.journal.specs.Output.{answers_by, reply_to, output_of, most_file, file_refusal, refused_with, printed_for}
use Rattle.journal.proofs.SessionLaws.{session_journal}
use Rattle.journal.proofs.AnswerLaws.{journal-chain}

-- ---- Line by line

-- the state after what lines say
abbrev pub state_by : (AgentState → Option Call → Reply) → AgentState → List (Option Call) → AgentState
state_by reply s [] = s
state_by reply s (said ∷ more) = state_by reply (reply s said).state more

-- where these replies are those of the agent's calls, on every agent that the calls lead to
module _ (Good : Agent → Type 0) (reply : AgentState → Option Call → Reply) (unread : (s : AgentState) → reply s None ≡ refuse 0 s)
    (means : (a : Agent) → Good a → (link : Link) → Calls a link.call link.given
    → view_replied link.given ≡ reply (view_state a.state) (Some link.call))
    (next : (a : Agent) → Good a → (link : Link) → Calls a link.call link.given → Good link.given.agent) where
  texts_computed : {a b : Agent} → Good a → (answers : List (Option Link)) → Chain a (links_of answers) b
      → each text_of answers ≡ answers_by reply (view_state a.state) (map call_in answers)
  unfolding answers_by
  texts_computed h [] c = refl
  texts_computed {a} h (None ∷ answers) c =
      ap (λ (text : List ℕ). text_of None ++ text) (texts_computed h answers c)
      ∙ ap (λ (y : Reply). result_text y.result ++ answers_by reply y.state (map call_in answers)) (sym (unread (view_state a.state)))
  texts_computed {a} h (Some link ∷ answers) (Chain.then l k rest) =
      ap (λ (text : List ℕ). text_of (Some link) ++ text) (texts_computed (next a h link k) answers rest)
      ∙ ap (λ (y : Reply). result_text y.result ++ answers_by reply y.state (map call_in answers)) (means a h link k)

  states_computed : {a b : Agent} → Good a → (answers : List (Option Link)) → Chain a (links_of answers) b
      → view_state b.state ≡ state_by reply (view_state a.state) (map call_in answers)
  states_computed h [] Chain.start = refl
  states_computed {a} h (None ∷ answers) c =
      states_computed h answers c ∙ ap (λ (y : Reply). state_by reply y.state (map call_in answers)) (sym (unread (view_state a.state)))
  states_computed {a} h (Some link ∷ answers) (Chain.then l k rest) =
      states_computed (next a h link k) answers rest
      ∙ ap (λ (y : Reply). state_by reply y.state (map call_in answers)) (means a h link k)

  module _ {a b : Agent} {calls : List (Option Call)} {text : List ℕ} (h : Good a) (j : Journal a calls text b) where
    text_by : text ≡ answers_by reply (view_state a.state) calls
    text_by =
        let s = journal-chain j in
        sym s.printed ∙ texts_computed h s.answers s.chain ∙ ap (answers_by reply (view_state a.state)) s.lines

    state_by_lem : view_state b.state ≡ state_by reply (view_state a.state) calls
    state_by_lem =
        let s = journal-chain j in
        states_computed h s.answers s.chain ∙ ap (state_by reply (view_state a.state)) s.lines

-- ---- Any agent

-- an agent with this library, well formed or not
abbrev Kept : Bool → List ℕ → Agent → Type 0
Kept formed bytes a = (is_well_formed_agent a ≡ formed) × (bytes_of a ≡ bytes)

module _ (formed : Bool) (bytes : List ℕ) (a : Agent) (kept : Kept formed bytes a) (link : Link)
    (c : Calls a link.call link.given) where
  kept-reply : view_replied link.given ≡ respond_by formed (library_of bytes) (view_state a.state) (Some link.call)
  unfolding respond_by
  kept-reply =
      c.means ∙ ap (λ (b : Bool). call_by b (library_of (bytes_of a)) (view_state a.state) link.call) kept.0
      ∙ ap (λ (l : List ℕ). call_by formed (library_of l) (view_state a.state) link.call) kept.1

  kept_next : Kept formed bytes link.given.agent
  kept_next = (call_test a link c ∙ kept.0, call_library c ∙ kept.1)

-- the reply of an agent's calls, from what the test says of it on
abbrev pub reply_of : Agent → AgentState → Option Call → Reply
reply_of a = respond_by (is_well_formed_agent a) (library_of (bytes_of a))

module _ {a b : Agent} {calls : List (Option Call)} {text : List ℕ} (j : Journal a calls text b) where
  -- the text of a journal is computed from the agent's library, whether it is well formed, its state and what the lines say
  pub journal_computed : text ≡ answers_by (reply_of a) (view_state a.state) calls
  unfolding respond_by
  journal_computed =
      text_by (Kept (is_well_formed_agent a) (bytes_of a)) (reply_of a) (λ s. refl) (kept-reply (is_well_formed_agent a) (bytes_of a))
      (kept_next (is_well_formed_agent a) (bytes_of a)) (refl, refl) j

  -- and so is the state after it
  pub journal-state : view_state b.state ≡ state_by (reply_of a) (view_state a.state) calls
  unfolding respond_by
  journal-state =
      state_by_lem (Kept (is_well_formed_agent a) (bytes_of a)) (reply_of a) (λ s. refl) (kept-reply (is_well_formed_agent a) (bytes_of a))
      (kept_next (is_well_formed_agent a) (bytes_of a)) (refl, refl) j

-- ---- On an agent that load gives

module _ (bytes : List ℕ) (l : Agent) (loads : Loads bytes (Ok l)) where
  module _ (input : List ℕ) {output : List ℕ} {b : Agent} (j : Journal l (map call_of (lines input)) output b) where
    -- the text of a journal of an input's lines
    pub journal_output : output ≡ output_of bytes input
    unfolding output_of reply_to respond_by call
    journal_output =
        text_by (Held bytes) (reply_to (library_of bytes)) (λ x. refl) (held_call bytes loads.accepted) (held_next bytes loads.accepted)
        (loaded_held bytes l loads) j
        ∙ ap (λ (x : AgentState). answers_by (reply_to (library_of bytes)) x (map call_of (lines input))) loads.state

    pub journal_printed : output ≡ printed_for bytes input
    unfolding printed_for file_refusal
    journal_printed =
        let accepted = loads.accepted in
        let short = le-ltb most_file (length bytes) (omega (arith, library_most bytes accepted)) in
        journal_output ∙ rw (short, accepted)

  module _ {b : Agent} {carry : Carry} {input output : List ℕ} (fresh : begun carry ≡ Some []) (s : Session l carry input output b) where
    -- the output of a session depends on the library's bytes and the input's alone, and is what the definition computes
    pub session_output : output ≡ output_of bytes input
    session_output = journal_output input (session_journal fresh s)

    pub session_printed : output ≡ printed_for bytes input
    session_printed = journal_printed input (session_journal fresh s)

-- where load refuses the library the output is X and its number
pub refused_printed : (bytes input : List ℕ) → length bytes ≤ most_file → (e : Refusal) → Loads bytes (Err e)
    → refused_with (number_of e) ≡ printed_for bytes input
unfolding printed_for file_refusal
refused_printed bytes input short e number =
    let other : eqb (refusal_of bytes) 0 ≡ false = ne_eqb (refusal_of bytes) 0 (λ zero. never_zero e (number ∙ zero)) in
    rw (le-ltb most_file (length bytes) short, number, other)

-- where its file is too long to be loaded, X 2
pub long_printed : (bytes input : List ℕ) → most_file < length bytes → refused_with 2 ≡ printed_for bytes input
unfolding printed_for file_refusal
long_printed bytes input long = rw (lt-ltb most_file (length bytes) long)
