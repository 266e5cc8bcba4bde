-- A chunk's lines, one after the other: each line that ends is run and printed behind the others, and what does not end goes on after the chunk.
use Prim.Native.Nat.{ℕ, ◌+◌, ◌<◌, ◌≤◌}
use native.Mathlib.Omega.{arith}
use mathlib.Core.Path.{◌≡◌, refl, ap, sym, subst, subst⁻¹, ◌∙◌}
use mathlib.Core.Bool.{Bool, true}
use Rattle.std.specs.Prelude.{Option, None, Some}
use mathlib.Core.List.{List, [], ◌∷◌, ◌++◌, append_assoc}
use lib.ListN.{length, drop, drop_of_length-le}
use lib.Seq.{take-length}
use Rattle.model.specs.State.{Call, view_result}
use Rattle.state.specs.declared.State.{State}
use Rattle.printing.specs.LineText.{result_text, most_line, fits}
use Rattle.writing.specs.Writing.{Wrote}
use Rattle.writing.proofs.WritingLaws.{nothing, then as write_then}
use Rattle.reading.specs.Spoken.{meaning}
use Rattle.stream.specs.declared.Carry.{Carry}
use Rattle.stream.specs.declared.Line.{Line}
use Rattle.stream.specs.Carried.{begun, more}
use Rattle.stream.specs.Calls.{calls_from, line_after, next_line, shown}
use Rattle.stream.proofs.ChunkLaws.{line_ends, line_goes_on, line_after_lem, used_after}
use Rattle.steps.specs.declared.Acted.{Acted}
use Rattle.load.specs.declared.Agent.{Agent}
use Rattle.load.specs.Load.{bytes_of, is_well_formed_agent}
use Rattle.agent.specs.declared.feed.Fed.{Fed}
use Rattle.agent.specs.Feed.{Responds, none_yet, then, in_state, Journal, silent, roomy, Between, Progress, Feeds}
use Rattle.agent.proofs.FeedLaws.{runs_journal}

module _ (bytes : List ℕ) (formed : Bool) (s : State) (carry : Carry) (chunk before : List ℕ) where
  -- nothing is read yet
  pub progress_start : Progress bytes formed s carry chunk before before s carry 0 0
  progress_start = record { calls = []; text = []; said = λ rest. refl; runs = none_yet; written = nothing; roomy = silent; so_far = refl }

  module _ {after : List ℕ} {t : State} {held : Carry} {read wrote : ℕ} (p : Progress bytes formed s carry chunk before after t held read wrote) where
    -- a line ends: it is run, and its result printed where there is room for the longest
    pub progress-line : wrote + most_line ≤ length before → (line : Line) → shown (Some line) ≡ next_line chunk read (begun held)
        → (r : Acted) → Responds bytes formed t (meaning line.call) r → fits (view_result r.result) ≡ true
        → {later : List ℕ} {next : ℕ} → Wrote most_line after later wrote next (result_text (view_result r.result))
        → (fresh : Carry) → begun fresh ≡ Some [] → Progress bytes formed s carry chunk before later r.state fresh line.at next
    progress-line room line told r h fit w fresh new =
        let both = write_then p.written w in
        record {
          calls = p.calls ++ (meaning line.call ∷ []);
          text = p.text ++ result_text (view_result r.result);
          said = λ rest. p.said rest
              ∙ ap (λ (l : List (Option Call)). p.calls ++ l)
              (line_ends chunk read held line rest told ∙ ap (λ (o : Option (List ℕ)). meaning line.call ∷ calls_from o (drop line.at chunk ++ rest)) (sym new))
              ∙ sym (append_assoc p.calls (meaning line.call ∷ []) (calls_from (begun fresh) (drop line.at chunk ++ rest)));
          runs = then p.runs (meaning line.call) r h fit;
          written = record { bytes = both.bytes; past = both.past; within = omega arith };
          roomy = roomy p.text (view_result r.result) (omega (arith, p.written.past, room));
          so_far = new ∙ sym (line_after_lem chunk read held line told (begun carry));
        }

    -- no line ends in what is left of the chunk
    pub progress_used : shown None ≡ next_line chunk read (begun held) → (last : Carry) → begun last ≡ more (begun held) (drop read chunk)
        → Progress bytes formed s carry chunk before after t last (length chunk) wrote
    progress_used told last new = record {
      calls = p.calls;
      text = p.text;
      said = λ rest. p.said rest
          ∙ ap (λ (l : List (Option Call)). p.calls ++ l)
          (line_goes_on chunk read held last rest told new ∙ ap (λ (l : List ℕ). calls_from (begun last) (l ++ rest)) (sym (drop_of_length-le chunk {i = length chunk} (omega arith))));
      runs = p.runs;
      written = p.written;
      roomy = p.roomy;
      so_far = new ∙ used_after chunk read held told (begun carry) p.so_far ∙ ap (line_after (begun carry)) (sym (take-length chunk));
    }

-- what was written is within the output
pub written_within : (at : ℕ) {next before after : ℕ} → next ≤ at + most_line → at + most_line ≤ before → after ≡ before → next ≤ after
written_within at few room same = omega (arith, few, room, same)

-- the lines run on an agent's state are a journal of the agent
pub feeds_by : {a : Agent} {carry : Carry} {chunk before after library : List ℕ} {formed : Bool} (r : Fed) → library ≡ bytes_of a
    → formed ≡ is_well_formed_agent a → Progress library formed a.state carry chunk before after r.agent.state r.carry r.read r.wrote
    → r.agent ≡ in_state a r.agent.state → r.read ≤ length chunk → r.wrote ≤ length after
    → (r.read < length chunk → length after < r.wrote + most_line)
    → (length after < r.wrote + most_line → Between carry r.carry r.read) → Feeds a carry chunk before after r
feeds_by {a} {carry} {chunk} {before} {after} {formed = formed} r own test progress same within room whole stops =
    let p = subst (λ (l : List ℕ). Progress l formed a.state carry chunk before after r.agent.state r.carry r.read r.wrote) own progress in
    record {
      calls = p.calls;
      text = p.text;
      said = p.said;
      journal = subst⁻¹ (Journal a p.calls p.text) same (runs_journal a formed test p.runs);
      written = p.written;
      roomy = p.roomy;
      so_far = p.so_far;
      within = within;
      room = room;
      whole = whole;
      stops = stops;
    }
