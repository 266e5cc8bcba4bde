-- What each way through a turn gives: a feed, or where there is nothing to feed the feed of no bytes, which changes nothing.
use Prim.Native.Nat.{ℕ, ◌+◌, ◌-◌, ◌≤◌, ◌<◌}
use native.Mathlib.Nat.{add-zero}
use native.Mathlib.Omega.{arith}
use mathlib.Core.Path.{◌≡◌, refl, sym, ap, subst, subst⁻¹, ◌∙◌}
use mathlib.Core.Bool.{Bool, true, false}
use Rattle.std.specs.Prelude.{Option}
use mathlib.Core.Logic.{inl}
use mathlib.Core.List.{List, [], ◌∷◌}
use borrow.Author.Tests.{le-leb, lt-leb, eq-eqb, ne_eqb}
use lib.Dec.{leb, eqb}
use lib.ListN.{length, length-drop, take, drop, drop_of_length-le}
use lib.Seq.{take_all}
use Rattle.model.specs.State.{Call}
use Rattle.printing.specs.LineText.{newline}
use Rattle.writing.proofs.WritingLaws.{nothing}
use Rattle.stream.specs.Carried.{begun}
use Rattle.stream.specs.Calls.{at_end}
use Rattle.agent.specs.declared.feed.Fed.{Fed}
use Rattle.agent.specs.Feed.{Feeds, start, silent}
use Rattle.dialogue.specs.declared.Dialogue.{Dialogue}
use Rattle.dialogue.specs.declared.Next.{Next}
use Rattle.dialogue.specs.declared.Next.TheVariants.{Read, Answer, End}
use Rattle.dialogue.specs.Dialogue.{closing, chunk_by, next_in, next_at_end, after_by, TurnsBy, Turns}

-- the feed of no bytes
abbrev unfed : Dialogue → Fed
unfed d = record { agent = d.agent; carry = d.carry; read = 0; wrote = 0 }

nothing_fed : (d : Dialogue) (bytes : List ℕ) → Feeds d.agent d.carry [] bytes bytes (unfed d)
nothing_fed d bytes = record {
  calls = [];
  text = [];
  said = λ rest. refl;
  journal = start;
  written = nothing;
  roomy = silent;
  so_far = refl;
  within = omega arith;
  room = omega arith;
  whole = λ unread. absurd (omega arith);
  stops = λ full. inl (refl, refl);
}

module _ (d : Dialogue) (piece : List ℕ) where
  -- ---- A piece

  -- what is left of it, as the code takes it
  left_over : take (length piece - d.at) (drop d.at piece) ≡ drop d.at piece
  left_over = take_all (length piece - d.at) (drop d.at piece) (simp length-drop (omega arith))

  piece_fed : {before after : List ℕ} (fed : Fed) (next : Next) → next_in (leb (length piece) (d.at + fed.read)) ≡ next
      → Feeds d.agent d.carry (take (length piece - d.at) (drop d.at piece)) before after fed
      → TurnsBy false d piece before after (record { agent = fed.agent; carry = fed.carry; at = d.at + fed.read; wrote = fed.wrote; next = next })
  unfolding chunk_by after_by
  piece_fed {before} {after} fed next e feeds = record {
    fed = fed;
    feeds = subst (λ (chunk : List ℕ). Feeds d.agent d.carry chunk before after fed) left_over feeds;
    gives = ap (λ (n : Next). record { agent = fed.agent; carry = fed.carry; at = d.at + fed.read; wrote = fed.wrote; next = n }) (sym e);
  }

  -- the feed uses it up
  pub used_up : {before after : List ℕ} (fed : Fed) → length piece ≤ d.at + fed.read
      → Feeds d.agent d.carry (take (length piece - d.at) (drop d.at piece)) before after fed
      → TurnsBy false d piece before after (record { agent = fed.agent; carry = fed.carry; at = d.at + fed.read; wrote = fed.wrote; next = Read })
  unfolding next_in
  used_up fed h = piece_fed fed Read (ap next_in (le-leb (length piece) (d.at + fed.read) h))

  -- or leaves some of it
  pub some_left : {before after : List ℕ} (fed : Fed) → d.at + fed.read < length piece
      → Feeds d.agent d.carry (take (length piece - d.at) (drop d.at piece)) before after fed
      → TurnsBy false d piece before after (record { agent = fed.agent; carry = fed.carry; at = d.at + fed.read; wrote = fed.wrote; next = Answer })
  unfolding next_in
  some_left fed h = piece_fed fed Answer (ap next_in (lt-leb (length piece) (d.at + fed.read) h))

  -- all of it was used before
  pub piece_used : (bytes : List ℕ) → length piece ≤ d.at
      → TurnsBy false d piece bytes bytes (record { agent = d.agent; carry = d.carry; at = d.at; wrote = 0; next = Read })
  unfolding chunk_by next_in after_by
  piece_used bytes used = record {
    fed = unfed d;
    feeds = subst⁻¹ (λ (chunk : List ℕ). Feeds d.agent d.carry chunk bytes bytes (unfed d)) (drop_of_length-le piece used) (nothing_fed d bytes);
    gives = ap (λ (end : Bool). record { agent = d.agent; carry = d.carry; at = d.at; wrote = 0; next = next_in end })
        (sym (le-leb (length piece) d.at used))
        ∙ ap (λ (n : ℕ). record { agent = d.agent; carry = d.carry; at = n; wrote = 0; next = next_in (leb (length piece) n) }) (sym (add-zero d.at));
  }

  -- ---- The input's end

  -- what a line that has begun is fed
  line-closed : (call : Option Call) → call ∷ [] ≡ at_end (begun d.carry) → chunk_by true d piece ≡ newline ∷ []
  unfolding chunk_by closing
  line-closed call e = ap closing (sym e)

  end_fed : {before after : List ℕ} (call : Option Call) (fed : Fed) (next : Next) → next_at_end (eqb fed.read 1) ≡ next
      → call ∷ [] ≡ at_end (begun d.carry) → Feeds d.agent d.carry (newline ∷ []) before after fed
      → TurnsBy true d piece before after (record { agent = fed.agent; carry = fed.carry; at = d.at; wrote = fed.wrote; next = next })
  unfolding after_by
  end_fed {before} {after} call fed next last e feeds = record {
    fed = fed;
    feeds = subst⁻¹ (λ (chunk : List ℕ). Feeds d.agent d.carry chunk before after fed) (line-closed call e) feeds;
    gives = ap (λ (n : Next). record { agent = fed.agent; carry = fed.carry; at = d.at; wrote = fed.wrote; next = n })
        (sym (ap (λ (chunk : List ℕ). next_at_end (eqb fed.read (length chunk))) (line-closed call e) ∙ last));
  }

  -- the newline is read, so the input's end is answered
  pub end_read : {before after : List ℕ} (call : Option Call) (fed : Fed) → fed.read ≡ 1 → call ∷ [] ≡ at_end (begun d.carry)
      → Feeds d.agent d.carry (newline ∷ []) before after fed
      → TurnsBy true d piece before after (record { agent = fed.agent; carry = fed.carry; at = d.at; wrote = fed.wrote; next = End })
  unfolding next_at_end
  end_read call fed h = end_fed call fed End (ap next_at_end (eq-eqb fed.read 1 h))

  -- or there was no room for its answer
  pub end_unread : {before after : List ℕ} (call : Option Call) (fed : Fed) → (fed.read ≡ 1 → ⊥) → call ∷ [] ≡ at_end (begun d.carry)
      → Feeds d.agent d.carry (newline ∷ []) before after fed
      → TurnsBy true d piece before after (record { agent = fed.agent; carry = fed.carry; at = d.at; wrote = fed.wrote; next = Read })
  unfolding next_at_end
  end_unread call fed h = end_fed call fed Read (ap next_at_end (ne_eqb fed.read 1 h))

  -- no line has begun
  none-closed : [] ≡ at_end (begun d.carry) → chunk_by true d piece ≡ []
  unfolding chunk_by closing
  none-closed e = ap closing (sym e)

  pub end_silent : (bytes : List ℕ) → [] ≡ at_end (begun d.carry)
      → TurnsBy true d piece bytes bytes (record { agent = d.agent; carry = d.carry; at = d.at; wrote = 0; next = End })
  unfolding next_at_end after_by
  end_silent bytes e = record {
    fed = unfed d;
    feeds = subst⁻¹ (λ (chunk : List ℕ). Feeds d.agent d.carry chunk bytes bytes (unfed d)) (none-closed e) (nothing_fed d bytes);
    gives = ap (λ (chunk : List ℕ). record { agent = d.agent; carry = d.carry; at = d.at; wrote = 0; next = next_at_end (eqb 0 (length chunk)) }) (sym (none-closed e));
  }

-- ---- Which of the two

-- a read of no bytes is the input's end
pub silent_end : {d r : Dialogue} {piece before after : List ℕ} → length piece ≡ 0 → TurnsBy true d [] before after r → Turns d piece before after r
silent_end {piece = []} e turn = turn
silent_end {piece = b ∷ piece} e turn = absurd (omega arith)
