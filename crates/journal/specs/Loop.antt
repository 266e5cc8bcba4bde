-- The loop around the dialogue (document 01, "Journal"): until the input's end is answered, a read where another piece is next, else a
-- turn, whose answers are written. This is what canarystand's answer_all does, where no read and no write fails.
use Rattle.std.specs.Prelude.{ℕ, ◌≡◌, true, List, [], ◌++◌, take}
use Rattle.dialogue.specs.declared.Dialogue.{Dialogue}
use Rattle.dialogue.specs.declared.Next.TheVariants.{Read, Answer, End}
use Rattle.dialogue.specs.Dialogue.{heard, is_end, Turns}

-- a turn of `answer` on a piece, and the bytes that it wrote: the first ones of its output
pub record TurnWrites (d : Dialogue) (piece written : List ℕ) (r : Dialogue) : Type 0 where
  pub before : List ℕ
  pub after : List ℕ
  pub turn : Turns d piece before after r
  pub first : written ≡ take r.wrote after

-- from a dialogue and the piece read last, by the input that is not read yet and the output that is written, to the dialogue at the end
pub data Loop : Dialogue → List ℕ → List ℕ → List ℕ → Dialogue → Type 0 where
  -- the input's end is answered
  over : {d : Dialogue} {piece : List ℕ} → d.next ≡ End → Loop d piece [] [] d
  -- another piece is read; one of no bytes is the input's end
  reads : {d e : Dialogue} {last rest output : List ℕ} (piece : List ℕ)
      → d.next ≡ Read → (is_end piece ≡ true → rest ≡ [])
      → Loop (heard d) piece rest output e → Loop d last (piece ++ rest) output e
  -- or a turn is made on what is left of the last one
  turns : {d e : Dialogue} {piece rest output : List ℕ} (written : List ℕ) (r : Dialogue)
      → d.next ≡ Answer → TurnWrites d piece written r
      → Loop r piece rest output e → Loop d piece rest (written ++ output) e
