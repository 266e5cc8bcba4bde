-- Every line of an input says its call, once, however the input is cut into chunks.
use Prim.Native.Nat.{ℕ}
use mathlib.Core.Path.{◌≡◌, sym, ap, ◌∙◌}
use Rattle.std.specs.Prelude.{Option, Some}
use mathlib.Core.List.{List, [], ◌∷◌, ◌++◌, map, append-nil, append_assoc}
use native.Mathlib.Omega.{arith}
use lib.Dec.{leb}
use lib.ListN.{length, drop}
use borrow.Author.Tests.{eqb-true, leb-true, leb-false}
use Rattle.lists.proofs.BoolLaws.{by_cases}
use Rattle.model.specs.State.{Call}
use Rattle.reading.specs.Call.{most_line, call_of}
use Rattle.reading.specs.Spoken.{meaning}
use Rattle.reading.proofs.LongLines.{long_unreadable}
use Rattle.stream.specs.declared.Carry.{Carry}
use Rattle.stream.specs.Lines.{is_newline, lines}
use Rattle.stream.specs.Carried.{kept, begun, Holds}
use Rattle.stream.specs.Calls.{at_end, calls_from}
use Rattle.stream.specs.Feeding.{joined, Feeding, ends, further, stops}
use Rattle.stream.proofs.LineLaws.{Plain, plain-append, lines-newline, lines_end, only}
use Rattle.stream.proofs.CarryLaws.{kept_short, kept_long, said-kept, more_kept}
use Rattle.stream.proofs.ChunkLaws.{line_ends, line_goes_on}

-- ---- The rest of an input, after a line so far

-- a line that the input's end ends
end-only : (line : List ℕ) → at_end (kept line) ≡ map call_of (only line)
end-only [] = rw (kept_short [] (omega arith))
end-only (b ∷ line) =
    by_cases (leb (length (b ∷ line)) most_line)
    (λ e. rw (kept_short (b ∷ line) (leb-true _ _ e)))
    (λ e. let far = leb-false (length (b ∷ line)) most_line e in rw (kept_long (b ∷ line) far, long_unreadable (b ∷ line) far))

pub calls-after : (line rest : List ℕ) → Plain line → calls_from (kept line) rest ≡ map call_of (lines (line ++ rest))
calls-after line [] p = rw (append-nil, lines_end line p) (end-only line)
calls-after line (b ∷ rest) p =
    by_cases (is_newline b)
    (λ e.
    rw (e, eqb-true b 10 e, lines-newline line rest p, said-kept line)
    (ap (λ calls. call_of line ∷ calls) (ap (λ o. calls_from o rest) (sym (kept_short [] (omega arith))) ∙ calls-after [] rest tt)))
    (λ e.
    rw (e, more_kept line (b ∷ []))
    (calls-after (line ++ (b ∷ [])) rest (plain-append line (b ∷ []) p (e, tt)) ∙ ap (λ l. map call_of (lines l)) (append_assoc line (b ∷ []) rest)))

-- what a carry stands for, and all that comes after it
pub calls_held : (carry : Carry) (line rest : List ℕ) → Plain line → Holds carry line → calls_from (begun carry) rest ≡ map call_of (lines (line ++ rest))
calls_held carry line rest p h = ap (λ o. calls_from o rest) h ∙ calls-after line rest p

-- a whole input
pub calls-lines : (input : List ℕ) → calls_from (Some []) input ≡ map call_of (lines input)
calls-lines input = ap (λ o. calls_from o input) (sym (kept_short [] (omega arith))) ∙ calls-after [] input tt

-- ---- Chunk by chunk

pub fed : {carry : Carry} {chunk : List ℕ} {at : ℕ} {chunks : List (List ℕ)} {calls : List (Option Call)}
    → Feeding carry chunk at chunks calls → calls ≡ calls_from (begun carry) (drop at chunk ++ joined chunks)
fed (ends {carry} {fresh} {chunk} {at} {chunks} {calls} line told new f) =
    ap (λ rest. meaning line.call ∷ rest) (fed f ∙ ap (λ o. calls_from o (drop line.at chunk ++ joined chunks)) new)
    ∙ sym (line_ends chunk at carry line (joined chunks) told)
fed (further {carry} {held} {chunk} {another} {at} {chunks} {calls} told new f) =
    fed f ∙ sym (line_goes_on chunk at carry held (another ++ joined chunks) told new)
fed (stops {carry} {chunk} {at} held l told new last) = last ∙ sym (line_goes_on chunk at carry held [] told new)

-- however an input is cut into chunks, what comes out is the call of each of its lines, in order
pub every_line : {carry : Carry} {chunk : List ℕ} {chunks : List (List ℕ)} {calls : List (Option Call)}
    → begun carry ≡ Some [] → Feeding carry chunk 0 chunks calls → calls ≡ map call_of (lines (joined (chunk ∷ chunks)))
every_line {carry} {chunk} {chunks} e f =
    fed f ∙ ap (λ o. calls_from o (chunk ++ joined chunks)) e ∙ calls-lines (chunk ++ joined chunks)
