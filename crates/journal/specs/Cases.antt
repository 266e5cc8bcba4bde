-- Small cases 8, 9 and 10 of document 01 ("Small cases, held by proof") with their text: the library's bytes and the input,
-- and the refusal of load (0: accepted) and the output that are wanted.
use Rattle.std.specs.Prelude.{ℕ, List, [], ◌∷◌}
use Prim.Native.String as Text
use Prim.Native.String.{String}
use Rattle.accepted.specs.Refusal.{refusal_of}
use Rattle.accepted.specs.Cases.{journal_library}
use Rattle.printing.specs.Cases.{bytes}
use Rattle.journal.specs.Output.{printed_for}

pub record Seen : Type 0 where
  pub refusal : ℕ
  pub output : List ℕ

pub record Row : Type 0 where
  pub library : List ℕ
  pub input : String
  pub refusal : ℕ
  pub output : String

unfoldable pub seen : Row → Seen
seen row = record { refusal = refusal_of row.library; output = printed_for row.library (bytes row.input) }

unfoldable pub wanted : Row → Seen
wanted row = record { refusal = row.refusal; output = bytes row.output }

-- ---- The table

abbrev row : List ℕ → String → ℕ → String → Row
row library input refusal output = record { library = library; input = input; refusal = refusal; output = output }

-- on the library of 58 bytes
abbrev journal : String → String → Row
journal input output = row journal_library input 0 output

-- the first four lines of the journal
abbrev begun : String → String
begun rest = Text.◌++◌ "T 1 a +1 5 0 0\nM 1 0 e 1\nD 1 0 0 +9 5 0 0\nI\n" rest

abbrev pub table : List Row
table =
    -- 8: load of four zero bytes, of three, of five
    row (0 ∷ 0 ∷ 0 ∷ 0 ∷ []) "C\n" 0 "I\n"
    ∷ row (0 ∷ 0 ∷ 0 ∷ []) "C\n" 1 "X 1\n"
    ∷ row (0 ∷ 0 ∷ 0 ∷ 0 ∷ 0 ∷ []) "C\n" 2 "X 2\n"
    -- 9
    ∷ journal "P 0 +1 5 0 0\nC\nC\nC\nO 1 1\nC\nC\nO 1 1\n" (begun "S 1 0 0 1\nE 1 r +1 5 0 0\nI\nX 8\n")
    -- 10
    ∷ journal "P 0 +1 5 0 0\nC\nC\nC\nO 1 0\nC\nC\nO 1 1\n" (begun "B 1 0 0\nF 1\nN 1 1\nX 8\n")
    -- no input; a last line without a newline; lines that cannot be read
    ∷ journal "" ""
    ∷ journal "P 0 +1 5 0 0" "T 1 a +1 5 0 0\n"
    ∷ journal "\nP 0 +1 5 0\nC\nC \nP 0 +1 5 0 0 and much more than the longest line\nC" "X 0\nX 0\nI\nX 0\nX 0\nI\n"
    ∷ []
