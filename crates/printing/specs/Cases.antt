-- Results with the text of their lines: the eight lines of document 01 ("Journal"), each letter, and the longest line.
use Rattle.std.specs.Prelude.{ℕ, true, false, List, [], ◌∷◌, ◌++◌}
use Prim.Native.Char.{code}
use Prim.Native.String as Text
use Prim.Native.String.{String}
use Rattle.literal.specs.declared.Literal.{Literal}
use Rattle.belief.specs.declared.Change.{Change}
use Rattle.model.specs.declared.Answer.{Answer}
use Rattle.model.specs.declared.Answer.TheVariants.{Taken, Idle, Dropped, Unmet, MadeExternal, MadeGoal, Stepped, Missed, Done, Posted, Succeeded, Failed, Refused}
use Rattle.model.specs.State.{Result}

-- the bytes of a text
unfoldable pub bytes : String → List ℕ
bytes Text.[] = []
bytes (Text.◌∷◌ c text) = code c ∷ bytes text

-- a result, and the text of its line
pub record Row : Type 0 where
  pub result : Result
  pub text : String

abbrev row : Answer → List Change → String → Row
row answer changes text = record { result = record { answer = answer; changes = changes }; text = text }

abbrev lit : ℕ → ℕ → ℕ → ℕ → Literal
lit head first second third = record { head = head; first = first; second = second; third = third }

abbrev adds : Literal → Change
adds l = record { removes = false; literal = l }

abbrev removes : Literal → Change
removes l = record { removes = true; literal = l }

-- ---- The journal of document 01

abbrev pub journal : List Row
journal =
    row (Taken 1) (adds (lit 1 5 0 0) ∷ []) "T 1 a +1 5 0 0\n"
    ∷ row (MadeExternal 1 0 1) [] "M 1 0 e 1\n"
    ∷ row (Done 1 0 0 (lit 9 5 0 0)) [] "D 1 0 0 +9 5 0 0\n"
    ∷ row Idle [] "I\n"
    ∷ row (Stepped 1 0 0 1) [] "S 1 0 0 1\n"
    ∷ row (Succeeded 1) (removes (lit 1 5 0 0) ∷ []) "E 1 r +1 5 0 0\n"
    ∷ row Idle [] "I\n"
    ∷ row (Refused 8) [] "X 8\n"
    ∷ []

-- ---- The other letters, and numbers of every length

abbrev pub others : List Row
others =
    row (Dropped 1 1) [] "N 1 1\n"
    ∷ row (Dropped 4294967295 4294967295) [] "N 4294967295 4294967295\n"
    ∷ row (MadeExternal 65536 31 4000000000) [] "M 65536 31 e 4000000000\n"
    ∷ row (Unmet 10 15 3 32) [] "U 10 15 3 32\n"
    ∷ row (Unmet 100 0 0 100000) [] "U 100 0 0 100000\n"
    ∷ row (MadeGoal 999 31 1000) [] "M 999 31 g 1000\n"
    ∷ row (Missed 9999 0 0) [] "B 9999 0 0\n"
    ∷ row (Posted 10000 7 2) [] "G 10000 7 2\n"
    ∷ row (Failed 40506) (adds (lit 32768 0 0 0) ∷ removes (lit 32767 1 20 300) ∷ []) "F 40506 a -0 0 0 0 r +32767 1 20 300\n"
    ∷ row (Refused 0) [] "X 0\n"
    ∷ []

-- ---- The longest line

abbrev longest : Literal
longest = lit 65535 65535 65535 65535

abbrev pub longest_row : Row
longest_row =
    row (Done 4294967295 65535 65535 longest)
    (adds longest ∷ removes longest ∷ adds longest ∷ removes longest
    ∷ adds longest ∷ removes longest ∷ adds longest ∷ removes longest ∷ [])
    (Text.◌++◌ "D 4294967295 65535 65535 -32767 65535 65535 65535 a -32767 65535 65535 65535 r -32767 65535 65535 65535"
    (Text.◌++◌ " a -32767 65535 65535 65535 r -32767 65535 65535 65535 a -32767 65535 65535 65535 r -32767 65535 65535 65535"
    " a -32767 65535 65535 65535 r -32767 65535 65535 65535\n"))

abbrev pub table : List Row
table = journal ++ (others ++ (longest_row ∷ []))
