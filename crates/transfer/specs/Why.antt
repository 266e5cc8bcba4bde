-- The line that says why a call failed: words, a colon and a space, the error's text, a newline.
-- Where a part cannot be written at once only its beginning is there.
use Rattle.std.specs.Prelude.{ℕ, List, [], ◌∷◌, ◌++◌, take, Option}
use Rattle.std.specs.Io.KnownBytes.{Appends}

-- a colon and a space
abbrev pub between : List ℕ
between = 58 ∷ 32 ∷ []

abbrev pub newline : List ℕ
newline = 10 ∷ []

-- so many bytes of each part are written behind what was there, for some text
abbrev pub SaysWhy : Option (List ℕ) → Option (List ℕ) → List ℕ → Type 0
SaysWhy old new words =
    (text : List ℕ) × (a : ℕ) × (b : ℕ) × (c : ℕ) × (d : ℕ)
    × Appends old new (take a words ++ (take b between ++ (take c text ++ take d newline)))
