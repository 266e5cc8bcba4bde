-- What the words behind the program's name ask for (document 02: request 3 brings `shift`, request 9 `board`, request 10 `endings`).
use Rattle.std.specs.Prelude.{ℕ, ◌-◌, cond, List, [], ◌∷◌, take, Option, None, Some}
use Rattle.std.specs.Str.{bytes_eq}
use Rattle.reading.specs.Call.{number, largest_number}
use Rattle.command.specs.declared.Mode.{Mode}
use Rattle.command.specs.declared.Mode.TheVariants.{Journal, Shift, Board, Endings}

-- ---- Words

-- "shift"
abbrev pub shift_name : List ℕ
shift_name = 115 ∷ 104 ∷ 105 ∷ 102 ∷ 116 ∷ []

-- "board"
abbrev pub board_name : List ℕ
board_name = 98 ∷ 111 ∷ 97 ∷ 114 ∷ 100 ∷ []

-- "endings"
abbrev pub endings_name : List ℕ
endings_name = 101 ∷ 110 ∷ 100 ∷ 105 ∷ 110 ∷ 103 ∷ 115 ∷ []

-- the words behind the program's name, by how many there are with it; where there are more than three, a fourth stands for the rest
unfoldable pub words_of : ℕ → List ℕ → List ℕ → List ℕ → List (List ℕ)
words_of count name first second = take (count - 1) (name ∷ first ∷ second ∷ [] ∷ [])

-- ---- Modes

-- two numbers: a plan and a length
abbrev pub endings_by : Option ℕ → Option ℕ → Option Mode
endings_by None length = None
endings_by (Some plan) None = None
endings_by (Some plan) (Some length) = Some (Endings plan length)

unfoldable pub endings_mode : List ℕ → List ℕ → Option Mode
endings_mode plan length = endings_by (number largest_number plan) (number largest_number length)

-- modes of one word, and of three: a mode joins by a line
unfoldable pub one_word : List ℕ → Option Mode
one_word name =
    cond (bytes_eq name shift_name) (Some Shift)
    (cond (bytes_eq name board_name) (Some Board)
    None)

unfoldable pub three_words : List ℕ → List ℕ → List ℕ → Option Mode
three_words name first second =
    cond (bytes_eq name endings_name) (endings_mode first second)
    None

-- no words: the journal; no mode has two words, or more than three
unfoldable pub mode_of : List (List ℕ) → Option Mode
mode_of [] = Some Journal
mode_of (name ∷ []) = one_word name
mode_of (name ∷ first ∷ []) = None
mode_of (name ∷ first ∷ second ∷ []) = three_words name first second
mode_of (name ∷ first ∷ second ∷ third ∷ more) = None
