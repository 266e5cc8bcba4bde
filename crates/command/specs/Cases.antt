-- Small cases of the words behind the program's name, as one table: the words, and what they ask for.
use Rattle.std.specs.Prelude.{ℕ, List, [], ◌∷◌, Option, None, Some}
use Rattle.command.specs.declared.Mode.{Mode}
use Rattle.command.specs.declared.Mode.TheVariants.{Journal, Shift, Board, Endings}
use Rattle.command.specs.Mode.{shift_name, board_name, endings_name}

pub record Row : Type 0 where
  pub words : List (List ℕ)
  pub wanted : Option Mode

abbrev asks : List (List ℕ) → Mode → Row
asks words mode = record { words = words; wanted = Some mode }

abbrev asks_nothing : List (List ℕ) → Row
asks_nothing words = record { words = words; wanted = None }

-- "0"
abbrev nought : List ℕ
nought = 48 ∷ []

-- "15"
abbrev fifteen : List ℕ
fifteen = 49 ∷ 53 ∷ []

-- "shif"
abbrev begun : List ℕ
begun = 115 ∷ 104 ∷ 105 ∷ 102 ∷ []

-- "Shift"
abbrev capital : List ℕ
capital = 83 ∷ 104 ∷ 105 ∷ 102 ∷ 116 ∷ []

unfoldable pub table : List Row
table =
    asks [] Journal
    ∷ asks (shift_name ∷ []) Shift
    ∷ asks (board_name ∷ []) Board
    ∷ asks (endings_name ∷ nought ∷ fifteen ∷ []) (Endings 0 15)
    -- an empty word, a name's beginning, another letter, a name with a word too many
    ∷ asks_nothing ([] ∷ [])
    ∷ asks_nothing (begun ∷ [])
    ∷ asks_nothing (capital ∷ [])
    ∷ asks_nothing (shift_name ∷ nought ∷ [])
    ∷ asks_nothing (board_name ∷ nought ∷ [])
    ∷ asks_nothing (shift_name ∷ nought ∷ fifteen ∷ [])
    -- a mode of three words with fewer, with more, and with a word that is no number
    ∷ asks_nothing (endings_name ∷ [])
    ∷ asks_nothing (endings_name ∷ nought ∷ [])
    ∷ asks_nothing (endings_name ∷ nought ∷ fifteen ∷ [] ∷ [])
    ∷ asks_nothing (endings_name ∷ nought ∷ [] ∷ [])
    ∷ []
