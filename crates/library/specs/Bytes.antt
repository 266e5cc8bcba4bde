-- Numbers, literals and rows of items in a list of bytes (document 01, "Library"). Past the end every byte is 0.
-- `..At bytes at` is the value at an offset.
use Rattle.std.specs.Prelude.{ℕ, zero, suc, ◌+◌, ◌*◌, List, [], ◌∷◌, get_or}
use Rattle.literal.specs.declared.Literal.{Literal}
use Rattle.library.specs.declared.Action.{Action}
use Rattle.library.specs.declared.Branch.{Branch}

-- a number of 16 bits, low byte first
unfoldable pub u16_at : List ℕ → ℕ → ℕ
u16_at bytes at = get_or bytes at 0 + 256 * get_or bytes (at + 1) 0

abbrev pub literal_at : List ℕ → ℕ → Literal
literal_at bytes at =
    record { head = u16_at bytes at; first = u16_at bytes (at + 2); second = u16_at bytes (at + 4); third = u16_at bytes (at + 6) }

abbrev pub action_at : List ℕ → ℕ → Action
action_at bytes at = record { kind = u16_at bytes at; literal = literal_at bytes (at + 2) }

abbrev pub branch_at : List ℕ → ℕ → Branch
branch_at bytes at = record { kind = u16_at bytes at; literal = literal_at bytes (at + 2); next = u16_at bytes (at + 10) }

-- n items of `width` bytes each, read from an offset on
unfoldable pub items : {A : Type 0} → (ℕ → A) → ℕ → ℕ → ℕ → List A
items read width zero at = []
items read width (suc n) at = read at ∷ items read width n (at + width)

-- n rows, each its number of items and them
unfoldable pub rows : {A : Type 0} → (ℕ → A) → List ℕ → ℕ → ℕ → ℕ → List (List A)
rows read bytes width zero at = []
rows read bytes width (suc n) at =
    items read width (u16_at bytes at) (at + 2) ∷ rows read bytes width n (at + 2 + width * u16_at bytes at)

-- the offset past n rows
unfoldable pub rows_end : List ℕ → ℕ → ℕ → ℕ → ℕ
rows_end bytes width zero at = at
rows_end bytes width (suc n) at = rows_end bytes width n (at + 2 + width * u16_at bytes at)
