-- What an add and a removal make of the whole table, every place of its array (document 01, "Literals and matching", Beliefs).
use Rattle.std.specs.Prelude.{ℕ, ◌+◌, ◌-◌, Bool, true, false, ◌&&◌, set, leb, ltb}
use Rattle.lists.specs.Search.{position}
use Rattle.lists.specs.Gap.{close_gap}
use Rattle.literal.specs.declared.Literal.{Literal}
use Rattle.literal.specs.Literal.{same, opposite}
use Rattle.belief.specs.declared.Beliefs.{Beliefs}
use Rattle.belief.specs.declared.Effect.{Effect}
use Rattle.belief.specs.declared.Effect.TheVariants.{Nothing, Impossible, Changed, Replaced}
use Rattle.belief.specs.declared.Applied.{Applied}
use Rattle.belief.specs.Beliefs.{most_beliefs, size, view, holds, are_sound}

-- ---- What was done

-- there was room for it
abbrev pub fitted : Effect → Bool
fitted Nothing = true
fitted Impossible = false
fitted Changed = true
fitted Replaced = true

-- the table changed
abbrev pub changed : Effect → Bool
changed Nothing = false
changed Impossible = false
changed Changed = true
changed Replaced = true

-- an add took out the opposite
abbrev pub cleared : Effect → Bool
cleared Nothing = false
cleared Impossible = false
cleared Changed = false
cleared Replaced = true

-- an add, by what taking out the opposite did
abbrev pub over : Effect → Effect
over Nothing = Changed
over Impossible = Changed
over Changed = Replaced
over Replaced = Replaced

-- ---- A removal

abbrev pub unchanged : Beliefs → Applied
unchanged table = record { table = table; effect = Nothing }

-- by whether the literal is held, and its place
abbrev pub remove_by : Bool → ℕ → Beliefs → Applied
remove_by false place table = unchanged table
remove_by true place table =
    let next : Beliefs = record { items = close_gap place (size table - 1) table.items; count = size table - 1 } in
    record { table = next; effect = Changed }

-- absent: no change; else the gap is closed
unfoldable pub remove : Beliefs → Literal → Applied
remove table l = remove_by (holds (view table) l) (position (same l) (view table)) table

-- ---- An add

-- the literal behind the others
abbrev pub append : Beliefs → Literal → Beliefs
append table l = record { items = set table.items table.count l; count = table.count + 1 }

-- by whether the literal is held, and whether there is room where its opposite is taken out
abbrev pub add_by : Bool → Bool → Applied → Beliefs → Literal → Applied
add_by true room without table l = unchanged table
add_by false false without table l = record { table = table; effect = Impossible }
add_by false true without table l = record { table = append without.table l; effect = over without.effect }

-- held: no change; else its opposite is taken out; 64 held still: does not fit; else last
unfoldable pub add : Beliefs → Literal → Applied
add table l =
    let without = remove table (opposite l) in
    add_by (holds (view table) l) (ltb without.table.count most_beliefs) without table l

-- the rules for beliefs, of a table
unfoldable pub is_table : Beliefs → Bool
is_table table = leb table.count most_beliefs && are_sound (view table)
