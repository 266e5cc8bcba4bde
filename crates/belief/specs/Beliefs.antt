-- Beliefs as a list, oldest first (document 01, "Literals and matching", Beliefs; dMARS 8.1, dMARSAgentState.beliefs).
-- Departs from dMARS: a list with an order and at most 64 members, not a set.
use Rattle.std.specs.Prelude.{ℕ, min, Bool, cond, ◌&&◌, ◌||◌, length, take, leb, ltb}
use mathlib.Core.List.{List, [], ◌∷◌, ◌++◌, foldl}
use Rattle.std.specs.List.{list_any, list_all}
use Rattle.lists.specs.Search.{distinct, position}
use Rattle.lists.specs.Gap.{remove_at}
use Rattle.literal.specs.declared.Literal.{Literal}
use Rattle.literal.specs.Literal.{is_ground, same, opposite, opposed}
use Rattle.belief.specs.declared.Beliefs.{Beliefs}
use Rattle.belief.specs.declared.Change.{Change}

abbrev pub most_beliefs : ℕ
most_beliefs = 64

-- ---- The beliefs of a table

-- how many places of the table are in use
abbrev pub size : Beliefs → ℕ
size table = min table.count most_beliefs

-- the literals in those places
abbrev pub view : Beliefs → List Literal
view table = take (size table) table.items

-- ---- The rules for beliefs

-- the literal is a belief
unfoldable pub holds : List Literal → Literal → Bool
holds beliefs l = list_any (same l) beliefs

-- all ground, all different, no opposites
abbrev pub are_sound : List Literal → Bool
are_sound beliefs = list_all is_ground beliefs && (distinct same beliefs && distinct opposed beliefs)

-- at most 64, all ground, all different, no opposites
unfoldable pub are_beliefs : List Literal → Bool
are_beliefs beliefs = leb (length beliefs) most_beliefs && are_sound beliefs

-- ---- Changes, as the ledger applies them (document 01, "The three calls", the paragraph on demand 3)

-- one that is held stays where it is, else the literal goes last
unfoldable pub plus : List Literal → Literal → List Literal
plus beliefs l = cond (holds beliefs l) beliefs (beliefs ++ (l ∷ []))

-- without the literal; the others keep their order
unfoldable pub minus : List Literal → Literal → List Literal
minus beliefs l = remove_at (position (same l) beliefs) beliefs

-- an add of the literal fits: it is held, or takes out its opposite, or finds fewer than 64
unfoldable pub fits : List Literal → Literal → Bool
fits beliefs l = holds beliefs l || (holds beliefs (opposite l) || ltb (length beliefs) most_beliefs)

-- an add: one that is held stays where it is, else its opposite is taken out and the literal goes last (document 02, request 1)
unfoldable pub put : List Literal → Literal → List Literal
put beliefs l = cond (holds beliefs l) beliefs (plus (minus beliefs (opposite l)) l)

abbrev pub change : List Literal → Change → List Literal
change beliefs c = cond c.removes (minus beliefs c.literal) (plus beliefs c.literal)

-- the beliefs after a list of changes, applied in order
unfoldable pub replay : List Literal → List Change → List Literal
replay beliefs changes = foldl change beliefs changes
