-- A trigger's kind field holds a kind and which variable's least value chooses, and says both again; without the mark it is the kind.
use Prim.Native.Nat.{ℕ, ◌+◌, ◌*◌, ◌<◌}
use native.Mathlib.Omega.{arith}
use mathlib.Core.Path.{◌≡◌}
use mathlib.Core.List.{List}
use Rattle.library.specs.Bytes.{u16_at}
use Rattle.library.specs.Layout.{kind_in, least_in, plan_at}

-- the kind with 16 × (v + 1) added, where least is v + 1, or with nothing, where it is 0
pub field-says : (kind least : ℕ) → kind < 16 → (kind_in (kind + 16 * least) ≡ kind) × (least_in (kind + 16 * least) ≡ least)
field-says kind least h = (omega arith, omega arith)

-- every field is such a sum
pub field_is : (field : ℕ) → field ≡ kind_in field + 16 * least_in field
field_is field = omega arith

-- a plan whose field has no mark: its kind is the field, and its first solution is used
pub unmarked_field : (bytes : List ℕ) (off : ℕ) → u16_at bytes off < 16
    → ((plan_at bytes off).kind ≡ u16_at bytes off) × ((plan_at bytes off).least ≡ 0)
unfolding plan_at
unmarked_field bytes off h = (omega arith, omega arith)
