-- Cases of request 11: what a divide binds, and where it is missed.
use Rattle.std.specs.Prelude.{ℕ, ◌+◌, ◌*◌, List, [], ◌∷◌, Option, None, Some}
use Rattle.literal.specs.declared.Literal.{Literal}
use Rattle.literal.specs.declared.Env.{Env}

-- a divide of two terms into Vq and Vr
abbrev into : ℕ → ℕ → ℕ → ℕ → Literal
into q r length panel = record { head = q + 8 * r; first = length; second = panel; third = 0 }

-- the values of V0 to V3; nothing else is bound
abbrev values_are : ℕ → ℕ → ℕ → ℕ → Env
values_are first second third fourth =
    record { terms = first ∷ second ∷ third ∷ fourth ∷ 65532 ∷ 65533 ∷ 65534 ∷ 65535 ∷ [] }

-- V0 and V1 are unbound, V2 is a length and V3 a panel
abbrev lengths_are : ℕ → ℕ → Env
lengths_are length panel = values_are 65528 65529 length panel

pub record DivideCase : Type 0 where
  pub literal : Literal
  pub before : Env
  pub after : Option Env

abbrev pub divide_cases : List DivideCase
divide_cases =
    -- V2 by V3 into V0 and V1: 17 = 3 × 5 + 2, 15 = 3 × 5 + 0, 4 = 0 × 5 + 4
    record { literal = into 0 1 65530 65531; before = lengths_are 17 5; after = Some (values_are 3 2 17 5) }
    ∷ record { literal = into 0 1 65530 65531; before = lengths_are 15 5; after = Some (values_are 3 0 15 5) }
    ∷ record { literal = into 0 1 65530 65531; before = lengths_are 4 5; after = Some (values_are 0 4 4 5) }
    -- into V1 and V0; constants; the greatest one
    ∷ record { literal = into 1 0 65530 65531; before = lengths_are 17 5; after = Some (values_are 2 3 17 5) }
    ∷ record { literal = into 0 1 17 5; before = lengths_are 1 1; after = Some (values_are 3 2 1 1) }
    ∷ record { literal = into 0 1 65527 1; before = lengths_are 1 1; after = Some (values_are 65527 0 1 1) }
    -- missed: the length V4 unbound, the panel V4 unbound, the panel 0, V0 bound, V1 bound
    ∷ record { literal = into 0 1 65532 65531; before = lengths_are 17 5; after = None }
    ∷ record { literal = into 0 1 65530 65532; before = lengths_are 17 5; after = None }
    ∷ record { literal = into 0 1 65530 65531; before = lengths_are 17 0; after = None }
    ∷ record { literal = into 0 1 65530 65531; before = values_are 3 65529 17 5; after = None }
    ∷ record { literal = into 0 1 65530 65531; before = values_are 65528 2 17 5; after = None }
    -- missed: into the length itself, unbound or bound; into the panel itself
    ∷ record { literal = into 0 1 65528 5; before = lengths_are 1 1; after = None }
    ∷ record { literal = into 0 1 65528 5; before = values_are 17 65529 1 1; after = None }
    ∷ record { literal = into 0 1 17 65529; before = lengths_are 1 1; after = None }
    ∷ []
