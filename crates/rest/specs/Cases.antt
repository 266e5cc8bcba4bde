-- The calls and answers of document 01's journal after its report, and which of them count.
use Rattle.std.specs.Prelude.{Bool, true, false, List, [], ◌∷◌}
use Rattle.literal.specs.declared.Literal.{Literal}
use Rattle.model.specs.declared.Answer.{Answer}
use Rattle.model.specs.declared.Answer.TheVariants.{Idle, MadeExternal, Stepped, Done, Succeeded, Refused}
use Rattle.model.specs.State.{Call, cycle, outcome}

pub record Row : Type 0 where
  pub call : Call
  pub answer : Answer
  pub counts : Bool

abbrev row : Call → Answer → Bool → Row
row c a counts = record { call = c; answer = a; counts = counts }

-- +9 5 0 0
abbrev nine : Literal
nine = record { head = 9; first = 5; second = 0; third = 0 }

abbrev pub table : List Row
table =
    row cycle (MadeExternal 1 0 1) true
    ∷ row cycle (Done 1 0 0 nine) true
    ∷ row cycle Idle false
    ∷ row (outcome 1 true) (Stepped 1 0 0 1) true
    ∷ row cycle (Succeeded 1) true
    ∷ row cycle Idle false
    ∷ row (outcome 1 true) (Refused 8) false
    ∷ row cycle (Refused 9) false
    ∷ []
