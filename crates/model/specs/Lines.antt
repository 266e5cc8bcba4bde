-- The journal's letter and values for each answer (document 01, "Journal").
use Rattle.std.specs.Prelude.{ℕ, List, [], ◌∷◌}
use Rattle.literal.specs.declared.Literal.{Literal}
use Rattle.belief.specs.declared.Change.{Change}
use Rattle.model.specs.declared.Answer.{Answer}
use Rattle.model.specs.declared.Answer.TheVariants.{Taken, Idle, Dropped, Unmet, MadeExternal, MadeGoal, Stepped, Missed, Done, Posted, Succeeded, Failed, Refused}
use Rattle.model.specs.State.{Result}

-- the letters that begin a line
pub data Letter : Type 0 where
  T I N U M S B D G E F X : Letter

-- what stands after the letter: a number, the word e or g before an external number or a poster, a literal
pub data Field : Type 0 where
  number : ℕ → Field
  e g : Field
  literal : Literal → Field

-- the letter of an answer
unfoldable pub letter_of : Answer → Letter
letter_of (Taken n) = T
letter_of Idle = I
letter_of (Dropped n failures) = N
letter_of (Unmet i s b failures) = U
letter_of (MadeExternal i plan n) = M
letter_of (MadeGoal i plan poster) = M
letter_of (Stepped i s b next) = S
letter_of (Missed i s b) = B
letter_of (Done i s b l) = D
letter_of (Posted i s b) = G
letter_of (Succeeded i) = E
letter_of (Failed i) = F
letter_of (Refused n) = X

-- its values, in the order of the line
unfoldable pub fields_of : Answer → List Field
fields_of (Taken n) = number n ∷ []
fields_of Idle = []
fields_of (Dropped n failures) = number n ∷ number failures ∷ []
fields_of (Unmet i s b failures) = number i ∷ number s ∷ number b ∷ number failures ∷ []
fields_of (MadeExternal i plan n) = number i ∷ number plan ∷ e ∷ number n ∷ []
fields_of (MadeGoal i plan poster) = number i ∷ number plan ∷ g ∷ number poster ∷ []
fields_of (Stepped i s b next) = number i ∷ number s ∷ number b ∷ number next ∷ []
fields_of (Missed i s b) = number i ∷ number s ∷ number b ∷ []
fields_of (Done i s b l) = number i ∷ number s ∷ number b ∷ literal l ∷ []
fields_of (Posted i s b) = number i ∷ number s ∷ number b ∷ []
fields_of (Succeeded i) = number i ∷ []
fields_of (Failed i) = number i ∷ []
fields_of (Refused n) = number n ∷ []

-- a line of the journal: the letter, its fields, then each change
pub record Line : Type 0 where
  pub letter : Letter
  pub fields : List Field
  pub changes : List Change

-- the line of a result
abbrev pub line_of : Result → Line
line_of result = record { letter = letter_of result.answer; fields = fields_of result.answer; changes = result.changes }
