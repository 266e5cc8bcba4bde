-- The fields of a line that are still to be read, as the code walks over them (document 01, "Journal").
-- Private vocabulary: no public contract rests on it.
use Rattle.std.specs.Prelude.{ℕ, ◌≡◌, List, [], Option, None, Some}
use Rattle.std.specs.Borrow.{Bor}
use Rattle.reading.specs.declared.fields.Fields.{Fields}
use Rattle.literal.specs.Match.{and_then}
use Rattle.model.specs.State.{Call}
use Rattle.reading.specs.Call.{fields, field, number, largest_predicate, head_of, signed}

-- the fields of what is left of a line, where anything is left
abbrev pub fields_of : Option (Bor (List ℕ)) → List (List ℕ)
fields_of None = []
fields_of (Some rest) = fields rest.now

abbrev pub fields_left : Fields → List (List ℕ)
fields_left f = fields_of f.rest

-- the next field was read, and what is left is behind it: whatever is read after it
abbrev pub Reads : (List ℕ → Option ℕ) → Fields → Option ℕ → Fields → Type 0
Reads read before said after =
    (next : ℕ → List (List ℕ) → Option Call) → field read (fields_left before) next ≡ and_then said (λ n. next n (fields_left after))

-- what follows a head's sign: its predicate, and then the others
abbrev pub behind_sign : ℕ → List (List ℕ) → (ℕ → List (List ℕ) → Option Call) → Option Call
behind_sign sign texts next =
    field (number largest_predicate) texts (λ predicate texts. and_then (signed sign predicate) (λ head. next head texts))

-- the next field's sign was read, and its predicate is left before what is behind it
abbrev pub ReadsSign : Fields → Option ℕ → Fields → Type 0
ReadsSign before said after =
    (next : ℕ → List (List ℕ) → Option Call) → field head_of (fields_left before) next ≡ and_then said (λ sign. behind_sign sign (fields_left after) next)
