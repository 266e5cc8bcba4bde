-- `sign` of the fields of a line meets its contract.
use mathlib.Core.Path.{ap, ◌∙◌}
use Rattle.std.proofs.lemmas.List.{take_rest}
use Rattle.reading.specs.Call.{field, head_of}
use Rattle.reading.specs.Fields.{fields_of}
use Rattle.reading.proofs.ScanLaws.{sign_left, sign_missing}
use Rattle.reading.proofs.fields.Fields.sign.Goals as goal

pub returns-in-empty : goal.returns-in-empty
returns-in-empty c next = ap (λ left. field head_of (fields_of left) next) c.in_ok-rest.was ∙ sign_missing c.in_ok-rest.rest.now next c.in-empty.len_below

pub returns-in-len1-up : goal.returns-in-len1-up
returns-in-len1-up c next =
    ap (λ left. field head_of (fields_of left) next) c.in_ok-rest.was ∙ sign_left c.in_ok-rest.rest.now next c.in-len1-up.len_at_least ∙ simp take_rest
