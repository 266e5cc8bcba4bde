-- `next` of the fields of a line meets its contract: the next field ends at the first space, or with the line.
use Rattle.std.proofs.Common.{length, rules, arith, ap, ◌∙◌, add-one}
use Rattle.std.proofs.lemmas.List.{take_rest}
use Rattle.reading.specs.Fields.{fields_of}
use Rattle.reading.proofs.FieldLaws.{fields_at, fields_whole}
use Rattle.reading.proofs.fields.FieldsIterator.next.Goals as goal

pub returns-in-Some-clause-steps : goal.returns-in-Some-clause-steps
returns-in-Some-clause-steps c =
    let rest = c.in_ok-rest.rest.now in
    ap fields_of c.in_ok-rest.was ∙ fields_at rest c.in-Some.space (search rules) (search rules) (search rules) ∙ simp (take_rest, add-one)

pub returns-in-Some-clause-goes : goal.returns-in-Some-clause-goes
returns-in-Some-clause-goes c =
    record { on = λ _. (tt, tt, omega (arith, ap length (returns-in-Some-clause-steps c))); keeps = tt; rests = λ _. tt }

pub returns-in-None-clause-steps : goal.returns-in-None-clause-steps
returns-in-None-clause-steps c = ap fields_of c.in_ok-rest.was ∙ fields_whole c.in_ok-rest.rest.now (search rules)
