-- The loop's invariant: the changes left make of the table so far what all of them make of the table given.
use Rattle.std.proofs.Common.{◌≡◌, drop}
use Rattle.change.specs.Changes.{steps}
use Rattle.change.proofs.change.Given as goal

abbrev pub invariant-loop-c : goal.invariant-loop-c
invariant-loop-c l = steps l.t (drop l.c-index l.changes) ≡ steps l.initial.t l.changes
