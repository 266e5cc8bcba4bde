-- `situation::ask` meets its contract: the first match among the beliefs from a place on is the first of all.
use mathlib.Core.Path.{◌≡◌}
use lib.ListN.{drop}
use Rattle.situation.proofs.AskLaws.{first_match}
use Rattle.situation.proofs.ask.Given as goal

abbrev pub invariant-loop-belief : goal.invariant-loop-belief
invariant-loop-belief l = first_match l.l l.env (drop l.belief-index l.belief-items) ≡ first_match l.l l.env l.belief-items
