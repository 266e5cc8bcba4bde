-- `belief::are_sound` meets its contract. The loop's invariant: the rules for what is left decide as for the whole.
use mathlib.Core.Path.{◌≡◌}
use lib.ListN.{drop}
use Rattle.belief.specs.Beliefs.{are_sound}
use Rattle.belief.proofs.are_sound.Given as goal

abbrev pub invariant-loop-i : goal.invariant-loop-i
invariant-loop-i l = are_sound (drop l.i l.beliefs) ≡ are_sound l.beliefs
