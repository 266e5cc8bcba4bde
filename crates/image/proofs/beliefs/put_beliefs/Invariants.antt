-- `image::beliefs::put_beliefs` meets its contract. The loop's invariant: the beliefs passed are written.
use Rattle.image.specs.BeliefImage.{literal_size, literal_bytes}
use Rattle.image.proofs.WordLaws.{Parts}
use Rattle.image.proofs.beliefs.put_beliefs.Given as goal

abbrev pub invariant-loop-l : goal.invariant-loop-l
invariant-loop-l l = Parts literal_bytes literal_size l.beliefs l.initial.out l.initial.o l.out l.o l.l-index
