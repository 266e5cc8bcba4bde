-- `image::words::put_words` meets its contract. The loop's invariant: the numbers passed are written.
use Rattle.image.specs.Words.{word_size, word_bytes}
use Rattle.image.proofs.WordLaws.{Parts}
use Rattle.image.proofs.words.put_words.Given as goal

abbrev pub invariant-loop-word : goal.invariant-loop-word
invariant-loop-word l = Parts word_bytes word_size l.words l.initial.out l.at l.out l.o l.word-index
