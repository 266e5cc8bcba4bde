-- `image::words::put_words` meets its contract: one part more.
use Rattle.image.specs.Words.{word_size, word_bytes}
use Rattle.image.proofs.WordLaws.{next_part}
use Rattle.image.proofs.words.put_words.Goals as goal

pub loop-word-preserved : goal.loop-word-preserved
loop-word-preserved c = next_part word_bytes word_size c.args.words.now _ c.loop-word-test.true c.loop-word.invariant c.put_word-o.ensures
