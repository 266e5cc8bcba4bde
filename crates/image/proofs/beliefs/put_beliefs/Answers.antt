-- `image::beliefs::put_beliefs` meets its contract: one part more.
use Rattle.image.specs.BeliefImage.{literal_size, literal_bytes}
use Rattle.image.proofs.WordLaws.{next_part}
use Rattle.image.proofs.beliefs.put_beliefs.Goals as goal

pub loop-l-preserved : goal.loop-l-preserved
loop-l-preserved c =
    next_part literal_bytes literal_size c.as_slice-beliefs.result.now _ c.loop-l-test.true c.loop-l.invariant c.put_literal-o.ensures
