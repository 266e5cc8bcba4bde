-- `situation::failed::size` meets its contract: the size is the number of ones, and each one is a plan in the set.
use mathlib.Core.Path.{refl}
use Rattle.situation.specs.FailedSet.{size_of}
use Rattle.situation.proofs.FailedLaws.{size_counts}
use Rattle.situation.proofs.failed.size.Goals as goal

pub returns : goal.returns
unfolding size_of
returns c = record { ones = refl; counted = size_counts 32 c.args.set c.ranges.set.fits }
