-- `state::queue::with_failure` meets its contract: the failed set is what `failed::with` gives.

use Rattle.state.proofs.queue.with_failure.Goals as goal

pub returns : goal.returns
returns c = let e = c.with.ensures in let x = c.args.event in λ i. record { origin = x.origin; kind = x.kind; literal = x.literal; failed = e i }
