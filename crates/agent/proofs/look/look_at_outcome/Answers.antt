-- `agent::look::look_at_outcome` meets its contract: a stack waits for it, or none does.
use mathlib.Core.Path.{refl}
use Rattle.model.specs.Outcome.{is_awaiting}
use Rattle.agent.specs.Look.{unawaited}
use Rattle.agent.proofs.LookLaws.{stack_found, stack_missing}
use Rattle.agent.proofs.look.look_at_outcome.Goals as goal

pub returns-in-Some : goal.returns-in-Some
returns-in-Some c =
    let found = stack_found c.args.s.now c.requires c.standing.result.now c.standing.ensures.value c.standing.ensures.len (is_awaiting c.args.id) c.waiting_place.result c.waiting_place.ensures c.in-Some.place c.in-Some.is in
    (refl, (c.args.id, refl, found.0, found.1))

pub returns-in-None : goal.returns-in-None
returns-in-None c =
    unawaited refl c.args.id c.args.worked
    (stack_missing c.args.s.now c.requires c.standing.result.now c.standing.ensures.value c.standing.ensures.len (is_awaiting c.args.id) c.waiting_place.result c.waiting_place.ensures c.in-None.is)
