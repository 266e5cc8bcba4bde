-- `agent::event::TakeUp::poster` meets its contract: the event has its place, so its poster is there.
use mathlib.Core.Path.{refl}
use Rattle.agent.proofs.EventLaws.{poster_there, poster_place_is}
use Rattle.agent.proofs.event.TakeUp.poster.Goals as goal

pub unwrap-requires : goal.unwrap-requires
unwrap-requires c =
    let a = c.args.self.now in
    rw (poster_there a.stacks.now a.event.origin c.poster_place.result c.poster_place.ensures (a.has_place.goal c.requires)) refl

pub returns : goal.returns
returns c =
    let a = c.args.self.now in
    poster_place_is a.stacks.now a.event.origin c.poster_place.result c.poster_place.ensures c.unwrap.result c.unwrap.ensures
