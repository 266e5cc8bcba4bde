-- `image::reader::Reader::events_at` meets its contract: each place holds the event of its number.
use borrow.Author.Rules.{rules}
use Rattle.model.specs.State.{most_queued}
use Rattle.image.specs.EventImage.{event_size, event_at}
use Rattle.image.proofs.CodecLaws.{made_items}
use Rattle.image.proofs.reader.Reader.events_at.Goals as goal

pub returns : goal.returns
returns c =
    let reader = c.args.self.now in
    made_items (event_at reader.form reader.image.now) (event_size reader.form) _ _ c.from_fn.result most_queued c.args.at (λ i y q k. search rules) c.from_fn.ensures.items
