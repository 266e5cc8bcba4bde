-- `image::form::Form::put_events` meets its contract: one part more.
use Rattle.image.specs.Form.{newest}
use Rattle.image.specs.EventImage.{event_size, event_bytes}
use Rattle.image.proofs.WordLaws.{next_part}
use Rattle.image.proofs.form.Form.put_events.Goals as goal

pub loop-event-preserved : goal.loop-event-preserved
loop-event-preserved c =
    next_part (event_bytes c.args.self) (event_size newest) c.args.queue.now _ c.loop-event-test.true c.loop-event.invariant c.put_event-o.ensures
