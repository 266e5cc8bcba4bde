-- `image::form::Form::put_events` meets its contract. The loop's invariant: the events passed are written.
use Rattle.image.specs.Form.{newest}
use Rattle.image.specs.EventImage.{event_size, event_bytes}
use Rattle.image.proofs.WordLaws.{Parts}
use Rattle.image.proofs.form.Form.put_events.Given as goal

abbrev pub invariant-loop-event : goal.invariant-loop-event
invariant-loop-event l = Parts (event_bytes l.self) (event_size newest) l.queue l.initial.out l.initial.o l.out l.o l.event-index
