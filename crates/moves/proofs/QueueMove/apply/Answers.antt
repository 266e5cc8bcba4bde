-- `moves::QueueMove::apply` meets its contract: the event of an origin is at its place, or there is none.
use native.Mathlib.Omega.{arith}
use Prim.Native.Nat.{ℕ, ◌≤◌}
use mathlib.Core.Path.{◌≡◌, ap, sym, ◌∙◌}
use mathlib.Core.List.{List}
use lib.ListN.{length, get_or}
use Rattle.std.specs.Prelude.{Option, Some, None, position}
use Rattle.lists.proofs.PositionLaws.{position_some, position_none}
use Rattle.model.specs.declared.Event.{Event}
use Rattle.model.specs.declared.Origin.{Origin}
use Rattle.model.specs.State.{no_event}
use Rattle.model.specs.Live.{is_of}
use Rattle.state.specs.declared.State.{State}
use Rattle.state.specs.View.{queued_of, view_queue}
use Rattle.state.specs.Queue.{dequeue, put_event, with_failure}
use Rattle.state.proofs.QueueLaws.{dequeue_past, put_event_past}
use Rattle.moves.specs.Moves.{place_of}
use Rattle.moves.proofs.QueueMove.apply.Goals as goal

module _ (s : State) (origin : Origin) (events : List Event) (e : events ≡ view_queue s) (found : Option ℕ) (f : found ≡ position (is_of origin) events) where
  at_place : (place : ℕ) → found ≡ Some place → place ≡ place_of s origin
  at_place place h = (position_some (is_of origin) (view_queue s) place (sym h ∙ f ∙ ap (position (is_of origin)) e)).0

  nowhere : found ≡ None → length events ≡ queued_of s → queued_of s ≤ place_of s origin
  nowhere h len =
      let past = position_none (is_of origin) (view_queue s) (sym h ∙ f ∙ ap (position (is_of origin)) e) in
      omega (arith, past, len, ap length e)

pub returns-in-Some : goal.returns-in-Some
returns-in-Some c =
    let s = c.args.s.now in
    let at = at_place s c.in-Close.origin c.events.result.now c.events.ensures.value c.place_of.result c.place_of.ensures c.in-Some.place c.in-Some.is in
    rw c.in-Close.is (c.dequeue-in-Some.ensures ∙ ap (dequeue s) at)

pub returns-in_default : goal.returns-in_default
returns-in_default c =
    let s = c.args.s.now in
    let past = nowhere s c.in-Close.origin c.events.result.now c.events.ensures.value c.place_of.result c.place_of.ensures c.in_default.is c.events.ensures.len in
    rw c.in-Close.is (dequeue_past s (place_of s c.in-Close.origin) past)

pub returns-in-Some-place_of : goal.returns-in-Some-place_of
returns-in-Some-place_of c =
    let s = c.args.s.now in
    let m = c.in-Mark in
    let at = at_place s m.origin c.events-in-Mark.result.now c.events-in-Mark.ensures.value c.place_of-in-Mark.result c.place_of-in-Mark.ensures c.in-Some-place_of.place c.in-Some-place_of.is in
    rw m.is
    (c.put_event.ensures ∙ ap (put_event s c.in-Some-place_of.place) c.with_failure-failed.ensures
    ∙ ap (λ (place : ℕ). put_event s place (with_failure (get_or s.queue place no_event) m.plan)) at)

pub returns-in_default-place_of : goal.returns-in_default-place_of
returns-in_default-place_of c =
    let s = c.args.s.now in
    let m = c.in-Mark in
    let past = nowhere s m.origin c.events-in-Mark.result.now c.events-in-Mark.ensures.value c.place_of-in-Mark.result c.place_of-in-Mark.ensures c.in_default-place_of.is c.events-in-Mark.ensures.len in
    rw m.is (put_event_past s (place_of s m.origin) past _)
