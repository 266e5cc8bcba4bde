-- What the queue's changes mean in the view.
use Prim.Native.Nat.{ℕ, suc, ◌+◌, ◌-◌, ◌<◌, ◌≤◌, min}
use native.Mathlib.Omega.{arith}
use mathlib.Core.Path.{◌≡◌, sym}
use mathlib.Core.List.{[], ◌∷◌, ◌++◌}
use lib.ListN.{length, set}
use lib.Seq.{take-suc-set, take-set-lt, set_out}
use lib.Dec.{ltb}
use borrow.Author.Tests.{lt-ltb, le-ltb, ltb-true, ltb-false}
use Rattle.lists.specs.Gap.{remove_at}
use Rattle.lists.proofs.BoolLaws.{by_cases}
use Rattle.lists.proofs.GapLaws.{gap_take, remove_at-past}
use Rattle.model.specs.declared.Event.{Event}
use Rattle.state.specs.declared.State.{State}
use Rattle.state.specs.View.{queued_of, view_queue}
use Rattle.state.specs.Queue.{enqueue, dequeue, put_event}
use Rattle.state.proofs.ViewLaws.{length_queue}

module _ (s : State) (len : length s.queue ≡ 88) where
  -- an event joins the queue's end
  pub enqueue-view : (event : Event) → s.queued < 88 → view_queue (enqueue s event) ≡ view_queue s ++ (event ∷ [])
  unfolding enqueue
  enqueue-view event h =
      let now : min s.queued 88 ≡ s.queued = omega arith in
      let next : min (s.queued + 1) 88 ≡ suc s.queued = omega arith in
      rw (lt-ltb s.queued 88 h, next, now) (take-suc-set s.queue s.queued event (omega arith))

  -- the event at a place leaves it
  pub dequeue-view : (place : ℕ) → view_queue (dequeue s place) ≡ remove_at place (view_queue s)
  unfolding dequeue
  dequeue-view place = by_cases (ltb place (queued_of s))
      (λ h. let low = ltb-true place (queued_of s) h in
      let now : min (queued_of s - 1) 88 ≡ queued_of s - 1 = omega arith in
      rw (h, now) (gap_take s.queue place (queued_of s) low (omega arith)))
      (λ h. rw h (sym (remove_at-past place (view_queue s) (omega (arith, length_queue s len, ltb-false place (queued_of s) h)))))

  -- another event stands at a place
  pub put_event-view : (place : ℕ) (event : Event) → view_queue (put_event s place event) ≡ set (view_queue s) place event
  unfolding put_event
  put_event-view place event = by_cases (ltb place (queued_of s))
      (λ h. rw h (take-set-lt (queued_of s) s.queue place event (ltb-true place (queued_of s) h)))
      (λ h. rw h (sym (set_out (view_queue s) place event (omega (arith, length_queue s len, ltb-false place (queued_of s) h)))))

-- where no event stands nothing changes
module _ (s : State) (place : ℕ) (past : queued_of s ≤ place) where
  pub dequeue_past : s ≡ dequeue s place
  unfolding dequeue
  dequeue_past = rw (le-ltb place (queued_of s) past)

  pub put_event_past : (event : Event) → s ≡ put_event s place event
  unfolding put_event
  put_event_past event = rw (le-ltb place (queued_of s) past)
