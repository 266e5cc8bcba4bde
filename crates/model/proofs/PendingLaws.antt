-- Pending events by count: each live instance serves one queued event, so as many are pending as there are events more than instances.
-- And where no stack can be opened, a pending event that may be taken up is a goal, whose poster is a suspended top.
use Prim.Native.Nat.{ℕ, ◌+◌, ◌≤◌}
use mathlib.Core.Path.{◌≡◌, refl, sym, ap, ◌∙◌}
use mathlib.Core.List.{List}
use mathlib.Core.Bool.{Bool, true, false, not, ◌||◌}
use native.Mathlib.Omega.{arith}
use lib.Dec.{ltb}
use lib.ListN.{length, get_or}
use borrow.Author.Tests.{ltb-true, ltb-false, not-true, not-false}
use Rattle.std.specs.List.{list_any}
use Rattle.lists.specs.Search.{position}
use Rattle.lists.specs.Counts.{bit, total, count}
use Rattle.lists.proofs.BoolLaws.{by_cases, and_parts}
use Rattle.lists.proofs.CountLaws.{bit_left, total-add, total_le, total-length, total_same, total_swap, total_unless}
use Rattle.lists.proofs.LikeLaws.{like_refl, like_at}
use Rattle.lists.proofs.PlaceLaws.{passes_at}
use Rattle.lists.proofs.SearchLaws.{position_le, any-position}
use Rattle.lists.proofs.TestCounts.{any_none, any_some, none_any}
use Rattle.literal.specs.declared.Literal.{Literal}
use Rattle.library.specs.Plan.{Library}
use Rattle.model.specs.declared.Event.{Event}
use Rattle.model.specs.State.{Intention, most_stacks, no_event}
use Rattle.model.specs.Instance.{is_suspended}
use Rattle.model.specs.Live.{is_goal, is_of, Job, live, serves, is_pending, is_ready, is_poster}
use Rattle.model.specs.WellFormed.{is_served}
use Rattle.model.specs.Formed.{Formed}
use Rattle.model.proofs.OriginLaws.{origin_same, same_turned}
use Rattle.model.proofs.FormedLaws.{reform, poster_found}

-- ---- How many are pending

-- an event is pending, or served by one instance
pending_or_served : (jobs : List Job) (e : Event) → count (serves e.origin) jobs ≤ 1 → bit (is_pending jobs e) + count (serves e.origin) jobs ≡ 1
unfolding is_pending
pending_or_served jobs e once = by_cases (list_any (serves e.origin) jobs)
    (λ t. omega (arith, ap (λ b. bit (not b)) t, any_some (serves e.origin) jobs t))
    (λ f. omega (arith, ap (λ b. bit (not b)) f, any_none (serves e.origin) jobs f))

module _ {library : Library} {b : List Literal} {q : List Event} {ks : List Intention} {n m : ℕ} (i : Formed library b q ks n m) where
  -- each live instance serves one queued event
  served_one : total (λ j. count (is_of j.event) q) (live ks) ≡ length (live ks)
  unfolding is_served
  served_one =
      total_unless (λ j. not (list_any (is_served library j) q)) (λ j. count (is_of j.event) q) (λ j. 1) (live ks) i.linked.served one
      ∙ sym (total-length (live ks))
    where
      one : (j : Job) → not (list_any (is_served library j) q) ≡ false → count (is_of j.event) q ≡ 1
      one j h =
          let some = any_some (is_served library j) q (not-false _ h) in
          let less = total_le (λ e. bit (is_served library j e)) (λ e. bit (is_of j.event e)) q (λ e. bit_left (is_of j.event e) _) in
          omega (arith, some, less, i.linked.event_once j.event)

  -- as many events as live instances and pending events
  pub pending_count : count (is_pending (live ks)) q + length (live ks) ≡ length q
  pending_count =
      let by-event = total_same (λ e. bit (is_pending (live ks) e) + count (serves e.origin) (live ks)) (λ e. 1) q
      (λ e. pending_or_served (live ks) e (i.linked.served_once e.origin)) in
      let parts = total-add (λ e. bit (is_pending (live ks) e)) (λ e. count (serves e.origin) (live ks)) q in
      let swapped = total_swap (λ e j. bit (serves e.origin j)) q (live ks) in
      let as-served = total_same (λ j. total (λ e. bit (serves e.origin j)) q) (λ j. count (is_of j.event) q) (live ks)
      (λ j. total_same (λ e. bit (serves e.origin j)) (λ e. bit (is_of j.event e)) q (λ e. ap bit (same_turned e.origin j.event))) in
      omega (arith, by-event, parts, swapped, as-served, served_one, total-length q)

  -- ---- None may be taken up

  none_first : list_any (is_ready (live ks) (length ks)) q ≡ false → position (is_ready (live ks) (length ks)) q ≡ length q
  none_first f =
      let test = is_ready (live ks) (length ks) in
      let past : ltb (position test q) (length q) ≡ false = sym (any-position test q) ∙ f in
      omega (arith, position_le test q, ltb-false (position test q) (length q) past)

  -- there are no more events than live instances
  pub none_pending : length q ≤ length (live ks) → position (is_ready (live ks) (length ks)) q ≡ length q
  unfolding is_ready
  none_pending few =
      let less = total_le (λ e. bit (is_ready (live ks) (length ks) e)) (λ e. bit (is_pending (live ks) e)) q (λ e. bit_left (is_pending (live ks) e) _) in
      none_first (none_any (is_ready (live ks) (length ks)) q (omega (arith, less, pending_count)))

  -- there is no room for a stack, and no top is suspended
  pub none_ready : most_stacks ≤ length ks → list_any (λ k. is_suspended k.top.status) ks ≡ false → position (is_ready (live ks) (length ks)) q ≡ length q
  unfolding is_ready is_pending
  none_ready full awake = none_first (by_cases (list_any test q) (λ t. absurd (omega (arith, poster t, sleepers))) (λ f. f))
    where
      test : Event → Bool
      test = is_ready (live ks) (length ks)

      place : ℕ
      place = position test q

      event : Event
      event = get_or q place no_event

      sleepers : count (is_poster event.origin) ks ≡ 0
      sleepers =
          let none = any_none (λ k. is_suspended k.top.status) ks awake in
          omega (arith, total_le (λ k. bit (is_poster event.origin k)) (λ k. bit (is_suspended k.top.status)) ks (λ k. bit_left (is_suspended k.top.status) _))

      goal_there : (g : Bool) → (g || ltb (length ks) most_stacks) ≡ true → g ≡ true
      goal_there true e = refl
      goal_there false e = absurd (omega (arith, ltb-true (length ks) most_stacks e))

      poster : list_any test q ≡ true → 1 ≤ count (is_poster event.origin) ks
      poster t =
          let low = ltb-true place (length q) (sym (any-position test q) ∙ t) in
          let ready = and_parts (is_pending (live ks) event) (is_goal event.origin || ltb (length ks) most_stacks) (passes_at test q place no_event refl low) in
          let unserved = any_none (serves event.origin) (live ks) (not-true _ ready.0) in
          let goal = goal_there (is_goal event.origin) ready.1 in
          poster_found (reform (like_at q place no_event low) (like_refl ks) i) goal (origin_same event.origin) unserved
