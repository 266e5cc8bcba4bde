-- What a look at the stacks tells is so: what it answers, and that no event may be taken up where a stack has its turn.
use Prim.Native.Nat.{ℕ, ◌<◌, ◌≤◌}
use native.Mathlib.Omega.{arith}
use mathlib.Core.Path.{◌≡◌, refl, ap, sym, subst⁻¹, ◌∙◌}
use mathlib.Core.Bool.{Bool, true, false}
use Rattle.std.specs.Prelude.{Option, Some, None}
use mathlib.Core.List.{List, map}
use lib.Dec.{ltb}
use lib.ListN.{length, take, length-map}
use borrow.Author.Tests.{ltb-false}
use Rattle.std.specs.List as std
use Rattle.std.specs.List.{list_any}
use Rattle.lists.specs.Search.{position}
use Rattle.lists.proofs.BoolLaws.{by_cases, or_parts}
use Rattle.lists.proofs.PositionLaws.{position_some, position_none}
use Rattle.library.specs.Layout.{library_of}
use Rattle.model.specs.declared.Answer.{Answer}
use Rattle.model.specs.declared.Answer.TheVariants.{Idle, Refused}
use Rattle.model.specs.State.{Intention, Call, cycle, outcome}
use Rattle.model.specs.Live.{live, is_ready}
use Rattle.model.specs.Outcome.{is_awaiting, told}
use Rattle.model.specs.Turn.{is_running}
use Rattle.model.specs.Calls.{act}
use Rattle.model.specs.Formed.{WellFormed}
use Rattle.model.proofs.WellFormedTest.{test_formed}
use Rattle.model.proofs.PendingLaws.{none_pending, none_ready}
use Rattle.state.specs.declared.Stack.{Stack}
use Rattle.state.specs.declared.State.{State}
use Rattle.state.specs.View.{view_stack, queued_of, stacked_of, view_queue, view_stacks, view_state}
use Rattle.state.specs.Search.{is_asleep}
use Rattle.state.proofs.ViewLaws.{length_queue, length-stacks}
use Rattle.state.proofs.CountParts.{counts-parts}
use Rattle.steps.specs.declared.step.Step.{Step}
use Rattle.steps.specs.View.{Sized, plainly, stack_at}
use Rattle.steps.specs.Gives.{Gives}
use Rattle.agent.specs.Turnable.{Runnable, Turns}
use Rattle.steps.specs.Outcome.{told_step, Awaits}
use Rattle.steps.specs.Step.{applied}
use Rattle.formed.specs.Formed.{WellFormedState}
use Rattle.agent.specs.Feed.{Trusted, Responds}
use Rattle.agent.specs.Look.{may_take_up, Answers, unformed, unread, idle, unawaited}
use Rattle.agent.proofs.CycleLaws.{cycled-turn, cycled_idle}
use Rattle.steps.proofs.OutcomeLaws.{told_gives, told-refused}
use Rattle.agent.proofs.FormedFacts.{runnable, turnable}
use Rattle.agent.proofs.FeedLaws.{responds_act, responds_unread, responds_refused, responds_as}

-- ---- The stack that a search found, or that there is none

module _ (s : State) (few : s.stacked ≤ 8) (stacks : List Stack) (e : stacks ≡ take (stacked_of s) s.stacks) (size : length stacks ≡ stacked_of s)
    (test : Intention → Bool) (found : Option ℕ) (f : found ≡ std.position test (map view_stack stacks)) where
  seen : map view_stack stacks ≡ view_stacks s
  seen = ap (map view_stack) e

  long : length (view_stacks s) ≡ s.stacked
  long = sym (ap length seen) ∙ length-map stacks view_stack ∙ size ∙ omega arith

  pub stack_found : (place : ℕ) → found ≡ Some place → (place ≡ position test (view_stacks s)) × (place < s.stacked)
  stack_found place h =
      let at = position_some test (view_stacks s) place (sym h ∙ f ∙ ap (std.position test) seen) in
      (at.0, omega (arith, at.1, long))

  pub stack_missing : found ≡ None → s.stacked ≤ position test (view_stacks s)
  stack_missing h = omega (arith, position_none test (view_stacks s) (sym h ∙ f ∙ ap (std.position test) seen), long)

-- ---- What the look tells is so

module _ (bytes : List ℕ) (s : State) (sized : Sized s) where
  -- the first event that may be taken up
  abbrev next : ℕ
  next = position (is_ready (live (view_stacks s)) (length (view_stacks s))) (view_queue s)

  module _ (w : WellFormedState bytes s) where
    whole : WellFormed (library_of bytes) (view_state s)
    whole = test_formed (library_of bytes) (view_state s) w.formed

    pub within : s.stacked ≤ 8
    within = (counts-parts s w.fit).stacked

    -- there is none
    pub none_taken : may_take_up s ≡ false → queued_of s ≤ next
    unfolding may_take_up
    none_taken e = by_cases (ltb (length (live (view_stacks s))) s.queued) full few
      where
        few : ltb (length (live (view_stacks s))) s.queued ≡ false → queued_of s ≤ next
        few h = omega (
          arith,
          none_pending whole (omega (arith, ltb-false (length (live (view_stacks s))) s.queued h, length_queue s sized.queue)),
          length_queue s sized.queue,
        )

        full : ltb (length (live (view_stacks s))) s.queued ≡ true → queued_of s ≤ next
        full h =
            let p = or_parts (ltb s.stacked 8) (list_any is_asleep (view_stacks s)) (rw h at e) in
            let many = ltb-false s.stacked 8 p.0 in
            omega (arith, none_ready whole (omega (arith, many, length-stacks s sized.stacks)) p.1, length_queue s sized.queue)

    -- ---- What moves the state

    module _ (place : ℕ) (low : place < s.stacked) where
      pub turn_runnable : Runnable bytes s.beliefs (stack_at s place)
      turn_runnable = runnable bytes s w.fit w.formed sized w.accepted place (omega (arith, within, low))

      pub turn_responds : may_take_up s ≡ false → place ≡ position is_running (view_stacks s)
          → (t : Step) → Turns bytes s.beliefs place (stack_at s place) t → Responds bytes true s (Some cycle) (applied s t)
      unfolding act
      turn_responds e f t turns =
          let there : place < stacked_of s = omega (arith, within, low) in
          let can = turnable bytes s w.fit w.formed sized w.accepted place there f in
          responds_act bytes s cycle (applied s t) (cycled-turn bytes s sized.queue sized.stacks next refl (none_taken e) place f there (applied s t) (turns s can))

      pub tell_responds : (id : ℕ) (worked : Bool) → place ≡ position (is_awaiting id) (view_stacks s)
          → (t : Step) → t ≡ told_step (library_of bytes) s.beliefs place (stack_at s place) worked → Responds bytes true s (Some (outcome id worked)) (applied s t)
      unfolding act
      tell_responds id worked f t e =
          let awaits : Awaits s s.beliefs id place (stack_at s place) =
          record { sized = sized; fit = w.fit; beliefs_are = refl; found = f; there = omega (arith, within, low); stack_is = refl } in
          responds_act bytes s (outcome id worked) (applied s t)
          (subst⁻¹ (λ (u : Step). Gives s (told (library_of bytes) (view_state s) id worked) (applied s u)) e
          (told_gives (library_of bytes) s s.beliefs id place (stack_at s place) awaits worked))

  -- ---- What leaves it as it is

  pub answers-respond : (formed : Bool) {call : Option Call} {answer : Answer} → Trusted formed bytes s
      → Answers formed s call answer → Responds bytes formed s call (plainly s answer)
  unfolding act
  answers-respond formed trusted (unformed call e) = responds_refused bytes s formed e call (plainly s (Refused _)) refl
  answers-respond formed trusted unread = responds_unread bytes s formed (λ e. (trusted e).fit) (plainly s (Refused 0)) refl
  answers-respond formed trusted (idle e m h) =
      let w = trusted e in
      responds_as bytes s e (Some cycle) (plainly s Idle) (responds_act bytes s cycle (plainly s Idle)
      (cycled_idle bytes s sized.queue sized.stacks next refl (none_taken w m) (position is_running (view_stacks s)) refl (omega (arith, within w)) w.fit (plainly s Idle) refl))
  answers-respond formed trusted (unawaited e id worked h) =
      let w = trusted e in
      responds_as bytes s e (Some (outcome id worked)) (plainly s (Refused 8)) (responds_act bytes s (outcome id worked) (plainly s (Refused 8))
      (told-refused (library_of bytes) s id worked (position (is_awaiting id) (view_stacks s)) refl sized w.fit (omega (arith, within w)) (plainly s (Refused 8)) refl))
