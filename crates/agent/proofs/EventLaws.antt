-- What each way of taking up an event answers, against the model.
use Prim.Native.Nat.{ℕ, ◌+◌, ◌-◌, ◌<◌, ◌≤◌}
use native.Mathlib.Omega.{arith}
use mathlib.Core.Path.{◌≡◌, refl, ap, sym, subst, subst⁻¹, ◌∙◌}
use mathlib.Core.Bool.{Bool, true, false, cond}
use mathlib.Core.List.{List, [], ◌∷◌, ◌++◌, map}
use lib.ListN.{length, set, get_or, length-map, length-take}
use lib.Seq.{get_or-take}
use lib.Dec.{ltb}
use borrow.Author.Tests.{lt-ltb}
use Rattle.std.specs.Prelude.{Option, Some}
use Rattle.std.specs.List as std
use Rattle.lists.specs.Search.{position}
use Rattle.lists.proofs.PositionLaws.{position_there, position_some}
use Rattle.lists.specs.Gap.{remove_at, close_gap}
use Rattle.lists.specs.Places.{first, change_at}
use Rattle.lists.proofs.PlaceLaws.{change_there}
use Rattle.belief.specs.declared.Beliefs.{Beliefs}
use Rattle.belief.specs.Beliefs.{replay}
use Rattle.situation.specs.FailedSet.{size_of}
use Rattle.situation.specs.Applicable.{Chosen}
use Rattle.model.specs.declared.Answer.TheVariants.{Dropped, Unmet, MadeGoal}
use Rattle.model.specs.declared.Event.{Event}
use Rattle.model.specs.declared.Instance.{Instance}
use Rattle.model.specs.declared.Origin.{Origin}
use Rattle.model.specs.declared.Origin.TheVariants.{External, Goal}
use Rattle.model.specs.State.{Intention, AgentState, requeued, restacked}
use Rattle.model.specs.Instance.{awake}
use Rattle.model.specs.Live.{is_poster}
use Rattle.model.specs.Event.{new_instance, pushed, make, woken, close}
use Rattle.state.specs.declared.Stack.{Stack}
use Rattle.state.specs.declared.State.{State}
use Rattle.state.specs.View.{no_stack, down, view_stack, queued_of, stacked_of, view_queue, view_stacks, view_state, counts_fit}
use Rattle.state.specs.Queue.{with_queue, dequeue}
use Rattle.state.specs.Stacks.{replace_top, push, put_at}
use Rattle.state.proofs.CountParts.{counts-parts}
use Rattle.state.proofs.ViewLaws.{length-stacks, stack_at_lem}
use Rattle.state.proofs.StackLaws.{put_view}
use Rattle.state.proofs.StateLaws.{dequeue-state, open_state, put_frame}
use Rattle.trials.specs.Altered.{untouched, Within}
use Rattle.trials.proofs.AlteredLaws.{untouched_within}
use Rattle.moves.specs.declared.QueueMove.TheVariants as queue
use Rattle.moves.specs.declared.StackMove.TheVariants as stacks
use Rattle.moves.specs.declared.Numbering.TheVariants as numbering
use Rattle.steps.specs.declared.step.Step.{Step}
use Rattle.steps.specs.View.{Sized, stack_at}
use Rattle.steps.specs.Gives.{Replies}
use Rattle.steps.specs.Step.{opened_stack, plain_step, applied}
use Rattle.agent.specs.TakeUp.{standing, poster_in, HasPoster, opened_step, Pushes, Drops, unmet_step, Has, Makes, Closes}
use Rattle.steps.proofs.CountLaws.{counts-dequeue, counts_open, counts-put}
use Rattle.steps.proofs.StepLaws.{step_replies, sized_dequeue}

-- ---- From the parts of a state to the state

-- what is said of the parts is said of the state that has them
of_state : (P : Beliefs → ℕ → List Stack → Type 0) (s : State) {beliefs : Beliefs} {made : ℕ} {stacks : List Stack}
    → Has s beliefs made stacks → P beliefs made stacks → P s.beliefs s.made (standing s)
of_state P s h =
    let b = h.beliefs_are in
    let m = h.made_is in
    let ks = h.stacks_are in
    subst⁻¹ (λ (Q : Type 0). Q) (λ i. P (b i) (m i) (ks i))

-- how many stacks there are
length_standing : (s : State) → Sized s → length (standing s) ≡ stacked_of s
length_standing s sized = length-take (stacked_of s) s.stacks ∙ omega (arith, sized.stacks)

-- ---- The stack at the place that a search found

module _ (stacks : List Stack) (goal : Origin) (found : Option ℕ) (f : found ≡ std.position (is_poster goal) (map view_stack stacks)) where
  pub poster_there : HasPoster stacks goal → found ≡ Some (poster_in stacks goal)
  poster_there h = f ∙ position_there (is_poster goal) (map view_stack stacks) (omega (arith, h.there, length-map stacks view_stack))

  pub poster_place_is : (place : ℕ) → found ≡ Some place → place ≡ poster_in stacks goal
  poster_place_is place e = (position_some (is_poster goal) (map view_stack stacks) place (sym e ∙ f)).0

module _ (s : State) (place : ℕ) (d : Stack) (low : place < stacked_of s) where
  -- another stack there is the model's change of the first that passes
  put_change : (test : Intention → Bool) (change : Intention → Intention) (next : Stack) → length s.stacks ≡ 8
      → place ≡ position test (view_stacks s) → view_stack next ≡ change (view_stack (get_or s.stacks place d))
      → view_stacks (put_at s place next) ≡ change_at change (view_stacks s) (first test (view_stacks s))
  put_change test change next len e p =
      put_view s len place next
      ∙ ap (set (view_stacks s) place) (p ∙ ap change (sym (stack_at_lem s place d low)))
      ∙ sym (change_there test change (view_stacks s) place (view_stack d) e (omega (arith, length-stacks s len)))

-- with one instance more it is no deeper than there are places
pub push_depth : (stack : Stack) (x : Instance) (r : Stack) → stack.depth < 7 → r ≡ push stack x → r.depth ≤ 7
unfolding push
push_depth stack x r h e =
    let p : r.depth ≡ stack.depth + 1 = ap (λ (k : Stack). k.depth) e ∙ rw (lt-ltb stack.depth 7 h) in
    omega arith

-- the stack at the place that the search found
module _ (s : State) (sized : Sized s) (goal : Origin) (poster : ℕ) (h : HasPoster (standing s) goal) (found : poster ≡ poster_in (standing s) goal) where
  poster_low : poster < stacked_of s
  poster_low = omega (arith, h.there, found, length_standing s sized)

  poster_is : get_or (standing s) poster no_stack ≡ stack_at s poster
  poster_is = get_or-take (stacked_of s) s.stacks poster no_stack poster_low

  poster-room : (stack_at s poster).depth < 7
  poster-room = subst (λ (k : Stack). k.depth < 7) poster_is (subst⁻¹ (λ (i : ℕ). (get_or (standing s) i no_stack).depth < 7) found h.room)

-- without an event the rest of the state is as it was
dequeue_frame : (s : State) (place : ℕ) → dequeue s place ≡ with_queue s (dequeue s place).queue (dequeue s place).queued
unfolding dequeue
dequeue_frame s place = go (ltb place (queued_of s)) (close_gap place (queued_of s - 1) s.queue) (queued_of s - 1)
  where
    go : (b : Bool) (queue : List Event) (queued : ℕ)
        → cond b (with_queue s queue queued) s ≡ with_queue s (cond b (with_queue s queue queued) s).queue (cond b (with_queue s queue queued) s).queued
    go true queue queued = refl
    go false queue queued = refl

module _ (s : State) (sized : Sized s) (fits : counts_fit s ≡ true) where
  few : Within (untouched s.beliefs)
  few = untouched_within s.beliefs (counts-parts s fits).beliefs

  -- ---- Made

  made_external : (chosen : Chosen) (external : ℕ) → s.stacked < 8
      → Replies (make (view_state s) chosen (External external)) (applied s (opened_step s.beliefs (new_instance s.made chosen) external))
  unfolding make down
  made_external chosen external room =
      let stack = opened_stack external (new_instance s.made chosen) in
      step_replies s (opened_step s.beliefs (new_instance s.made chosen) external) (restacked (view_state s) (view_stacks s ++ (view_stack stack ∷ [])))
      (open_state s stack sized.stacks room) (counts_open s fits sized.stacks stack (omega arith)) few

  made_goal : (chosen : Chosen) (i state branch poster : ℕ) (t : Step) → HasPoster (standing s) (Goal i state branch)
      → poster ≡ poster_in (standing s) (Goal i state branch) → Pushes s.beliefs (new_instance s.made chosen) i poster (stack_at s poster) t
      → Replies (make (view_state s) chosen (Goal i state branch)) (applied s t)
  unfolding make
  made_goal chosen i state branch poster t h found pushes =
      let x = new_instance s.made chosen in
      let test = is_poster (Goal i state branch) in
      let low = poster_low s sized (Goal i state branch) poster h found in
      let u = plain_step s.beliefs (MadeGoal x.id x.plan i) queue.Keep (stacks.Replace poster) t.stack (numbering.Made x.id) in
      subst⁻¹ (λ (y : Step). Replies (make (view_state s) chosen (Goal i state branch)) (applied s y)) pushes.step
      (step_replies s u
      (restacked (view_state s) (change_at (pushed x) (view_stacks s) (first test (view_stacks s))))
      (put_frame s poster t.stack ∙ ap (restacked (view_state s)) (put_change s poster no_stack low test (pushed x) t.stack sized.stacks found pushes.higher))
      (counts-put s fits sized.stacks poster t.stack pushes.depth) few)

  -- ---- Closed

  dropped : (place : ℕ) (event : Event) (external : ℕ) (t : Step) → Drops s.beliefs place external (size_of event.failed) t
      → Replies (close (view_state s) (record { place = place; it = event }) (External external)) (applied s t)
  unfolding close replay
  dropped place event external t e =
      let v = requeued (view_state s) (remove_at place (view_queue s)) in
      let u = plain_step s.beliefs (Dropped external (size_of event.failed)) (queue.Remove place) stacks.Keep t.stack numbering.Keep in
      subst⁻¹ (λ (x : Step). Replies (close (view_state s) (record { place = place; it = event }) (External external)) (applied s x)) e
      (step_replies s u v (dequeue-state s place sized.queue) (counts-dequeue s fits place) few)

  unmet : (place : ℕ) (event : Event) (i state branch poster : ℕ) (stack : Stack)
      → HasPoster (standing s) (Goal i state branch) → poster ≡ poster_in (standing s) (Goal i state branch) → stack ≡ stack_at s poster
      → Replies (close (view_state s) (record { place = place; it = event }) (Goal i state branch))
      (applied s (unmet_step s.beliefs place (Unmet i state branch (size_of event.failed)) poster stack))
  unfolding close replay
  unmet place event i state branch poster stack h found there =
      let test = is_poster (Goal i state branch) in
      let low = poster_low s sized (Goal i state branch) poster h found in
      let room : stack.depth < 7 = subst⁻¹ (λ (k : Stack). k.depth < 7) there (poster-room s sized (Goal i state branch) poster h found) in
      let next = replace_top stack (awake stack.top) in
      let u = dequeue s place in
      let w = with_queue s u.queue u.queued in
      let same = dequeue_frame s place in
      let ks = change_at woken (view_stacks s) (first test (view_stacks s)) in
      let v = restacked (requeued (view_state s) (remove_at place (view_queue s))) ks in
      let top : view_stack next ≡ woken (view_stack (stack_at s poster)) = ap (λ (k : Stack). woken (view_stack k)) there in
      let shown : view_state (put_at u poster next) ≡ v =
      ap (λ (z : State). view_state (put_at z poster next)) same
      ∙ put_frame w poster next
      ∙ ap (restacked (view_state w)) (put_change w poster no_stack low test woken next sized.stacks found top)
      ∙ ap (λ (z : State). restacked (view_state z) ks) (sym same)
      ∙ ap (λ (z : AgentState). restacked z ks) (dequeue-state s place sized.queue) in
      step_replies s (unmet_step s.beliefs place (Unmet i state branch (size_of event.failed)) poster stack) v shown
      (counts-put u (counts-dequeue s fits place) (sized_dequeue s sized place).stacks poster next (omega (arith, room))) few

-- ---- The same, from the parts that the step was decided from

module _ (beliefs : Beliefs) (stacks : List Stack) (t : Step) where
  pub made_by_opening : (made : ℕ) (chosen : Chosen) (external : ℕ) → t ≡ opened_step beliefs (new_instance made chosen) external → length stacks < 8
      → Makes beliefs made stacks (λ s. make s chosen (External external)) t
  made_by_opening made chosen external e room s h =
      let p = of_state (λ b m ks. (length ks < 8) × (t ≡ opened_step b (new_instance m chosen) external)) s h (room, e) in
      let few : s.stacked < 8 = omega (arith, p.0, length_standing s h.sized) in
      subst⁻¹ (λ (u : Step). Replies (make (view_state s) chosen (External external)) (applied s u)) p.1 (made_external s h.sized h.fit chosen external few)

  pub closed_by_dropping : (place : ℕ) (event : Event) (external : ℕ) → Drops beliefs place external (size_of event.failed) t
      → Closes beliefs stacks (λ s. close s (record { place = place; it = event }) (External external)) t
  closed_by_dropping place event external e s h =
      dropped s h.sized h.fit place event external t (of_state (λ b m ks. Drops b place external (size_of event.failed) t) s h e)

  module _ (i state branch poster : ℕ) (has : HasPoster stacks (Goal i state branch)) (found : poster ≡ poster_in stacks (Goal i state branch)) where
    -- the poster's stack in a state
    abbrev Posted : List Stack → Type 0
    Posted ks = HasPoster ks (Goal i state branch) × (poster ≡ poster_in ks (Goal i state branch))

    pub made_by_pushing : (made : ℕ) (chosen : Chosen) → Pushes beliefs (new_instance made chosen) i poster (get_or stacks poster no_stack) t
        → Makes beliefs made stacks (λ s. make s chosen (Goal i state branch)) t
    made_by_pushing made chosen e s h =
        let p = of_state (λ b m ks. Posted ks × Pushes b (new_instance m chosen) i poster (get_or ks poster no_stack) t) s h ((has, found), e) in
        let there = poster_is s h.sized (Goal i state branch) poster p.0.0 p.0.1 in
        made_goal s h.sized h.fit chosen i state branch poster t p.0.0 p.0.1
        (subst (λ (k : Stack). Pushes s.beliefs (new_instance s.made chosen) i poster k t) there p.1)

    pub closed_by_waking : (place : ℕ) (event : Event)
        → t ≡ unmet_step beliefs place (Unmet i state branch (size_of event.failed)) poster (get_or stacks poster no_stack)
        → Closes beliefs stacks (λ s. close s (record { place = place; it = event }) (Goal i state branch)) t
    closed_by_waking place event e s h =
        let p = of_state (λ b m ks. Posted ks × (t ≡ unmet_step b place (Unmet i state branch (size_of event.failed)) poster (get_or ks poster no_stack))) s h ((has, found), e) in
        subst⁻¹ (λ (u : Step). Replies (close (view_state s) (record { place = place; it = event }) (Goal i state branch)) (applied s u)) p.1
        (unmet s h.sized h.fit place event i state branch poster (get_or (standing s) poster no_stack) p.0.0 p.0.1
        (poster_is s h.sized (Goal i state branch) poster p.0.0 p.0.1))
