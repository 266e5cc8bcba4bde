-- What the workers of a turn reply: the stack goes last or goes, the event leaves or is marked, and the model's reply comes of it.
use Prim.Native.Nat.{ℕ, ◌<◌, ◌≤◌}
use native.Mathlib.Omega.{arith}
use mathlib.Core.Path.{◌≡◌, refl, ap, sym, subst⁻¹, ◌∙◌}
use mathlib.Core.Bool.{true}
use mathlib.Core.List.{List, [], ◌∷◌, ◌++◌, append-nil}
use lib.ListN.{length, set, get_or}
use lib.Seq.{get_or-take}
use lib.Dec.{ltb}
use borrow.Author.Tests.{ltb-true, ltb-false}
use Rattle.lists.specs.Gap.{remove_at}
use Rattle.lists.specs.Places.{change_at}
use Rattle.lists.proofs.BoolLaws.{by_cases}
use Rattle.lists.proofs.PlaceLaws.{first-none, first_at}
use Rattle.belief.specs.declared.Beliefs.{Beliefs}
use Rattle.belief.specs.declared.Change.{Change}
use Rattle.belief.specs.Beliefs.{view}
use Rattle.library.specs.declared.Branch.{Branch}
use Rattle.library.specs.Layout.{library_of}
use Rattle.situation.proofs.FailedLaws.{with_below}
use Rattle.model.specs.declared.Answer.{Answer}
use Rattle.model.specs.declared.Event.{Event}
use Rattle.model.specs.declared.Instance.{Instance}
use Rattle.model.specs.declared.Origin.{Origin}
use Rattle.model.specs.State.{Intention, AgentState, reply, requeued, restacked, after, no_event}
use Rattle.model.specs.Live.{is_of}
use Rattle.model.specs.Try.{Try, missed, stepped, done, posted, attempt, last_in_turn, new_goal, tried}
use Rattle.model.specs.Turn.{Move, tries, next_move, height_of, turn_by, turn}
use Rattle.model.specs.End.{close_event, marked, mark_event, popped}
use Rattle.state.specs.declared.Stack.{Stack}
use Rattle.state.specs.declared.State.{State}
use Rattle.state.specs.View.{depth_of, view_stack, queued_of, stacked_of, view_queue, view_stacks, view_state, counts_fit}
use Rattle.state.specs.Queue.{enqueue, dequeue, with_failure, put_event}
use Rattle.state.specs.Stacks.{replace_top, pop, under_top}
use Rattle.state.proofs.CountParts.{counts-parts}
use Rattle.state.proofs.ViewLaws.{length_queue}
use Rattle.state.proofs.StackLaws.{pop-view}
use Rattle.state.proofs.StateLaws.{enqueue-state, dequeue-state, put_event-state, enqueue_stacked, dequeue_stacked, put_event_stacked, drop-state, last_state}
use Rattle.moves.specs.declared.QueueMove.{QueueMove}
use Rattle.moves.specs.declared.QueueMove.TheVariants as queue
use Rattle.moves.specs.declared.StackMove.TheVariants as stacks
use Rattle.moves.specs.declared.Numbering.TheVariants as numbering
use Rattle.moves.specs.Moves.{place_of, requeue}
use Rattle.steps.specs.declared.Acted.{Acted}
use Rattle.trials.specs.declared.changes.Altered.{Altered}
use Rattle.steps.specs.declared.step.Step.{Step}
use Rattle.steps.specs.Gives.{Replies}
use Rattle.trials.specs.Altered.{Alters, Within}
use Rattle.trials.specs.Trial.{changes_by}
use Rattle.trials.proofs.AlteredLaws.{altered_within}
use Rattle.steps.specs.View.{Sized}
use Rattle.steps.specs.Step.{applied}
use Rattle.agent.specs.Turnable.{placed, top_after, answer_to, queue_after, Standing, HasRoom, Turnable, ended, Ended}
use Rattle.steps.proofs.GivesLaws.{replies_as}
use Rattle.steps.proofs.CountLaws.{counts-enqueue, counts-dequeue, counts-put_event, counts-drop, counts_last}
use Rattle.state.proofs.QueueLaws.{put_event_past}
use Rattle.steps.proofs.StepLaws.{step_replies, sized_enqueue, sized_dequeue, sized_put}

-- ---- The reply

module _ (s : State) (place : ℕ) (answer : Answer) (altered : Altered) (queue : QueueMove) (stands : Standing (requeue queue s) place)
    (few : Within altered) where
  -- a stack goes last
  pub turned_replies : (stack : Stack) → stack.depth ≤ 7
      → Replies (ended (view_state (requeue queue s)) place (view_stack stack ∷ []) answer altered)
      (applied s (record { answer = answer; altered = altered; queue = queue; stacks = stacks.Last place; stack = stack; numbering = numbering.Keep }))
  turned_replies stack deep =
      let u = requeue queue s in
      let t : Step = record { answer = answer; altered = altered; queue = queue; stacks = stacks.Last place; stack = stack; numbering = numbering.Keep } in
      step_replies s t (restacked (view_state u) (remove_at place (view_stacks u) ++ (view_stack stack ∷ [])))
      (last_state u place stack stands.sized.stacks stands.exists) (counts_last u stands.counts stands.sized.stacks place stack deep) few

  -- a stack goes
  pub emptied_replies : (stack : Stack)
      → Replies (ended (view_state (requeue queue s)) place [] answer altered)
      (applied s (record { answer = answer; altered = altered; queue = queue; stacks = stacks.Remove place; stack = stack; numbering = numbering.Keep }))
  emptied_replies stack =
      let u = requeue queue s in
      let t : Step = record { answer = answer; altered = altered; queue = queue; stacks = stacks.Remove place; stack = stack; numbering = numbering.Keep } in
      step_replies s t (restacked (view_state u) (remove_at place (view_stacks u) ++ []))
      (drop-state u place stands.sized.stacks ∙ ap (restacked (view_state u)) (sym (append-nil (remove_at place (view_stacks u)))))
      (counts-drop u stands.counts stands.sized.stacks place) few

-- ---- The queue

failure_marks : (event : Event) (plan : ℕ) → plan < 32 → with_failure event plan ≡ marked plan event
failure_marks event plan low =
    let failed = with_below event.failed plan low in
    λ i. record { origin = event.origin; kind = event.kind; literal = event.literal; failed = failed i }

-- the state with another queue; the stacks keep their places
pub record Requeues (s : State) (place : ℕ) (queue : List Event) (r : State) : Type 0 where
  pub shown : view_state r ≡ requeued (view_state s) queue
  pub standing : Standing r place

module _ (s : State) (place : ℕ) (stands : Standing s place) where
  -- another queue, and as many stacks
  requeues : (r : State) (queue : List Event) → view_state r ≡ requeued (view_state s) queue → stacked_of r ≡ stacked_of s → counts_fit r ≡ true → Sized r
      → Requeues s place queue r
  requeues r queue shown stacked fit sized =
      record { shown = shown; standing = record { sized = sized; counts = fit; exists = omega (arith, stacked, stands.exists) } }

  len : length s.queue ≡ 88
  len = stands.sized.queue

  -- an event more
  pub enqueue_requeues : (event : Event) → s.queued < 88 → Requeues s place (view_queue s ++ (event ∷ [])) (requeue (queue.Enqueue event) s)
  enqueue_requeues event room =
      requeues (enqueue s event) (view_queue s ++ (event ∷ [])) (enqueue-state s event len room) (enqueue_stacked s event)
      (counts-enqueue s stands.counts event) (sized_enqueue s stands.sized event)

  -- an event less
  pub close_requeues : (served : Origin) → Requeues s place (close_event served (view_queue s)) (requeue (queue.Close served) s)
  unfolding close_event
  close_requeues served =
      let i = place_of s served in
      requeues (dequeue s i) (remove_at i (view_queue s)) (dequeue-state s i len) (dequeue_stacked s i) (counts-dequeue s stands.counts i)
      (sized_dequeue s stands.sized i)

  -- a plan has failed for the event
  module _ (served : Origin) (plan : ℕ) (low : plan < 32) where
    event : Event
    event = with_failure (get_or s.queue (place_of s served) no_event) plan

    mark_past : queued_of s ≤ place_of s served → view_state (put_event s (place_of s served) event) ≡ requeued (view_state s) (mark_event plan served (view_queue s))
    unfolding mark_event change_at
    mark_past h =
        let none = first-none (is_of served) (view_queue s) (place_of s served) refl (omega (arith, length_queue s len)) in
        ap view_state (sym (put_event_past s (place_of s served) h event)) ∙ ap (requeued (view_state s)) (sym (ap (change_at (marked plan) (view_queue s)) none))

    mark_there : place_of s served < queued_of s
        → view_state (put_event s (place_of s served) event) ≡ requeued (view_state s) (mark_event plan served (view_queue s))
    unfolding mark_event change_at event
    mark_there h =
        let i = place_of s served in
        let here : get_or (view_queue s) i no_event ≡ get_or s.queue i no_event = get_or-take (queued_of s) s.queue i no_event h in
        let failed : event ≡ marked plan (get_or (view_queue s) i no_event) = failure_marks (get_or s.queue i no_event) plan low ∙ ap (marked plan) (sym here) in
        let found = first_at (is_of served) (view_queue s) i no_event refl (omega (arith, length_queue s len)) in
        put_event-state s i event len
        ∙ ap (requeued (view_state s)) (ap (set (view_queue s) i) failed ∙ sym (ap (change_at (marked plan) (view_queue s)) found))

    pub mark_requeues : Requeues s place (mark_event plan served (view_queue s)) (requeue (queue.Mark served plan) s)
    unfolding event
    mark_requeues =
        let i = place_of s served in
        let shown = by_cases (ltb i (queued_of s)) (λ p. mark_there (ltb-true i (queued_of s) p)) (λ p. mark_past (ltb-false i (queued_of s) p)) in
        requeues (put_event s i event) (mark_event plan served (view_queue s)) shown
        (put_event_stacked s i event) (counts-put_event s stands.counts i event) (sized_put s stands.sized i event)

-- ---- The stack

-- the stack without its top
pub pops : (stack next : Stack) (change : Instance → Instance) (x : Instance) → 0 < depth_of stack → next ≡ pop stack x → x ≡ change (under_top stack)
    → view_stack next ∷ [] ≡ popped stack.external change (view_stack stack).below
pops stack next change x h p q =
    ap (λ (k : Stack). view_stack k ∷ []) (p ∙ ap (pop stack) q) ∙ sym (pop-view stack change h)

-- ---- The model's reply

pub ended-after : (s t : State) (place : ℕ) (stack : Stack) (next : List Intention) (answer : Answer) (changes : List Change) (queue : List Event) (altered : Altered)
    → Alters s.beliefs changes altered → view_state t ≡ requeued (view_state s) queue
    → ended (view_state t) place next answer altered ≡ reply answer changes (after (view_state s) changes queue (last_in_turn (view_state s) (placed place stack) next))
ended-after s t place stack next answer changes queue altered a e =
    let noted = a.noted in
    let table = a.table in
    ap (λ (v : AgentState). ended v place next answer altered) e
    ∙ (λ i. record {
      result = record { answer = answer; changes = noted i };
      state = record { beliefs = table i; queue = queue; stacks = remove_at place (view_stacks s) ++ next; taken = s.taken; made = s.made };
    })

-- the step for what came of a branch: another top, and the stack goes last
module _ (s : State) (place : ℕ) (stack : Stack) (branch : Branch) (altered : Altered) (t : Step) (stands : Standing s place) where
  -- the try as the code found it
  abbrev Answered : Try → Type 0
  Answered try =
      Ended place (view_stack (replace_top stack (top_after stack.top branch try)) ∷ []) (answer_to stack.top branch try) altered
      (queue_after stack.top branch try) t

  pub tried_replies : (try : Try) → Alters s.beliefs (changes_by try) altered → HasRoom s try → Answered try
      → Replies (tried (view_state s) (placed place stack) branch try) (applied s t)
  unfolding tried
  tried_replies missed alters room goes =
      replies_as (ended-after s s place stack _ _ [] (view_queue s) altered alters refl)
      (goes s stands (altered_within alters (counts-parts s stands.counts).beliefs))
  tried_replies (stepped env changes) alters room goes =
      replies_as (ended-after s s place stack _ _ changes (view_queue s) altered alters refl)
      (goes s stands (altered_within alters (counts-parts s stands.counts).beliefs))
  tried_replies (done literal) alters room goes =
      replies_as (ended-after s s place stack _ _ [] (view_queue s) altered alters refl)
      (goes s stands (altered_within alters (counts-parts s stands.counts).beliefs))
  tried_replies (posted goal) alters room goes =
      let event = new_goal stack.top branch.kind goal in
      let q = enqueue_requeues s place stands event (room goal refl) in
      replies_as (ended-after s (enqueue s event) place stack _ _ [] (view_queue s ++ (event ∷ [])) altered alters q.shown)
      (goes s q.standing (altered_within alters (counts-parts s stands.counts).beliefs))

-- the turn of a stack, by the move of its top
module _ (bytes : List ℕ) (s : State) (beliefs : Beliefs) (place : ℕ) (stack : Stack) (h : Turnable bytes s beliefs place stack) where
  pub turns_by : (m : Move) → next_move (library_of bytes) (view beliefs) stack.top ≡ m → (r : Acted)
      → Replies (turn_by (library_of bytes) (view_state s) (placed place stack) m) r → Replies (turn (library_of bytes) (view_state s) (placed place stack)) r
  unfolding turn
  turns_by m e r t =
      let here = subst⁻¹ (λ (b : Beliefs). next_move (library_of bytes) (view b) stack.top ≡ m) h.beliefs_are e in
      replies_as (ap (turn_by (library_of bytes) (view_state s) (placed place stack)) (sym here)) t

  pub turns-tried : (branch : Branch) → next_move (library_of bytes) (view beliefs) stack.top ≡ tries branch → (r : Acted)
      → Replies (tried (view_state s) (placed place stack) branch (attempt (view beliefs) (height_of (view_stack stack)) stack.top.env branch)) r
      → Replies (turn (library_of bytes) (view_state s) (placed place stack)) r
  unfolding turn_by
  turns-tried branch e r t =
      turns_by (tries branch) e r
      (subst⁻¹ (λ (b : Beliefs). Replies (tried (view_state s) (placed place stack) branch (attempt (view b) (height_of (view_stack stack)) stack.top.env branch)) r)
      h.beliefs_are t)
