-- What the moves of a step make of a state: the model's reply, from the view after the moves.
use Prim.Native.Nat.{ℕ, ◌-◌, ◌<◌, ◌≤◌}
use native.Mathlib.Omega.{arith}
use mathlib.Core.Path.{◌≡◌, refl, ap, sym, ◌∙◌}
use mathlib.Core.Bool.{Bool, true, false, cond}
use mathlib.Core.List.{List}
use lib.ListN.{length, length-set, length-append, length-take, length-drop}
use lib.Dec.{ltb}
use borrow.Author.Tests.{ltb-true}
use Rattle.lists.specs.Gap.{close_gap}
use Rattle.belief.specs.declared.Beliefs.{Beliefs}
use Rattle.belief.specs.Beliefs.{view}
use Rattle.model.specs.declared.Answer.{Answer}
use Rattle.model.specs.declared.Event.{Event}
use Rattle.model.specs.State.{AgentState, Reply, reply}
use Rattle.state.specs.declared.Stack.{Stack}
use Rattle.state.specs.declared.State.{State}
use Rattle.state.specs.View.{queued_of, stacked_of, view_state, counts_fit}
use Rattle.state.specs.Queue.{with_queue, enqueue, dequeue, put_event}
use Rattle.state.specs.Stacks.{with_stacks, open_last, put_at, drop_at, turn_last}
use Rattle.state.proofs.CountParts.{Counts, counts-parts, counts_whole}
use Rattle.moves.specs.declared.QueueMove.{QueueMove}
use Rattle.moves.specs.declared.QueueMove.TheVariants as queue
use Rattle.moves.specs.declared.StackMove.{StackMove}
use Rattle.moves.specs.declared.StackMove.TheVariants as stacks
use Rattle.moves.specs.Moves.{place_of, requeue, restack, taken_by, made_by}
use Rattle.steps.specs.declared.step.Step.{Step}
use Rattle.steps.specs.View.{plainly, Sized}
use Rattle.steps.specs.Gives.{Replies}
use Rattle.trials.specs.Altered.{changes_of, Within}
use Rattle.steps.specs.Step.{state_after, applied, rest_step}

-- ---- The reply

-- the state with its queue and stacks moved
abbrev pub moved : State → Step → State
moved s t = restack t.stacks t.stack (requeue t.queue s)

-- the model's reply, where this is the view of the moved state
abbrev pub reply_by : Step → AgentState → Reply
reply_by t v =
    reply t.answer (changes_of t.altered)
    (record {
      beliefs = view t.altered.table;
      queue = v.queue;
      stacks = v.stacks;
      taken = taken_by t.numbering v.taken;
      made = made_by t.numbering v.made;
    })

-- the counts fit where they do in the moved state
step_fits : (s : State) (t : Step) → counts_fit (moved s t) ≡ true → t.altered.table.count ≤ 64 → counts_fit (state_after s t) ≡ true
step_fits s t fit few =
    let counts : Counts (moved s t) = counts-parts (moved s t) fit in
    counts_whole (state_after s t) (record { beliefs = few; queued = counts.queued; stacked = counts.stacked; depths = counts.depths })

pub step_replies : (s : State) (t : Step) (v : AgentState) → view_state (moved s t) ≡ v → counts_fit (moved s t) ≡ true → Within t.altered
    → Replies (reply_by t v) (applied s t)
step_replies s t v shown fit few = record { means = ap (reply_by t) shown; fit = step_fits s t fit few.table; count = few.changes }

-- a step in which nothing moves, on a state with its beliefs
pub rest-applied : (s : State) (b : Beliefs) (answer : Answer) (t : Step) → t ≡ rest_step b answer → s.beliefs ≡ b → applied s t ≡ plainly s answer
rest-applied s b answer t e h =
    ap (applied s) e
    ∙ (λ i. plainly (record { beliefs = sym h i; queue = s.queue; queued = s.queued; stacks = s.stacks; stacked = s.stacked; taken = s.taken; made = s.made }) answer)

-- ---- The lengths of the arrays

length_gap : {A : Type 0} (xs : List A) (i n : ℕ) → i ≤ n → n < length xs → length (close_gap i n xs) ≡ length xs
length_gap xs i n low high = simp (length-append, length-take, length-drop) (omega arith)

sized_queue : (b : Bool) (s : State) (queue : List Event) (queued : ℕ) → Sized s → (b ≡ true → length queue ≡ 88) → Sized (cond b (with_queue s queue queued) s)
sized_queue true s queue queued h e = record { queue = e refl; stacks = h.stacks }
sized_queue false s queue queued h e = h

module _ (s : State) (h : Sized s) where
  pub sized_enqueue : (event : Event) → Sized (enqueue s event)
  unfolding enqueue
  sized_enqueue event = sized_queue (ltb s.queued 88) s _ _ h (λ e. length-set s.queue s.queued event ∙ h.queue)

  pub sized_dequeue : (place : ℕ) → Sized (dequeue s place)
  unfolding dequeue
  sized_dequeue place =
      sized_queue (ltb place (queued_of s)) s _ _ h
      (λ e. let low = ltb-true place (queued_of s) e in length_gap s.queue place (queued_of s - 1) (omega arith) (omega (arith, h.queue)) ∙ h.queue)

  pub sized_put : (place : ℕ) (event : Event) → Sized (put_event s place event)
  unfolding put_event
  sized_put place event = sized_queue (ltb place (queued_of s)) s _ _ h (λ e. length-set s.queue place event ∙ h.queue)

sized_stacks : (b : Bool) (s : State) (stacks : List Stack) (stacked : ℕ) → Sized s → (b ≡ true → length stacks ≡ 8) → Sized (cond b (with_stacks s stacks stacked) s)
sized_stacks true s stacks stacked h e = record { queue = h.queue; stacks = e refl }
sized_stacks false s stacks stacked h e = h

module _ (s : State) (h : Sized s) where
  sized_requeue : (change : QueueMove) → Sized (requeue change s)
  sized_requeue queue.Keep = h
  sized_requeue (queue.Enqueue event) = sized_enqueue s h event
  sized_requeue (queue.Remove place) = sized_dequeue s h place
  sized_requeue (queue.Close origin) = sized_dequeue s h (place_of s origin)
  sized_requeue (queue.Mark origin plan) = sized_put s h (place_of s origin) _

  length_closed : (place : ℕ) → ltb place (stacked_of s) ≡ true → length (close_gap place (stacked_of s - 1) s.stacks) ≡ 8
  length_closed place e =
      let low = ltb-true place (stacked_of s) e in
      length_gap s.stacks place (stacked_of s - 1) (omega arith) (omega (arith, h.stacks)) ∙ h.stacks

  sized_restack : (change : StackMove) (stack : Stack) → Sized (restack change stack s)
  unfolding open_last put_at drop_at turn_last
  sized_restack stacks.Keep stack = h
  sized_restack stacks.Open stack = sized_stacks (ltb s.stacked 8) s _ _ h (λ e. length-set s.stacks s.stacked stack ∙ h.stacks)
  sized_restack (stacks.Replace place) stack = sized_stacks (ltb place (stacked_of s)) s _ _ h (λ e. length-set s.stacks place stack ∙ h.stacks)
  sized_restack (stacks.Last place) stack =
      sized_stacks (ltb place (stacked_of s)) s _ _ h (λ e. length-set (close_gap place (stacked_of s - 1) s.stacks) (stacked_of s - 1) stack ∙ length_closed place e)
  sized_restack (stacks.Remove place) stack = sized_stacks (ltb place (stacked_of s)) s _ _ h (λ e. length_closed place e)

-- a step keeps them
pub sized_after : (s : State) → Sized s → (t : Step) → Sized (state_after s t)
sized_after s h t =
    let m = sized_restack (requeue t.queue s) (sized_requeue s h t.queue) t.stacks t.stack in
    record { queue = m.queue; stacks = m.stacks }
