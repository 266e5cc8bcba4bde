-- What a well-formed state gives to the code: each worker's needs.
use Prim.Native.Nat.{ℕ, ◌+◌, ◌<◌, ◌≤◌}
use native.Mathlib.Omega.{arith}
use mathlib.Core.Path.{◌≡◌, refl, ap, sym, subst, subst⁻¹, ◌∙◌}
use mathlib.Core.Bool.{Bool, true, false, cond, not, ◌&&◌, ◌||◌}
use Rattle.std.specs.Prelude.{Option, None, Some}
use mathlib.Core.List.{List, [], ◌∷◌, ◌++◌}
use lib.ListN.{length, get_or, length-map, length-append}
use lib.Seq.{get_or-take}
use lib.Dec.{ltb, leb, eqb}
use borrow.Author.Tests.{ltb-true, leb-false, eq-eqb, not-true}
use Rattle.lists.specs.Search.{position}
use Rattle.lists.specs.Gap.{remove_at}
use Rattle.lists.specs.Counts.{count}
use Rattle.lists.proofs.BoolLaws.{by_cases, and_parts, or_parts}
use Rattle.lists.proofs.SearchLaws.{any-position}
use Rattle.lists.proofs.TestCounts.{any_none, some-any}
use Rattle.lists.proofs.LikeLaws.{Like, like_refl, like_at}
use Rattle.lists.proofs.PlaceLaws.{passes_at}
use Rattle.literal.specs.declared.Literal.{Literal}
use Rattle.literal.specs.declared.Env.{Env}
use Rattle.literal.specs.Literal.{is_ground, opposite}
use Rattle.literal.specs.Environment.{instantiate}
use Rattle.belief.specs.declared.Change.{Change}
use Rattle.belief.specs.Beliefs.{view, holds}
use Rattle.model.specs.Changes.{change_of, effective}
use Rattle.library.specs.declared.Branch.{Branch}
use Rattle.library.specs.Plan.{Plan, no_plan}
use Rattle.library.specs.Layout.{plan_count, library_of, plan_of}
use Rattle.accepted.specs.Refusal.{refusal_of}
use Rattle.library.proofs.PartLaws.{length_plans, plan_is}
use Rattle.accepted.proofs.RuleFacts.{state-branches}
use Rattle.accepted.proofs.Accepted.{keeps}
use Rattle.model.specs.declared.Event.{Event}
use Rattle.model.specs.State.{Intention, report, Reply, no_event}
use Rattle.model.specs.Live.{is_goal, live, serves, is_pending, is_ready, is_poster}
use Rattle.model.specs.Instance.{is_suspended, branches_of}
use Rattle.model.specs.Report.{report_refusal, report_changes, take_in, report_by, reported, new_event}
use Rattle.literal.specs.Divide.{divide}
use Rattle.model.specs.Try.{missed, stepped, done, posted, is_possible, try_change, try_action, try_divide, answer_to, is_barred, pursue, attempt}
use Rattle.model.specs.Turn.{height_of, is_running}
use Rattle.model.specs.Calls.{act}
use Rattle.model.specs.WellFormed.{is_well_formed}
use Rattle.model.specs.Formed.{Formed, WellFormed}
use Rattle.model.proofs.OriginLaws.{origin_same}
use Rattle.model.proofs.WellFormedTest.{test_formed}
use Rattle.model.proofs.FormedLaws.{reform, first_sound, first_stacked, poster_found}
use Rattle.model.proofs.InstanceLaws.{active_awake}
use Rattle.model.proofs.QueueBound.{queue_few, queue_room}
use Rattle.model.proofs.CallLaws.{call_acts, call_formed}
use Rattle.model.proofs.AcceptedLibrary.{acceptable}
use Rattle.state.specs.declared.Stack.{Stack}
use Rattle.state.specs.declared.State.{State}
use Rattle.state.specs.View.{no_stack, depth_of, view_stack, queued_of, stacked_of, view_queue, view_stacks, view_state, counts_fit}
use Rattle.state.proofs.ViewLaws.{length_queue, length-stacks, stack_at_lem}
use Rattle.state.proofs.StackLaws.{length-down}
use Rattle.steps.specs.Report.{Hears}
use Rattle.agent.specs.TakeUp.{standing, poster_in, HasPoster, HasPlace}
use Rattle.agent.specs.Turnable.{Runnable, Turnable}
use Rattle.steps.specs.View.{Sized, event_at, stack_at}
use Rattle.state.proofs.CountParts.{counts-parts}
use Rattle.steps.proofs.CountLaws.{counts_depth}

-- a goal is posted only from a stack with room
change-posts : {P : Type 0} (env : Env) (changes : List Change) (goal : Literal) (b : Bool) → cond b (stepped env changes) missed ≡ posted goal → P
change-posts env changes goal true e = let z : ◌≡◌ {A = ℕ} 0 1 = cc in absurd (omega arith)
change-posts env changes goal false e = let z : ◌≡◌ {A = ℕ} 0 1 = cc in absurd (omega arith)

action-posts : {P : Type 0} (literal goal : Literal) (b : Bool) → cond b (done literal) missed ≡ posted goal → P
action-posts literal goal true e = let z : ◌≡◌ {A = ℕ} 0 1 = cc in absurd (omega arith)
action-posts literal goal false e = let z : ◌≡◌ {A = ℕ} 0 1 = cc in absurd (omega arith)

divide-posts : {P : Type 0} (o : Option Env) (goal : Literal) → try_divide o ≡ posted goal → P
unfolding try_divide
divide-posts None goal e = let z : ◌≡◌ {A = ℕ} 0 1 = cc in absurd (omega arith)
divide-posts (Some env) goal e = let z : ◌≡◌ {A = ℕ} 0 1 = cc in absurd (omega arith)

pursue-posts : (answer : Option Env) (barred : Bool) (literal goal : Literal) → pursue answer barred literal ≡ posted goal → barred ≡ false
unfolding pursue
pursue-posts (Some env) barred literal goal e = let z : ◌≡◌ {A = ℕ} 0 1 = cc in absurd (omega arith)
pursue-posts None true literal goal e = let z : ◌≡◌ {A = ℕ} 0 1 = cc in absurd (omega arith)
pursue-posts None false literal goal e = refl

posted_low : (beliefs : List Literal) (height : ℕ) (env : Env) (b : Branch) (goal : Literal) → attempt beliefs height env b ≡ posted goal → height < 8
unfolding attempt try_change try_action is_barred
posted_low beliefs height env b goal e =
    let literal = instantiate env b.literal in
    let c = change_of b.kind literal in
    by_cases (ltb b.kind 2)
    (λ p. change-posts env (effective beliefs c) goal (is_possible beliefs c) (rw p at e))
    (λ p. by_cases (eqb b.kind 2)
    (λ q. action-posts literal goal (is_ground literal) (rw (p, q) at e))
    (λ q. by_cases (eqb b.kind 5)
    (λ r. divide-posts (divide b.literal env) goal (rw (p, q, r) at e))
    (λ r.
    let other = not (eqb b.kind 3) && holds beliefs (opposite literal) in
    let barred = pursue-posts (answer_to b.kind beliefs env b.literal) (not (is_ground literal) || (other || leb 8 height)) literal goal (rw (p, q, r) at e) in
    leb-false 8 height (or_parts other (leb 8 height) (or_parts (not (is_ground literal)) (other || leb 8 height) barred).1).1)))

module _ (bytes : List ℕ) (s : State) (fits : counts_fit s ≡ true) (formed : is_well_formed (library_of bytes) (view_state s) ≡ true)
    (sized : Sized s) where
  queue_size : length s.queue ≡ 88
  queue_size = sized.queue

  stacks-size : length s.stacks ≡ 8
  stacks-size = sized.stacks

  whole : WellFormed (library_of bytes) (view_state s)
  whole = test_formed (library_of bytes) (view_state s) formed

  -- the stack at a place, put first
  stack-first : (place : ℕ) (d : Stack) → place < stacked_of s
      → Formed (library_of bytes) (view s.beliefs) (view_queue s) (view_stack (get_or s.stacks place d) ∷ remove_at place (view_stacks s)) s.taken s.made
  stack-first place d low =
      let moved = like_at (view_stacks s) place (view_stack d) (omega (arith, length-stacks s stacks-size)) in
      reform (like_refl (view_queue s)) (subst (λ (k : Intention). Like (view_stacks s) (k ∷ remove_at place (view_stacks s))) (stack_at_lem s place d low) moved) whole

  top_plan : (place : ℕ) (d : Stack) → place < stacked_of s → (get_or s.stacks place d).top.plan < plan_count bytes
  top_plan place d low = omega (arith, (first_sound (stack-first place d low)).plan, length_plans bytes)

  -- ---- Report

  within : s.queued ≤ 88
  within = (counts-parts s fits).queued

  -- a report that is taken in is the model's call
  taken_by_lem : (kind : ℕ) (l : Literal) → report_refusal (view_state s) kind l ≡ 0
      → act (library_of bytes) (view_state s) (report kind l) ≡ take_in (view_state s) kind l (report_changes (view s.beliefs) kind l)
  unfolding act reported report_by
  taken_by_lem kind l e = rw (eq-eqb (report_refusal (view_state s) kind l) 0 e)

  queue_in : (kind : ℕ) (l : Literal) → (take_in (view_state s) kind l (report_changes (view s.beliefs) kind l)).state.queue ≡ view_queue s ++ (new_event (s.taken + 1) kind l ∷ [])
  unfolding take_in
  queue_in kind l = refl

  pub hears : refusal_of bytes ≡ 0 → (kind : ℕ) (l : Literal) → Hears s kind l
  hears accepted kind l = record { sized = sized; fit = fits; room = room }
    where
      room : report_refusal (view_state s) kind l ≡ 0 → s.queued < 88
      room e =
          let r = acceptable bytes accepted in
          let same = call_acts (library_of bytes) r (view_state s) whole (report kind l) ∙ taken_by_lem kind l e in
          let few = queue_few (call_formed (library_of bytes) r (view_state s) whole (report kind l)) in
          let queue = ap (λ (x : Reply). x.state.queue) same ∙ queue_in kind l in
          omega (arith, few, ap length queue, length-append (view_queue s) (new_event (s.taken + 1) kind l ∷ []), length_queue s queue_size, within)

  -- ---- Taking up an event

  module _ (place : ℕ) (e : place ≡ position (is_ready (live (view_stacks s)) (length (view_stacks s))) (view_queue s)) (low : place < queued_of s) where
    event : Event
    event = event_at s place

    event_is : get_or (view_queue s) place no_event ≡ event_at s place
    event_is = get_or-take (queued_of s) s.queue place no_event low

    there : place < length (view_queue s)
    there = omega (arith, length_queue s queue_size)

    ready : is_ready (live (view_stacks s)) (length (view_stacks s)) (event_at s place) ≡ true
    ready = subst (λ (x : Event). is_ready (live (view_stacks s)) (length (view_stacks s)) x ≡ true) event_is
        (passes_at (is_ready (live (view_stacks s)) (length (view_stacks s))) (view_queue s) place no_event e there)

    pending : is_pending (live (view_stacks s)) (event_at s place) ≡ true
    unfolding is_ready
    pending = (and_parts (is_pending (live (view_stacks s)) (event_at s place)) _ ready).0

    unserved : count (serves (event_at s place).origin) (live (view_stacks s)) ≡ 0
    unfolding is_pending
    unserved = any_none (serves (event_at s place).origin) (live (view_stacks s)) (not-true _ pending)

    -- an external event is taken up only where there is room for a stack
    external_room : is_goal (event_at s place).origin ≡ false → length (standing s) < 8
    unfolding is_ready
    external_room g =
        let held = (and_parts (is_pending (live (view_stacks s)) (event_at s place)) _ ready).1 in
        let few : ltb (length (view_stacks s)) 8 ≡ true = rw g at held in
        omega (arith, ltb-true (length (view_stacks s)) 8 few, length-map (standing s) view_stack)

    -- the queue with the event put first
    event_first : Formed (library_of bytes) (view s.beliefs) (event_at s place ∷ remove_at place (view_queue s)) (view_stacks s) s.taken s.made
    event_first =
        let moved = like_at (view_queue s) place no_event there in
        reform (subst (λ (x : Event). Like (view_queue s) (x ∷ remove_at place (view_queue s))) event_is moved) (like_refl (view_stacks s)) whole

    -- the poster of a pending goal is the top of a stack with room
    goal_poster : is_goal (event_at s place).origin ≡ true → HasPoster (standing s) (event_at s place).origin
    goal_poster g =
        let origin = (event_at s place).origin in
        let some-poster = poster_found event_first g (origin_same origin) unserved in
        let at = any-position (is_poster origin) (view_stacks s) in
        let found-there = ltb-true (poster_in (standing s) origin) (length (view_stacks s)) (sym at ∙ some-any (is_poster origin) (view_stacks s) some-poster) in
        let low-there : poster_in (standing s) origin < stacked_of s = omega (arith, length-stacks s stacks-size) in
        let is-poster = subst (λ (k : Intention). is_poster origin k ≡ true) (stack_at_lem s (poster_in (standing s) origin) no_stack low-there)
        (passes_at (is_poster origin) (view_stacks s) (poster_in (standing s) origin) (view_stack no_stack) refl found-there) in
        let asleep = (and_parts (is_suspended (stack_at s (poster_in (standing s) origin)).top.status) _ is-poster).0 in
        let height = (first_stacked (stack-first (poster_in (standing s) origin) no_stack low-there)).room asleep in
        let room : (stack_at s (poster_in (standing s) origin)).depth < 7
        = omega (arith, height, length-down (depth_of (stack_at s (poster_in (standing s) origin))) (stack_at s (poster_in (standing s) origin)).below) in
        let is = get_or-take (stacked_of s) s.stacks (poster_in (standing s) origin) no_stack low-there in
        record {
          there = omega (arith, low-there, length-map (standing s) view_stack, length-stacks s stacks-size);
          room = subst⁻¹ (λ (k : Stack). k.depth < 7) is room;
        }

    pub has_place : HasPlace (standing s) (event_at s place).origin
    has_place = record { external = external_room; goal = goal_poster }

  -- ---- The turn of a stack

  module _ (accepted : refusal_of bytes ≡ 0) (place : ℕ) (low : place < stacked_of s) where
    stack : Stack
    stack = stack_at s place

    placed_first : Formed (library_of bytes) (view s.beliefs) (view_queue s) (view_stack (stack_at s place) ∷ remove_at place (view_stacks s)) s.taken s.made
    placed_first = stack-first place no_stack low

    -- a state of an accepted plan has at most four branches
    tried-few : (stack_at s place).top.tried ≤ 4
    unfolding branches_of Rattle.model.specs.Instance.plan_of
    tried-few =
        let x = (stack_at s place).top in
        let sound = first_sound placed_first in
        let there = top_plan place no_stack low in
        let is = plan_is bytes x.plan no_plan there in
        let state = subst (λ (p : Plan). x.state < length p.states) is sound.state in
        let tried = subst (λ (p : Plan). x.tried ≤ length (get_or p.states x.state [])) is sound.tried in
        omega (arith, tried, state-branches (plan_of bytes x.plan).states (keeps bytes accepted x.plan there).states x.state state)

    pub runnable : Runnable bytes s.beliefs (stack_at s place)
    runnable = record {
      accepted = accepted;
      few = (counts-parts s fits).beliefs;
      depth = counts_depth s fits place no_stack stacks-size low;
      plan = top_plan place no_stack low;
      tried = tried-few;
    }

    pub turnable : place ≡ position is_running (view_stacks s) → Turnable bytes s s.beliefs place (stack_at s place)
    turnable e =
        let k = stack_at s place in
        let running = subst (λ (i : Intention). is_running i ≡ true) (stack_at_lem s place no_stack low)
        (passes_at is_running (view_stacks s) place (view_stack no_stack) e (omega (arith, length-stacks s stacks-size))) in
        record {
          beliefs_are = refl;
          standing = record { sized = sized; counts = fits; exists = low };
          room = λ b m goal p. omega (arith, queue_room placed_first (active_awake k.top.status running) (posted_low (view s.beliefs) (height_of (view_stack k)) k.top.env b goal p), length_queue s queue_size, within);
        }
