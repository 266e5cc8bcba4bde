-- Every cycle that runs a stack, and every outcome, is one step up to the order of queue and stacks; so every call on a well-formed state is one.
use Prim.Native.Nat.{ℕ, ◌≤◌}
use mathlib.Core.Path.{◌≡◌, refl}
use Rattle.std.specs.Prelude.{Option, None, Some}
use mathlib.Core.List.{List, [], ◌∷◌, ◌++◌}
use mathlib.Core.Bool.{Bool, true, false}
use native.Mathlib.Omega.{arith}
use lib.Dec.{eqb}
use lib.ListN.{length}
use Rattle.lists.specs.Gap.{remove_at}
use Rattle.lists.specs.Counts.{count}
use Rattle.lists.specs.Places.{Placed, first}
use Rattle.lists.proofs.BoolLaws.{and_parts}
use Rattle.lists.proofs.CountLaws.{bit_every}
use Rattle.lists.proofs.LikeLaws.{Like, like_refl, like_turn}
use Rattle.lists.proofs.PlaceLaws.{Found, FoundIf, found, position_taken, change_found}
use Rattle.belief.specs.Beliefs.{replay}
use Rattle.library.specs.declared.Action.{Action}
use Rattle.library.specs.declared.Branch.{Branch}
use Rattle.library.specs.Plan.{Library}
use Rattle.situation.specs.Solutions.{holds_from}
use Rattle.model.specs.declared.Event.{Event}
use Rattle.model.specs.declared.Instance.{Instance}
use Rattle.model.specs.declared.Answer.{Answer}
use Rattle.model.specs.declared.Answer.TheVariants.{Idle, Succeeded, Failed}
use Rattle.model.specs.State.{most_actions, Intention, AgentState, Call, report, cycle, outcome}
use Rattle.model.specs.Instance.{is_waiting, is_suspended, plan_of, past_branch}
use Rattle.model.specs.Live.{is_of, event_on, live, is_ready}
use Rattle.model.specs.Changes.{are_effective}
use Rattle.model.specs.Try.{Try, tried}
use Rattle.model.specs.End.{served_by, close_event, marked, mark_event, popped, end_top, succeed, fail}
use Rattle.model.specs.Turn.{Move, fails, succeeds, tries, next_move, height_of, turn_by, is_running, turn}
use Rattle.model.specs.Outcome.{is_awaiting, outcome_by, told}
use Rattle.model.specs.Cycle.{next_event, next_stack, choice_for, cycle_by, cycled}
use Rattle.model.specs.Calls.{act, is_refusal_for}
use Rattle.model.specs.Formed.{Acceptable, Formed, WellFormed}
use Rattle.model.proofs.OriginLaws.{origin_equal}
use Rattle.situation.proofs.ChosenLaws.{choose_apt}
use Rattle.model.proofs.ChangeLaws.{effects-kept, effects_do, effects-few}
use Rattle.model.proofs.InstanceLaws.{active_awake, Branching, MoveOk, move_ok}
use Rattle.model.proofs.TryLaws.{TryOk, attempt_ok}
use Rattle.model.proofs.FormedLaws.{stack, reform, beliefs_ground, first_sound, first_stacked, first_served}
use Rattle.model.proofs.Step.{Step}
use Rattle.model.proofs.EventWalk.{Moved, quiet, stays, report-moved, literal_ground, take_up-moved}

module _ (library : Library) (r : Acceptable library) (s : AgentState) (w : WellFormed library s) where
  -- ---- A stack that was found, put first

  module _ (test : Intention → Bool) (k : Placed Intention) (f : Found test s.stacks k) where
    abbrev others : List Intention
    others = remove_at k.place s.stacks

    formed_stack : Formed library s.beliefs s.queue (k.it ∷ others) s.taken s.made
    formed_stack = reform (like_refl s.queue) f.taken w

    -- ---- It tries a branch

    tried-moved : is_suspended k.it.top.status ≡ false → (b : Branch) → Branching library k.it.top b → (t : Try)
        → TryOk s.beliefs (height_of k.it) k.it.top.env b t → Moved library s cycle (tried s k b t)
    unfolding tried replay are_effective
    tried-moved a b h Try.missed o =
        quiet library s w refl (like_refl s.queue) f.taken (Step.missed b a h) (like_refl s.queue) (like_turn (_ ∷ []) others)
    tried-moved a b h (Try.stepped env changes) o = record {
      queue = s.queue;
      queue' = s.queue;
      stacks = k.it ∷ others;
      stacks' = _;
      from_queue = like_refl s.queue;
      from_stacks = f.taken;
      step = Step.stepped b env a h o.env_ok;
      to_queue = like_refl s.queue;
      to_stacks = like_turn (_ ∷ []) others;
      beliefs = refl;
      table = o.table;
      effect = o.effect;
      few = omega (arith, o.few);
    }
    tried-moved a b h (Try.done l) o =
        quiet library s w refl (like_refl s.queue) f.taken (Step.done b l a h o) (like_refl s.queue) (like_turn (_ ∷ []) others)
    tried-moved a b h (Try.posted g) o =
        quiet library s w refl (like_refl s.queue) f.taken (Step.posted b g a h o) (like_turn (_ ∷ []) s.queue) (like_turn (_ ∷ []) others)

    -- ---- It ends

    module _ (a : is_suspended k.it.top.status ≡ false) where
      queued : 1 ≤ count (is_of (served_by k.it)) s.queue
      queued = first_served formed_stack

      -- where a step is known, and a list of at most four actions
      ended : (answer : Answer) (actions : List Action) → length actions ≤ most_actions → (q q' now : List Event) (change : Instance → Instance)
          → Like s.queue q → Like q' now
          → Step library s.taken s.made cycle q (k.it ∷ others) answer s.taken s.made q' (popped k.it.external change k.it.below ++ others)
          → Moved library s cycle (end_top s k answer actions now change)
      unfolding end_top
      ended answer actions short q q' now change x y z = record {
        queue = q;
        queue' = q';
        stacks = k.it ∷ others;
        stacks' = popped k.it.external change k.it.below ++ others;
        from_queue = x;
        from_stacks = f.taken;
        step = z;
        to_queue = y;
        to_stacks = like_turn (popped k.it.external change k.it.below) others;
        beliefs = refl;
        table = effects-kept s.beliefs k.it.top.env actions w.table;
        effect = effects_do s.beliefs k.it.top.env actions w.table;
        few = omega (arith, effects-few s.beliefs k.it.top.env actions);
      }

      -- the step by what stands below the top
      failed-step : (e : Event) (q : List Event) (n : ℕ) (t : Instance) (below : List Instance) (ks : List Intention)
          → is_suspended t.status ≡ false → event_on n below ≡ e.origin
          → Step library s.taken s.made cycle (e ∷ q) (stack n t below ∷ ks) (Failed t.id) s.taken s.made (marked t.plan e ∷ q) (popped n (λ x. x) below ++ ks)
      unfolding popped
      failed-step e q n t [] ks p g = Step.failed_bottom p g
      failed-step e q n t (c ∷ below) ks p g = Step.failed_above p g

      succeeded-step : (e : Event) (q : List Event) (n : ℕ) (t : Instance) (below : List Instance) (ks : List Intention)
          → Formed library s.beliefs s.queue (stack n t below ∷ ks) s.taken s.made
          → is_suspended t.status ≡ false → event_on n below ≡ e.origin
          → Step library s.taken s.made cycle (e ∷ q) (stack n t below ∷ ks) (Succeeded t.id) s.taken s.made q (popped n (past_branch library) below ++ ks)
      unfolding popped
      succeeded-step e q n t [] ks i p g = Step.succeeded_bottom p g
      succeeded-step e q n t (c ∷ below) ks i p g = Step.succeeded_above p g (bit_every (is_suspended c.status) (omega (arith, (first_stacked i).asleep)))

      fail-moved : Moved library s cycle (fail library s k)
      unfolding fail mark_event plan_of
      fail-moved =
          let (e, h, c) = change_found (is_of (served_by k.it)) (marked k.it.top.plan) s.queue queued in
          ended (Failed k.it.top.id) (plan_of library k.it.top).failure (r.failure k.it.top.plan (first_sound formed_stack).plan) _ _ _ (λ x. x) h.taken c
          (failed-step e.it _ k.it.external k.it.top k.it.below others a (origin_equal (served_by k.it) e.it.origin h.passes))

      succeed-moved : Moved library s cycle (succeed library s k)
      unfolding succeed close_event plan_of
      succeed-moved =
          let (e, p, h) = position_taken (is_of (served_by k.it)) s.queue queued in
          ended (Succeeded k.it.top.id) (plan_of library k.it.top).success (r.success k.it.top.plan (first_sound formed_stack).plan) _ _ _ (past_branch library) h (like_refl _)
          (succeeded-step e _ k.it.external k.it.top k.it.below others formed_stack a (origin_equal (served_by k.it) e.origin p))

      -- ---- Its turn

      turn_by-moved : (m : Move) → MoveOk library k.it.top m → Moved library s cycle (turn_by library s k m)
      unfolding turn_by
      turn_by-moved fails o = fail-moved
      turn_by-moved succeeds o = succeed-moved
      turn_by-moved (tries b) o =
          tried-moved a b o _ (attempt_ok s.beliefs (height_of k.it) k.it.top.env b w.table (beliefs_ground s.beliefs w.table) (first_sound formed_stack).env)

      pub turn_moved : Moved library s cycle (turn library s k)
      unfolding turn next_move
      turn_moved = turn_by-moved (next_move library s.beliefs k.it.top) (move_ok library r k.it.top (first_sound formed_stack) (holds_from s.beliefs (plan_of library k.it.top).maintenance k.it.top.env))

  -- ---- Cycle

  cycle-moved : (e : Option (Placed Event)) → FoundIf (is_ready (live s.stacks) (length s.stacks)) s.queue e
      → (k : Option (Placed Intention)) → FoundIf is_running s.stacks k
      → Moved library s cycle (cycle_by library s e k)
  unfolding cycle_by choice_for
  cycle-moved (Some e) f k g =
      take_up-moved library s w e f _ (choose_apt s.beliefs (beliefs_ground s.beliefs w.table) e.it.kind e.it.literal e.it.failed library.plans (literal_ground library s w e f))
  cycle-moved None f (Some k) g = turn_moved is_running k g (active_awake k.it.top.status g.passes)
  cycle-moved None f None g = stays library s w cycle Idle Step.idle

  -- ---- Outcome

  outcome-moved : (id : ℕ) (worked : Bool) (k : Option (Placed Intention)) → FoundIf (is_awaiting id) s.stacks k
      → Moved library s (outcome id worked) (outcome_by library s worked k)
  unfolding outcome_by replay are_effective is_refusal_for
  outcome-moved id worked None g = stays library s w (outcome id worked) _ (Step.refused 8 refl)
  outcome-moved id true (Some k) g =
      let waits = (and_parts (eqb id k.it.top.id) (is_waiting k.it.top.status) g.passes).1 in
      quiet library s w refl (like_refl s.queue) g.taken (Step.worked waits) (like_refl s.queue) (g.changed _)
  outcome-moved id false (Some k) g =
      let waits = (and_parts (eqb id k.it.top.id) (is_waiting k.it.top.status) g.passes).1 in
      quiet library s w refl (like_refl s.queue) g.taken (Step.not_worked_lem waits) (like_refl s.queue) (g.changed _)

  -- ---- Every call

  pub act-moved : (c : Call) → Moved library s c (act library s c)
  unfolding act cycled next_event next_stack told
  act-moved (report kind l) = report-moved library s w kind l
  act-moved cycle = cycle-moved (next_event s) (found (is_ready (live s.stacks) (length s.stacks)) s.queue) (next_stack s) (found is_running s.stacks)
  act-moved (outcome id worked) = outcome-moved id worked (first (is_awaiting id) s.stacks) (found (is_awaiting id) s.stacks)
