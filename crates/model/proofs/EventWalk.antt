-- What a reply is, as one step up to the order of queue and stacks; and that every report, and every cycle that takes up an event, is one.
use Prim.Native.Nat.{ℕ, ◌≤◌, ◌<◌}
use mathlib.Core.Path.{◌≡◌, refl, sym, ap, ◌∙◌, subst}
use Rattle.std.specs.Prelude.{Option, None, Some}
use mathlib.Core.List.{List, [], ◌∷◌}
use mathlib.Core.Bool.{Bool, true, false, cond, ◌&&◌, ◌||◌, not}
use native.Mathlib.Omega.{arith}
use lib.Dec.{eqb, ltb, leb}
use lib.ListN.{length}
use borrow.Author.Tests.{ltb-true, leb-false, not-true}
use Rattle.std.specs.List.{list_any}
use Rattle.lists.specs.Gap.{remove_at}
use Rattle.lists.specs.Counts.{bit, count}
use Rattle.lists.specs.Places.{Placed, first, change_at}
use Rattle.lists.proofs.BoolLaws.{both_ways, and_parts}
use Rattle.lists.proofs.CountLaws.{bit_every}
use Rattle.lists.proofs.TestCounts.{any_none}
use Rattle.lists.proofs.LikeLaws.{Like, like_refl, like_flip, like_turn}
use Rattle.lists.proofs.PlaceLaws.{Found, change_found}
use Rattle.literal.specs.declared.Literal.{Literal}
use Rattle.literal.specs.Literal.{is_ground}
use Rattle.belief.specs.Beliefs.{are_beliefs, replay}
use Rattle.library.specs.Plan.{Library}
use Rattle.situation.specs.Applicable.{Chosen}
use Rattle.model.specs.declared.Event.{Event}
use Rattle.model.specs.declared.Instance.{Instance}
use Rattle.model.specs.declared.Origin.{Origin}
use Rattle.model.specs.declared.Origin.TheVariants.{External, Goal}
use Rattle.model.specs.declared.Answer.{Answer}
use Rattle.model.specs.State.{most_number, most_stacks, most_external, most_changes, Intention, AgentState, Call, report, cycle, Reply, reply, refuse}
use Rattle.model.specs.Instance.{is_suspended}
use Rattle.model.specs.Live.{is_goal, is_external, same_origin, goal_of, live, serves, is_pending, is_ready, is_poster}
use Rattle.model.specs.Changes.{are_effective}
use Rattle.model.specs.Report.{told_kind, is_reportable, is_overfull, report_refusal, report_changes, take_in, report_by, reported}
use Rattle.model.specs.Event.{new_instance, pushed, woken, make, close, take_up}
use Rattle.model.specs.Calls.{is_refusal_for}
use Rattle.model.specs.Formed.{Formed, WellFormed}
use Rattle.model.proofs.OriginLaws.{origin_equal, origin_same}
use Rattle.situation.proofs.ChosenLaws.{Apt, AptIf}
use Rattle.model.proofs.ChangeLaws.{report-kept, report_does, report-few}
use Rattle.model.proofs.FormedLaws.{like_live, reform, poster_found}
use Rattle.model.proofs.Step.{Step}

-- a reply is a step from queue and stacks in some order to queue and stacks in some order; its changes are few, took effect, and made the beliefs
pub record Moved (library : Library) (s : AgentState) (c : Call) (r : Reply) : Type 0 where
  pub queue : List Event
  pub queue' : List Event
  pub stacks : List Intention
  pub stacks' : List Intention
  pub from_queue : Like s.queue queue
  pub from_stacks : Like s.stacks stacks
  pub step : Step library s.taken s.made c queue stacks r.result.answer r.state.taken r.state.made queue' stacks'
  pub to_queue : Like queue' r.state.queue
  pub to_stacks : Like stacks' r.state.stacks
  pub beliefs : r.state.beliefs ≡ replay s.beliefs r.result.changes
  pub table : are_beliefs (replay s.beliefs r.result.changes) ≡ true
  pub effect : are_effective s.beliefs r.result.changes ≡ true
  pub few : length r.result.changes ≤ most_changes

module _ (library : Library) (s : AgentState) (w : WellFormed library s) where
  -- a reply that reports no change
  pub quiet : {c : Call} {a : Answer} {to : AgentState} {q q' : List Event} {ks ks' : List Intention} → to.beliefs ≡ s.beliefs
      → Like s.queue q → Like s.stacks ks → Step library s.taken s.made c q ks a to.taken to.made q' ks'
      → Like q' to.queue → Like ks' to.stacks → Moved library s c (reply a [] to)
  unfolding replay are_effective
  quiet {q = q} {q' = q'} {ks = ks} {ks' = ks'} same from_queue from_stacks step to_queue to_stacks = record {
    queue = q;
    queue' = q';
    stacks = ks;
    stacks' = ks';
    from_queue = from_queue;
    from_stacks = from_stacks;
    step = step;
    to_queue = to_queue;
    to_stacks = to_stacks;
    beliefs = same;
    table = w.table;
    effect = refl;
    few = omega arith;
  }

  -- the state stays
  pub stays : (c : Call) (a : Answer) → Step library s.taken s.made c s.queue s.stacks a s.taken s.made s.queue s.stacks
      → Moved library s c (reply a [] s)
  stays c a x = quiet refl (like_refl s.queue) (like_refl s.stacks) x (like_refl s.queue) (like_refl s.stacks)

  -- ---- Report

  module _ (kind : ℕ) (l : Literal) where
    -- what holds where a report is not refused
    record Passed : Type 0 where
      pub kind_ok : leb kind told_kind ≡ true
      pub ground : is_ground l ≡ true
      pub taken_less : s.taken < most_number
      pub few : count is_external s.queue < most_external

    passed : eqb (report_refusal s kind l) 0 ≡ true → Passed
    unfolding report_refusal is_reportable
    passed = go (leb kind told_kind) (is_ground l) (leb most_number s.taken) (leb most_external (count is_external s.queue)) (is_overfull s.beliefs kind l) refl refl refl refl
      where
        go : (a b c d f : Bool) → leb kind told_kind ≡ a → is_ground l ≡ b → leb most_number s.taken ≡ c
            → leb most_external (count is_external s.queue) ≡ d
            → eqb (cond (not (a && b)) 5 (cond c 9 (cond d 7 (cond f 6 0)))) 0 ≡ true → Passed
        go true true false false f p q x y e = record { kind_ok = p; ground = q; taken_less = leb-false _ _ x; few = leb-false _ _ y }
        go a b c d f p q x y e = both_ways e refl

    refusal_ok : is_refusal_for (report kind l) (report_refusal s kind l) ≡ true
    unfolding report_refusal is_refusal_for
    refusal_ok = go (not (is_reportable kind l)) (leb most_number s.taken) (leb most_external (count is_external s.queue)) (is_overfull s.beliefs kind l)
      where
        go : (a b c d : Bool) → is_refusal_for (report kind l) (cond a 5 (cond b 9 (cond c 7 (cond d 6 0)))) ≡ true
        go false false false true = refl
        go a b c d = refl

    pub report-moved : Moved library s (report kind l) (reported s kind l)
    unfolding reported report_by take_in
    report-moved = go (eqb (report_refusal s kind l) 0) refl
      where
        go : (b : Bool) → eqb (report_refusal s kind l) 0 ≡ b
            → Moved library s (report kind l) (cond b (take_in s kind l (report_changes s.beliefs kind l)) (refuse (report_refusal s kind l) s))
        go false e = stays (report kind l) _ (Step.refused (report_refusal s kind l) refusal_ok)
        go true e = let p = passed e in record {
          queue = s.queue;
          queue' = _;
          stacks = s.stacks;
          stacks' = s.stacks;
          from_queue = like_refl s.queue;
          from_stacks = like_refl s.stacks;
          step = Step.taken kind l p.kind_ok p.ground p.taken_less p.few;
          to_queue = like_turn (_ ∷ []) s.queue;
          to_stacks = like_refl s.stacks;
          beliefs = refl;
          table = report-kept s.beliefs kind l w.table;
          effect = report_does s.beliefs kind l w.table;
          few = omega (arith, report-few s.beliefs kind l);
        }

  -- ---- Cycle: an event is taken up

  module _ (e : Placed Event) (f : Found (is_ready (live s.stacks) (length s.stacks)) s.queue e) where
    abbrev others : List Event
    others = remove_at e.place s.queue

    formed_event : Formed library s.beliefs (e.it ∷ others) s.stacks s.taken s.made
    formed_event = reform f.taken (like_refl s.stacks) w

    unserved : count (serves e.it.origin) (live s.stacks) ≡ 0
    unfolding is_ready is_pending
    unserved = any_none (serves e.it.origin) (live s.stacks) (not-true _ (and_parts (not (list_any (serves e.it.origin) (live s.stacks))) _ f.passes).0)

    -- an external event is taken up only while there are fewer than 8 stacks
    stacks_less : is_goal e.it.origin ≡ false → length s.stacks < most_stacks
    unfolding is_ready
    stacks_less g = ltb-true (length s.stacks) most_stacks (or_right (is_goal e.it.origin) (ltb (length s.stacks) most_stacks) g (and_parts (is_pending (live s.stacks) e.it) _ f.passes).1)
      where
        or_right : (a b : Bool) → a ≡ false → (a || b) ≡ true → b ≡ true
        or_right true b x y = both_ways {b = true} refl x
        or_right false b x y = y

    pub literal_ground : is_ground e.it.literal ≡ true
    literal_ground = bit_every (is_ground e.it.literal) (omega (arith, formed_event.local.grounds))

    -- the poster's stack, put first
    record Poster (o : Origin) (change : Intention → Intention) : Type 0 where
      pub it : Intention
      pub ks : List Intention
      pub taken : Like s.stacks (it ∷ ks)
      pub changed : Like (change it ∷ ks) (change_at change s.stacks (first (is_poster o) s.stacks))
      pub asleep : is_suspended it.top.status ≡ true
      pub goal : o ≡ goal_of it.top
      pub unserved : count (serves o) (live (it ∷ ks)) ≡ 0

    poster : (o : Origin) → e.it.origin ≡ o → is_goal o ≡ true → (change : Intention → Intention) → Poster o change
    poster o p g change =
        let n : 1 ≤ count (is_poster o) s.stacks = subst (λ u. 1 ≤ count (is_poster u) s.stacks) p (poster_found formed_event (ap is_goal p ∙ g) (origin_same e.it.origin) unserved) in
        let (k, h, c) = change_found (is_poster o) change s.stacks n in
        let parts = and_parts (is_suspended k.it.top.status) (same_origin o (goal_of k.it.top)) h.passes in
        record {
          it = k.it;
          ks = remove_at k.place s.stacks;
          taken = h.taken;
          changed = c;
          asleep = parts.0;
          goal = origin_equal o (goal_of k.it.top) parts.1;
          unserved = sym ((like_live h.taken).sums (λ j. bit (serves o j))) ∙ subst (λ u. count (serves u) (live s.stacks) ≡ 0) p unserved;
        }

    close-moved : (o : Origin) → e.it.origin ≡ o → Moved library s cycle (close s e o)
    unfolding close replay
    close-moved (External n) p = quiet refl f.taken (like_refl s.stacks) (Step.dropped n p unserved) (like_refl others) (like_refl s.stacks)
    close-moved (Goal i st br) p =
        let k = poster (Goal i st br) p refl woken in
        let free = subst (λ u. count (serves u) (live (k.it ∷ k.ks)) ≡ 0) (sym p) k.unserved in
        quiet refl f.taken k.taken (Step.unmet i st br p (p ∙ k.goal) k.asleep free) (like_refl others) k.changed

    make-moved : (chosen : Chosen) → Apt e.it.kind e.it.failed library.plans chosen → s.made < most_number → (o : Origin)
        → e.it.origin ≡ o → Moved library s cycle (make s chosen o)
    unfolding make replay
    make-moved chosen a m (External n) p =
        quiet refl f.taken (like_refl s.stacks) (Step.made_external chosen n p unserved a m (stacks_less (ap is_goal p))) (like_flip f.taken) (like_turn (_ ∷ []) s.stacks)
    make-moved chosen a m (Goal i st br) p =
        let k = poster (Goal i st br) p refl (pushed (new_instance s.made chosen)) in
        let free = subst (λ u. count (serves u) (live (k.it ∷ k.ks)) ≡ 0) (sym p) k.unserved in
        quiet refl f.taken k.taken (Step.made_goal chosen i (goal_id k.it.top k.goal) (p ∙ k.goal) k.asleep free a m) (like_flip f.taken) k.changed
      where
        goal_id : (t : Instance) → Goal i st br ≡ goal_of t → i ≡ t.id
        goal_id t q = cc

    pub take_up-moved : (o : Option Chosen) → AptIf e.it.kind e.it.failed library.plans o → Moved library s cycle (take_up s e o)
    unfolding take_up is_refusal_for
    take_up-moved None a = close-moved e.it.origin refl
    take_up-moved (Some chosen) a = go (ltb s.made most_number) refl
      where
        go : (b : Bool) → ltb s.made most_number ≡ b → Moved library s cycle (cond b (make s chosen e.it.origin) (refuse 9 s))
        go true p = make-moved chosen a (ltb-true s.made most_number p) e.it.origin refl
        go false p = stays cycle _ (Step.refused 9 refl)
