-- The whole test in the order of the code, which tests the cheap rules first: the order of rules that all must hold is free.
use Prim.Native.Nat.{ℕ, ◌<◌, ◌≤◌}
use native.Mathlib.Omega.{arith}
use mathlib.Core.Path.{◌≡◌, ap, sym, ◌∙◌}
use mathlib.Core.Bool.{Bool, true, false, ◌&&◌, and_assoc, and-false}
use mathlib.Core.List.{List, map}
use lib.Dec.{leb}
use lib.ListN.{length, take, length-map, length-take}
use borrow.Author.Tests.{le-leb, lt-leb, leb-true}
use Rattle.std.specs.List.{list_any, list_all}
use Rattle.lists.specs.Search.{distinct}
use Rattle.lists.proofs.BoolLaws.{and_parts, and_both}
use Rattle.lists.proofs.AndLaws.{equal_tests, all_both}
use Rattle.lists.proofs.MapLaws.{all-mapped, distinct-mapped}
use Rattle.belief.specs.declared.Beliefs.{Beliefs}
use Rattle.belief.specs.Beliefs.{most_beliefs, view, are_beliefs}
use Rattle.belief.specs.Table.{is_table}
use Rattle.belief.proofs.BeliefLaws.{table-parts, table-both}
use Rattle.library.specs.Layout.{library_of}
use Rattle.model.specs.State.{most_number}
use Rattle.model.specs.Live.{Job, live}
use Rattle.model.specs.WellFormed.{are_events, is_instance, are_instances, same_id, is_stack, is_served, same_served, has_goal, has_poster, are_served, is_well_formed}
use Rattle.state.specs.declared.Stack.{Stack}
use Rattle.state.specs.declared.State.{State}
use Rattle.state.specs.View.{most_below, view_stack, view_queue, view_stacks, stacked_of, counts_fit}
use Rattle.jobs.specs.declared.Jobs.{Jobs}
use Rattle.jobs.specs.declared.Job.{Job as Stored}
use Rattle.jobs.specs.Jobs.{job_of, flat, view_jobs}
use Rattle.jobs.proofs.FlatLaws.{live-few, view-flat}
use Rattle.formed.specs.Formed.{is_state_formed}
use Rattle.formed.specs.Stored.{is_fit, keeps_rules}

-- ---- Rules in another order

-- the rules as the code has them, and as the definitions do
reordered : (counted queued stacked deep beliefs events instances stacks served rivals goals posters table fit : Bool)
    → table ≡ (counted && beliefs) → fit ≡ (deep && stacks)
    → (queued && (stacked && (table && (fit && (events && ((instances && rivals) && (served && (goals && posters))))))))
    ≡ ((counted && (queued && (stacked && deep))) && (beliefs && (events && (instances && (stacks && (served && (rivals && (goals && posters))))))))
reordered counted queued stacked deep beliefs events instances stacks served rivals goals posters table fit t f =
    equal_tests _ _ (λ h. there h) (λ h. back h)
  where
    there : (queued && (stacked && (table && (fit && (events && ((instances && rivals) && (served && (goals && posters)))))))) ≡ true
        → ((counted && (queued && (stacked && deep))) && (beliefs && (events && (instances && (stacks && (served && (rivals && (goals && posters)))))))) ≡ true
    there h =
        let a = and_parts queued _ h in
        let b = and_parts stacked _ a.1 in
        let c = and_parts table _ b.1 in
        let d = and_parts fit _ c.1 in
        let e = and_parts events _ d.1 in
        let g = and_parts (instances && rivals) _ e.1 in
        let i = and_parts instances rivals g.0 in
        let j = and_parts served _ g.1 in
        let k = and_parts counted beliefs (sym t ∙ c.0) in
        let l = and_parts deep stacks (sym f ∙ d.0) in
        rw (k.0, a.0, b.0, l.0, k.1, e.0, i.0, l.1, j.0, i.1) j.1

    back : ((counted && (queued && (stacked && deep))) && (beliefs && (events && (instances && (stacks && (served && (rivals && (goals && posters)))))))) ≡ true
        → (queued && (stacked && (table && (fit && (events && ((instances && rivals) && (served && (goals && posters)))))))) ≡ true
    back h =
        let a = and_parts (counted && (queued && (stacked && deep))) _ h in
        let b = and_parts counted _ a.0 in
        let c = and_parts queued _ b.1 in
        let d = and_parts stacked deep c.1 in
        let e = and_parts beliefs _ a.1 in
        let g = and_parts events _ e.1 in
        let i = and_parts instances _ g.1 in
        let j = and_parts stacks _ i.1 in
        let k = and_parts served _ j.1 in
        let l = and_parts rivals _ k.1 in
        let m : table ≡ true = t ∙ and_both counted beliefs b.0 e.0 in
        let n : fit ≡ true = f ∙ and_both deep stacks d.1 j.0 in
        rw (c.0, d.0, m, n, g.0, i.0, l.0, k.0) l.1

table_split : (b : Beliefs) → length b.items ≡ 64 → is_table b ≡ (leb b.count most_beliefs && are_beliefs (view b))
table_split b len =
    equal_tests (is_table b) _
    (λ h. let parts = table-parts b len h in and_both (leb b.count most_beliefs) _ (le-leb b.count 64 parts.0) parts.1)
    (λ h. let parts = and_parts (leb b.count most_beliefs) (are_beliefs (view b)) h in table-both b (leb-true b.count 64 parts.0) parts.1)

fit_split : (stacks : List Stack) → list_all is_fit stacks ≡ (list_all (λ (stack : Stack). leb stack.depth most_below) stacks && list_all is_stack (map view_stack stacks))
fit_split stacks =
    all_both (λ (stack : Stack). leb stack.depth most_below) (λ (stack : Stack). is_stack (view_stack stack)) stacks
    ∙ ap (λ (b : Bool). list_all (λ (stack : Stack). leb stack.depth most_below) stacks && b) (sym (all-mapped view_stack is_stack stacks))

few-live : (s : State) → length (live (view_stacks s)) ≤ 64
few-live s = omega (arith, live-few (take (stacked_of s) s.stacks), length-take (stacked_of s) s.stacks)

-- the live instances as they are stored
pub stored_live : (s : State) (jobs : Jobs) → jobs ≡ flat (live (view_stacks s)) → view_jobs jobs ≡ live (view_stacks s)
stored_live s jobs j = ap (λ (xs : Jobs). view_jobs xs) j ∙ view-flat (live (view_stacks s)) (few-live s)

-- ---- The state's rules in the order of the code

module _ (bytes : List ℕ) (s : State) where
  pub queue_too_long : 88 < s.queued → false ≡ is_state_formed bytes s
  unfolding is_state_formed counts_fit
  queue_too_long h = rw (lt-leb s.queued 88 h, and-false)

  pub stacks_too_many : 8 < s.stacked → false ≡ is_state_formed bytes s
  unfolding is_state_formed counts_fit
  stacks_too_many h = simp (lt-leb s.stacked 8 h, and-false)

  module _ (len : length s.beliefs.items ≡ 64) (taken : s.taken ≤ most_number) (made : s.made ≤ most_number) (queued : s.queued ≤ 88) (stacked : s.stacked ≤ 8)
      (jobs : List Stored) (j : map job_of jobs ≡ live (view_stacks s)) where
    few-stacks : leb (length (view_stacks s)) 8 ≡ true
    few-stacks =
        let viewed : length (view_stacks s) ≡ length (take (stacked_of s) s.stacks) = length-map (take (stacked_of s) s.stacks) view_stack in
        le-leb (length (view_stacks s)) 8 (omega (arith, length-take (stacked_of s) s.stacks))

    -- the rules on the instances as they are stored, and on those that they mean
    viewed_rules : keeps_rules (library_of bytes) s jobs
        ≡ (is_table s.beliefs && (list_all is_fit (take (stacked_of s) s.stacks) && (are_events (library_of bytes) s.taken (view_queue s)
        && ((are_instances (library_of bytes) s.made (map job_of jobs) && distinct same_served (map job_of jobs))
        && (list_all (λ (job : Job). list_any (is_served (library_of bytes) job) (view_queue s)) (map job_of jobs)
        && (list_all (has_goal (library_of bytes) (view_queue s)) (map job_of jobs) && list_all (has_poster (map job_of jobs)) (view_queue s)))))))
    unfolding keeps_rules are_instances
    viewed_rules =
        rw (
          and_assoc (list_all (is_instance (library_of bytes) s.made) (map job_of jobs)) (distinct same_id (map job_of jobs)) (distinct same_served (map job_of jobs)),
          all-mapped job_of (is_instance (library_of bytes) s.made) jobs,
          distinct-mapped job_of same_id jobs,
          distinct-mapped job_of same_served jobs,
          all-mapped job_of (λ (job : Job). list_any (is_served (library_of bytes) job) (view_queue s)) jobs,
          all-mapped job_of (has_goal (library_of bytes) (view_queue s)) jobs,
        )

    in_order : (leb s.queued 88 && (leb s.stacked 8 && (is_table s.beliefs && (list_all is_fit (take (stacked_of s) s.stacks)
        && (are_events (library_of bytes) s.taken (view_queue s)
        && ((are_instances (library_of bytes) s.made (live (view_stacks s)) && distinct same_served (live (view_stacks s)))
        && (list_all (λ (job : Job). list_any (is_served (library_of bytes) job) (view_queue s)) (live (view_stacks s))
        && (list_all (has_goal (library_of bytes) (view_queue s)) (live (view_stacks s)) && list_all (has_poster (live (view_stacks s))) (view_queue s)))))))))
        ≡ is_state_formed bytes s
    unfolding is_state_formed counts_fit is_well_formed are_served
    in_order =
        rw (le-leb s.taken most_number taken, le-leb s.made most_number made, few-stacks)
        (reordered (leb s.beliefs.count 64) (leb s.queued 88) (leb s.stacked 8) _ (are_beliefs (view s.beliefs))
        (are_events (library_of bytes) s.taken (view_queue s)) (are_instances (library_of bytes) s.made (live (view_stacks s))) (list_all is_stack (view_stacks s))
        (list_all (λ (job : Job). list_any (is_served (library_of bytes) job) (view_queue s)) (live (view_stacks s))) (distinct same_served (live (view_stacks s)))
        (list_all (has_goal (library_of bytes) (view_queue s)) (live (view_stacks s))) (list_all (has_poster (live (view_stacks s))) (view_queue s))
        (is_table s.beliefs) (list_all is_fit (take (stacked_of s) s.stacks))
        (table_split s.beliefs len) (fit_split (take (stacked_of s) s.stacks)))

    pub rules_decide : keeps_rules (library_of bytes) s jobs ≡ is_state_formed bytes s
    rules_decide = viewed_rules ∙ rw j (rw (le-leb s.queued 88 queued, le-leb s.stacked 8 stacked) at in_order)
