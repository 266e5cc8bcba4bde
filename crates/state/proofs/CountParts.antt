-- The counts of a state, one by one.
use Prim.Native.Nat.{◌≤◌}
use mathlib.Core.Path.{◌≡◌}
use mathlib.Core.Bool.{Bool, true}
use lib.ListN.{take}
use lib.Dec.{leb}
use borrow.Author.Tests.{le-leb, leb-true}
use Rattle.std.specs.List.{list_all}
use Rattle.lists.proofs.BoolLaws.{and_parts, and_both}
use Rattle.belief.specs.Beliefs.{most_beliefs}
use Rattle.model.specs.State.{most_stacks, most_queued}
use Rattle.state.specs.declared.Stack.{Stack}
use Rattle.state.specs.declared.State.{State}
use Rattle.state.specs.View.{most_below, stacked_of, counts_fit}

abbrev pub is_shallow : Stack → Bool
is_shallow stack = leb stack.depth most_below

pub record Counts (s : State) : Type 0 where
  pub beliefs : s.beliefs.count ≤ 64
  pub queued : s.queued ≤ 88
  pub stacked : s.stacked ≤ 8
  pub depths : list_all is_shallow (take (stacked_of s) s.stacks) ≡ true

pub counts-parts : (s : State) → counts_fit s ≡ true → Counts s
unfolding counts_fit
counts-parts s h =
    let one = and_parts (leb s.beliefs.count most_beliefs) _ h in
    let two = and_parts (leb s.queued most_queued) _ one.1 in
    let three = and_parts (leb s.stacked most_stacks) _ two.1 in
    record { beliefs = leb-true _ _ one.0; queued = leb-true _ _ two.0; stacked = leb-true _ _ three.0; depths = three.1 }

pub counts_whole : (s : State) → Counts s → counts_fit s ≡ true
unfolding counts_fit
counts_whole s h =
    and_both (leb s.beliefs.count most_beliefs) _ (le-leb _ _ h.beliefs)
    (and_both (leb s.queued most_queued) _ (le-leb _ _ h.queued) (and_both (leb s.stacked most_stacks) _ (le-leb _ _ h.stacked) h.depths))
