-- The well-formed test of a library in the first bytes of an array, and its parts.
use Prim.Native.Nat.{ℕ, ◌≤◌}
use mathlib.Core.Path.{◌≡◌}
use mathlib.Core.Bool.{true}
use mathlib.Core.List.{List}
use lib.ListN.{length, take}
use lib.Dec.{leb, eqb}
use borrow.Author.Tests.{le-leb, leb-true, eq-eqb, eqb-true}
use Rattle.lists.proofs.BoolLaws.{and_parts, and_both}
use Rattle.accepted.specs.Refusal.{refusal_of}
use Rattle.state.specs.declared.State.{State}
use Rattle.state.specs.View.{counts_fit}
use Rattle.formed.specs.Formed.{is_state_formed, is_formed, is_well_formed_with, WellFormedState}

module _ (library : List ℕ) (size : ℕ) (s : State) where
  pub test_own : size ≤ length library → is_formed (take size library) s ≡ is_well_formed_with library size s
  unfolding is_well_formed_with
  test_own h = rw (le-leb size (length library) h)

  module _ (e : is_well_formed_with library size s ≡ true) where
    pub test_within : size ≤ length library
    unfolding is_well_formed_with
    test_within = leb-true size (length library) (and_parts (leb size (length library)) (is_formed (take size library) s) e).0

    -- what it says, part by part
    pub test_parts : WellFormedState (take size library) s
    unfolding is_well_formed_with is_formed is_state_formed
    test_parts =
        let own = (and_parts (leb size (length library)) _ e).1 in
        let p = and_parts (eqb (refusal_of (take size library)) 0) _ own in
        let q = and_parts (counts_fit s) _ p.1 in
        record { accepted = eqb-true _ 0 p.0; fit = q.0; formed = q.1 }

  -- and its parts say it
  pub test_passes : size ≤ length library → WellFormedState (take size library) s → is_well_formed_with library size s ≡ true
  unfolding is_well_formed_with is_formed is_state_formed
  test_passes within w =
      and_both (leb size (length library)) _ (le-leb size (length library) within)
      (and_both (eqb (refusal_of (take size library)) 0) _ (eq-eqb _ 0 w.accepted) (and_both (counts_fit s) _ w.fit w.formed))
