-- What a removal leaves at every place of the array: the gap is closed within it, by the laws of a closed gap.
use Prim.Native.Nat.{ℕ, ◌-◌, ◌<◌}
use native.Mathlib.Omega.{arith}
use mathlib.Core.Path.{◌≡◌, refl, sym, ap, ◌∙◌}
use mathlib.Core.Bool.{Bool, true, false}
use lib.ListN.{length}
use lib.Dec.{ltb}
use borrow.Author.Tests.{ltb-true}
use Rattle.lists.specs.Search.{position}
use Rattle.lists.proofs.BoolLaws.{both_ways}
use Rattle.lists.proofs.SearchLaws.{any-position}
use Rattle.lists.proofs.GapLaws.{gap_length, gap_before, gap_within, gap_behind}
use Rattle.literal.specs.declared.Literal.{Literal}
use Rattle.literal.specs.Literal.{same}
use Rattle.belief.specs.declared.Beliefs.{Beliefs}
use Rattle.belief.specs.Beliefs.{size, view, holds}
use Rattle.belief.specs.Table.{remove_by, remove}
use Rattle.belief.specs.Removal.{Closed}
use Rattle.belief.proofs.TableSteps.{length-view}

module _ (b : Beliefs) (len : length b.items ≡ 64) (l d : Literal) where
  -- a literal that is held leaves a gap, and it is closed
  pub removed-closed : holds (view b) l ≡ true → Closed (position (same l) (view b)) b (remove b l).table d
  unfolding remove holds
  removed-closed held = go (holds (view b) l) held
    where
      gap : ℕ
      gap = position (same l) (view b)

      low : gap < size b
      low = ltb-true gap (size b) (ap (ltb gap) (sym (length-view b len)) ∙ sym (any-position (same l) (view b)) ∙ held)

      go : (h : Bool) → h ≡ true → Closed (position (same l) (view b)) b (remove_by h (position (same l) (view b)) b).table d
      go false e = both_ways e refl
      go true e = record {
        places = gap_length b.items gap (size b - 1) d (omega (arith, low)) (omega (arith, low));
        one_less = omega (arith, low);
        before = gap_before b.items gap (size b - 1) d (omega (arith, low)) (omega (arith, low));
        within = gap_within b.items gap (size b - 1) d (omega (arith, low)) (omega (arith, low));
        behind = gap_behind b.items gap (size b - 1) d (omega (arith, low)) (omega (arith, low));
      }

  -- one that is absent leaves the table as it is, in every place
  pub removed_absent : holds (view b) l ≡ false → (remove b l).table ≡ b
  unfolding remove
  removed_absent absent = ap (λ (h : Bool). (remove_by h (position (same l) (view b)) b).table) absent
