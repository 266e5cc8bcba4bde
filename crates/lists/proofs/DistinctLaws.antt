-- Lists whose elements all differ, by the first element and those after it as a slice pattern gives them.
use Prim.Native.Nat.{◌-◌, ◌≤◌, suc}
use native.Mathlib.Omega.{arith}
use mathlib.Core.Path.{◌≡◌, refl}
use mathlib.Core.Bool.{Bool, true, not, ◌&&◌}
use mathlib.Core.List.{List, [], ◌∷◌}
use lib.ListN.{length, take, drop, get_or}
use lib.Seq.{take_all}
use Rattle.std.specs.List.{list_any}
use Rattle.lists.specs.Search.{distinct}

module _ {A : Type 0} (equal : A → A → Bool) where
  pub distinct_from_first : (xs : List A) (d : A) → 1 ≤ length xs
      → distinct equal xs
      ≡ (not (list_any (equal (get_or xs 0 d)) (take (length xs - 1) (drop 1 xs))) && distinct equal (take (length xs - 1) (drop 1 xs)))
  unfolding distinct
  distinct_from_first [] d h = absurd (omega arith)
  distinct_from_first (x ∷ xs) d h =
      let n : suc (length xs) - 1 ≡ length xs = omega arith in
      rw (n, take_all (length xs) xs (omega arith))

  pub distinct_none : (xs : List A) → length xs ≤ 0 → distinct equal xs ≡ true
  unfolding distinct
  distinct_none [] h = refl
  distinct_none (x ∷ xs) h = absurd (omega arith)
