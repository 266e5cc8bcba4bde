-- Lists whose elements all differ, and the place of the first element that passes a test.
use Rattle.std.specs.Prelude.{ℕ, suc, Bool, true, cond, not, ◌&&◌, List, [], ◌∷◌}
use Rattle.std.specs.List.{list_any}

module _ {A : Type 0} where
  -- no element equals a later one
  unfoldable pub distinct : (A → A → Bool) → List A → Bool
  distinct equal [] = true
  distinct equal (x ∷ xs) = not (list_any (equal x) xs) && distinct equal xs

  -- the place of the first element that passes; the length where none does
  unfoldable pub position : (A → Bool) → List A → ℕ
  position test [] = 0
  position test (x ∷ xs) = cond (test x) 0 (suc (position test xs))
