-- Laws of the first element that passes a test: what is found passes, and taking it out or changing it leaves the others.
use Prim.Native.Nat.{ℕ, zero, suc, ◌<◌, ◌≤◌}
use mathlib.Core.Path.{◌≡◌, refl, ap, subst}
use Rattle.std.specs.Prelude.{Option, None, Some, slice_get}
use mathlib.Core.List.{List, [], ◌∷◌}
use mathlib.Core.Bool.{Bool, true, false, cond}
use native.Mathlib.Omega.{arith}
use lib.ListN.{length, get_or, set}
use Rattle.lists.specs.Search.{position}
use Rattle.lists.specs.Gap.{remove_at}
use Rattle.lists.specs.Counts.{bit, count}
use Rattle.lists.specs.Places.{Placed, placed_at, first, change_at}
use Rattle.lists.proofs.LikeLaws.{Like, like_refl, like_more, like_swap, like_then}

-- what was found, put first; and it or another in its place
pub record Found {A : Type 0} (test : A → Bool) (xs : List A) (p : Placed A) : Type 0 where
  pub passes : test p.it ≡ true
  pub taken : Like xs (p.it ∷ remove_at p.place xs)
  pub changed : (y : A) → Like (y ∷ remove_at p.place xs) (set xs p.place y)

abbrev pub FoundIf : {A : Type 0} → (A → Bool) → List A → Option (Placed A) → Type 0
FoundIf test xs None = count test xs ≡ 0
FoundIf test xs (Some p) = Found test xs p

module _ {A : Type 0} (test : A → Bool) where
  -- one element more before it
  later : (x : A) (xs : List A) (i : ℕ) → test x ≡ false → (o : Option A) → FoundIf test xs (placed_at i o) → FoundIf test (x ∷ xs) (placed_at (suc i) o)
  later x xs i e None h = omega (arith, ap bit e)
  later x xs i e (Some y) h = record {
    passes = h.passes;
    taken = like_then (like_more x h.taken) (like_swap x y (remove_at i xs));
    changed = λ z. like_then (like_swap z x (remove_at i xs)) (like_more x (h.changed z));
  }

  pub found : (xs : List A) → FoundIf test xs (first test xs)
  unfolding first position
  found [] = refl
  found (x ∷ xs) = go (test x) refl (found xs)
    where
      go : (b : Bool) → test x ≡ b → FoundIf test xs (placed_at (position test xs) (slice_get xs (position test xs)))
          → FoundIf test (x ∷ xs) (placed_at (cond b 0 (suc (position test xs))) (slice_get (x ∷ xs) (cond b 0 (suc (position test xs)))))
      go true e h = record { passes = e; taken = like_refl (x ∷ xs); changed = λ y. like_refl (y ∷ xs) }
      go false e h = later x xs (position test xs) e (slice_get xs (position test xs)) h

  -- ---- What code finds by its place

  element : (xs : List A) (i : ℕ) (d : A) → i < length xs → slice_get xs i ≡ Some (get_or xs i d)
  element [] i d h = absurd (omega arith)
  element (x ∷ xs) zero d h = refl
  element (x ∷ xs) (suc i) d h = element xs i d (omega arith)

  no_element : (xs : List A) (i : ℕ) → length xs ≤ i → slice_get xs i ≡ None
  no_element [] i h = refl
  no_element (x ∷ xs) zero h = absurd (omega arith)
  no_element (x ∷ xs) (suc i) h = no_element xs i (omega arith)

  pub first_at : (xs : List A) (i : ℕ) (d : A) → i ≡ position test xs → i < length xs → first test xs ≡ Some (record { place = i; it = get_or xs i d })
  unfolding first
  first_at xs i d e h = rw (← e, element xs i d h)

  pub first-none : (xs : List A) (i : ℕ) → i ≡ position test xs → length xs ≤ i → first test xs ≡ None
  unfolding first
  first-none xs i e h = rw (← e, no_element xs i h)

  -- what is found passes
  pub passes_at : (xs : List A) (i : ℕ) (d : A) → i ≡ position test xs → i < length xs → test (get_or xs i d) ≡ true
  passes_at xs i d e h = (subst (FoundIf test xs) (first_at xs i d e h) (found xs)).passes

  -- the element found, changed
  pub change_there : (change : A → A) (xs : List A) (i : ℕ) (d : A) → i ≡ position test xs → i < length xs
      → change_at change xs (first test xs) ≡ set xs i (change (get_or xs i d))
  unfolding change_at
  change_there change xs i d e h = ap (change_at change xs) (first_at xs i d e h)

  -- ---- The place itself, where something passes

  pub position_taken : (xs : List A) → 1 ≤ count test xs → (x : A) × (test x ≡ true) × Like xs (x ∷ remove_at (position test xs) xs)
  unfolding first
  position_taken xs h = go (slice_get xs (position test xs)) (found xs)
    where
      go : (o : Option A) → FoundIf test xs (placed_at (position test xs) o) → (x : A) × (test x ≡ true) × Like xs (x ∷ remove_at (position test xs) xs)
      go None f = absurd (omega arith)
      go (Some x) f = (x, f.passes, f.taken)

-- ---- The element changed

pub change_found : {A : Type 0} (test : A → Bool) (change : A → A) (xs : List A) → 1 ≤ count test xs
    → (p : Placed A) × Found test xs p × Like (change p.it ∷ remove_at p.place xs) (change_at change xs (first test xs))
unfolding change_at
change_found test change xs h = go (first test xs) (found test xs)
  where
    go : (o : Option (Placed _)) → FoundIf test xs o → (p : Placed _) × Found test xs p × Like (change p.it ∷ remove_at p.place xs) (change_at change xs o)
    go None f = absurd (omega arith)
    go (Some p) f = (p, f, f.changed (change p.it))
