-- Laws of sums and counts over lists, by induction on the list.
use Prim.Native.Nat.{ℕ, ◌+◌, ◌≤◌}
use mathlib.Core.Path.{◌≡◌, refl, sym, ap, ◌∙◌}
use mathlib.Core.List.{List, [], ◌∷◌, ◌++◌, map}
use mathlib.Core.Bool.{Bool, true, false, cond, ◌&&◌, not}
use native.Mathlib.Omega.{arith}
use native.Mathlib.Nat.{zero-add}
use lib.ListN.{length}
use Rattle.std.specs.List.{count_by}
use Rattle.std.proofs.lemmas.List.Recursion.{is_count_by}
use Rattle.lists.specs.Counts.{bit, total, count, each}

-- ---- Bits

pub bit_le_one : (b : Bool) → bit b ≤ 1
bit_le_one true = omega arith
bit_le_one false = omega arith

-- a conjunction is no more than either part
pub bit_left : (a b : Bool) → bit (a && b) ≤ bit a
bit_left true b = bit_le_one b
bit_left false b = omega arith

pub bit_right : (a b : Bool) → bit (a && b) ≤ bit b
bit_right true b = omega arith
bit_right false b = omega arith

pub bit-none : (b : Bool) → bit b ≡ 0 → b ≡ false
bit-none true h = absurd (omega arith)
bit-none false h = refl

pub bit_every : (b : Bool) → bit (not b) ≡ 0 → b ≡ true
bit_every true h = refl
bit_every false h = absurd (omega arith)

-- where the second part says less, so does the whole
pub bit_and : (a b c : Bool) → bit b ≤ bit c → bit (a && b) ≤ bit (a && c)
bit_and true b c h = h
bit_and false b c h = omega arith

-- ---- Sums

module _ {A : Type 0} where
  pub total-append : (f : A → ℕ) (xs ys : List A) → total f (xs ++ ys) ≡ total f xs + total f ys
  total-append f [] ys = sym (zero-add (total f ys))
  total-append f (x ∷ xs) ys = omega (arith, total-append f xs ys)

  pub total_same : (f g : A → ℕ) (xs : List A) → ((x : A) → f x ≡ g x) → total f xs ≡ total g xs
  total_same f g [] h = refl
  total_same f g (x ∷ xs) h = omega (arith, h x, total_same f g xs h)

  pub total_le : (f g : A → ℕ) (xs : List A) → ((x : A) → f x ≤ g x) → total f xs ≤ total g xs
  total_le f g [] h = omega arith
  total_le f g (x ∷ xs) h = omega (arith, h x, total_le f g xs h)

  pub total-add : (f g : A → ℕ) (xs : List A) → total (λ x. f x + g x) xs ≡ total f xs + total g xs
  total-add f g [] = refl
  total-add f g (x ∷ xs) = omega (arith, total-add f g xs)

  pub total_zero : (xs : List A) → total (λ x. 0) xs ≡ 0
  total_zero [] = refl
  total_zero (x ∷ xs) = omega (arith, total_zero xs)

  pub total-length : (xs : List A) → length xs ≡ total (λ x. 1) xs
  total-length [] = refl
  total-length (x ∷ xs) = omega (arith, total-length xs)

  -- f and g agree wherever the test fails, and it fails everywhere
  pub total_unless : (test : A → Bool) (f g : A → ℕ) (xs : List A) → count test xs ≡ 0 → ((x : A) → test x ≡ false → f x ≡ g x) → total f xs ≡ total g xs
  total_unless test f g [] none h = refl
  total_unless test f g (x ∷ xs) none h = omega (arith, h x (bit-none (test x) (omega arith)), total_unless test f g xs (omega arith) h)

  -- a test that says no more than one that fails everywhere
  pub count_less : (test other : A → Bool) (xs : List A) → count other xs ≡ 0 → ((x : A) → bit (test x) ≤ bit (other x)) → count test xs ≡ 0
  count_less test other xs none h = omega (arith, total_le (λ x. bit (test x)) (λ x. bit (other x)) xs h)

module _ {A B : Type 0} where
  pub total-each : (f : B → ℕ) (g : A → List B) (xs : List A) → total f (each g xs) ≡ total (λ x. total f (g x)) xs
  total-each f g [] = refl
  total-each f g (x ∷ xs) = rw (total-append f (g x) (each g xs)) (ap (λ n. total f (g x) + n) (total-each f g xs))

  pub total-map : (f : B → ℕ) (g : A → B) (xs : List A) → total f (map g xs) ≡ total (λ x. f (g x)) xs
  total-map f g [] = refl
  total-map f g (x ∷ xs) = ap (λ n. f (g x) + n) (total-map f g xs)

  -- a table summed by rows or by columns
  pub total_swap : (f : A → B → ℕ) (xs : List A) (ys : List B) → total (λ x. total (f x) ys) xs ≡ total (λ y. total (λ x. f x y) xs) ys
  total_swap f [] ys = sym (total_zero ys)
  total_swap f (x ∷ xs) ys = ap (λ n. total (f x) ys + n) (total_swap f xs ys) ∙ sym (total-add (f x) (λ y. total (λ x. f x y) xs) ys)

-- std's count is the same number
pub count_by_is : {A : Type 0} (test : A → Bool) (xs : List A) → count_by test xs ≡ count test xs
count_by_is test xs = sym (is_count_by (count test) test refl (λ x ys. go (test x) (count test ys)) xs)
  where
    go : (b : Bool) (n : ℕ) → bit b + n ≡ cond b (1 + n) n
    go true n = refl
    go false n = zero-add n
