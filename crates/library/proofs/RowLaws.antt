-- Laws of items and rows: how many there are, what stands at a place, and the steps of loops that go over them.
use Prim.Native.Nat.{ℕ, zero, suc, ◌+◌, ◌*◌, ◌-◌, ◌<◌, ◌≤◌}
use mathlib.Core.Path.{◌≡◌, refl, ap, sym, ◌∙◌}
use mathlib.Core.Bool.{Bool, true}
use mathlib.Core.List.{List, [], ◌∷◌, map}
use native.Mathlib.Nat.{add-zero, mul-le-mul, mul-suc}
use native.Mathlib.Omega.{arith}
use lib.ListN.{length, get_or, get_or-eq_default}
use Rattle.std.specs.List.{range_with_len, list_all, list_any}
use Rattle.std.proofs.lemmas.List.Folds.{list_all-map}
use Rattle.lists.proofs.MapLaws.{any-mapped}
use Rattle.lists.proofs.BoolLaws.{and_parts}
use Rattle.library.specs.Bytes.{u16_at, items, rows, rows_end}

module _ {A : Type 0} (read : ℕ → A) where
  -- ---- How many

  pub length-items : (width n at : ℕ) → length (items read width n at) ≡ n
  unfolding items
  length-items width zero at = refl
  length-items width (suc n) at = ap suc (length-items width n (at + width))

  pub length-rows : (bytes : List ℕ) (width n at : ℕ) → length (rows read bytes width n at) ≡ n
  unfolding rows
  length-rows bytes width zero at = refl
  length-rows bytes width (suc n) at = ap suc (length-rows bytes width n (at + 2 + width * u16_at bytes at))

  -- ---- What stands at a place

  pub get_d_items : (width n at i : ℕ) (d : A) → i < n → get_or (items read width n at) i d ≡ read (at + width * i)
  unfolding items
  get_d_items width zero at i d h = absurd (omega arith)
  get_d_items width (suc n) at zero d h = ap read (omega arith)
  get_d_items width (suc n) at (suc i) d h = get_d_items width n (at + width) i d (omega arith) ∙ ap read (simp mul-suc (omega arith))

  pub items-past : (width n at i : ℕ) (d : A) → n ≤ i → get_or (items read width n at) i d ≡ d
  items-past width n at i d h = get_or-eq_default (items read width n at) d (rw (length-items width n at) h)

  pub get_d_rows : (bytes : List ℕ) (width n at i : ℕ) → i < n
      → get_or (rows read bytes width n at) i [] ≡ items read width (u16_at bytes (rows_end bytes width i at)) (rows_end bytes width i at + 2)
  unfolding rows rows_end
  get_d_rows bytes width zero at i h = absurd (omega arith)
  get_d_rows bytes width (suc n) at zero h = refl
  get_d_rows bytes width (suc n) at (suc i) h = get_d_rows bytes width n (at + 2 + width * u16_at bytes at) i (omega arith)

  pub rows-past : (bytes : List ℕ) (width n at i : ℕ) → n ≤ i → get_or (rows read bytes width n at) i [] ≡ []
  rows-past bytes width n at i h = get_or-eq_default (rows read bytes width n at) [] (rw (length-rows bytes width n at) h)

  -- ---- The items by their numbers, as a range gives them

  -- from the one at number a on
  items_from : (width at n a : ℕ) → items read width n (at + width * a) ≡ map (λ i. read (at + width * i)) (range_with_len a n)
  unfolding items
  items_from width at zero a = refl
  items_from width at (suc n) a =
      let place : at + width * a + width ≡ at + width * (a + 1) = omega arith in
      ap (λ (xs : List A). read (at + width * a) ∷ xs) (ap (items read width n) place ∙ items_from width at n (a + 1))

  items_mapped : (width n at : ℕ) → items read width n at ≡ map (λ i. read (at + width * i)) (range_with_len 0 n)
  items_mapped width n at = ap (items read width n) (omega arith) ∙ items_from width at n 0

  -- `all` and `any` of a range test the items
  pub all_items : (test : A → Bool) (width n at : ℕ) → list_all (λ i. test (read (at + width * i))) (range_with_len 0 n) ≡ list_all test (items read width n at)
  all_items test width n at = sym (ap (list_all test) (items_mapped width n at) ∙ list_all-map test (λ i. read (at + width * i)) (range_with_len 0 n))

  pub any_items : (test : A → Bool) (width n at : ℕ) → list_any (λ i. test (read (at + width * i))) (range_with_len 0 n) ≡ list_any test (items read width n at)
  any_items test width n at = sym (ap (list_any test) (items_mapped width n at) ∙ any-mapped (λ i. read (at + width * i)) test (range_with_len 0 n))

-- a test of each of n numbers, at one of them
pub range_at : (test : ℕ → Bool) (n first i : ℕ) → list_all test (range_with_len first n) ≡ true → i < n → test (first + i) ≡ true
range_at test zero first i e h = absurd (omega arith)
range_at test (suc n) first zero e h = rw add-zero (and_parts (test first) (list_all test (range_with_len (first + 1) n)) e).0
range_at test (suc n) first (suc i) e h =
    let place : first + 1 + i ≡ first + suc i = omega arith in
    rw place at (range_at test n (first + 1) i (and_parts (test first) (list_all test (range_with_len (first + 1) n)) e).1 (omega arith))

-- and from all of them
pub range_all : (test : ℕ → Bool) (n first : ℕ) → ((i : ℕ) → first ≤ i → i < first + n → test i ≡ true) → list_all test (range_with_len first n) ≡ true
range_all test zero first h = refl
range_all test (suc n) first h =
    rw (h first (omega arith) (omega arith)) (range_all test n (first + 1) (λ i low high. h i (omega arith) (omega arith)))

-- the same of what stands at each number
pub items-all : {A : Type 0} (test : A → Bool) (read : ℕ → A) (n first : ℕ) → ((i : ℕ) → first ≤ i → i < first + n → test (read i) ≡ true)
    → list_all test (items read 1 n first) ≡ true
unfolding items
items-all test read zero first h = refl
items-all test read (suc n) first h =
    rw (h first (omega arith) (omega arith)) (items-all test read n (first + 1) (λ i low high. h i (omega arith) (omega arith)))

-- ---- A loop over 0..n, of which n - i are left at i

pub left_next : (n i : ℕ) → i < n → n - i ≡ suc (n - (i + 1))
left_next n i h = omega arith

pub left_none : (n i : ℕ) → n ≤ i → n - i ≡ 0
left_none n i h = omega arith

pub all_left : (n : ℕ) → n - 0 ≡ n
all_left n = omega arith

-- past rows
module _ (bytes : List ℕ) (width : ℕ) where
  pub row_next : (at count : ℕ) → at + (2 + width * count) ≡ at + 2 + width * count
  row_next at count = omega arith

  pub end_step : (n i at count : ℕ) → count ≡ u16_at bytes at → i < n → rows_end bytes width (n - (i + 1)) (at + (2 + width * count)) ≡ rows_end bytes width (n - i) at
  unfolding rows_end
  end_step n i at count e h = rw (left_next n i h, row_next at count, e) refl

  pub end_done : (n i at : ℕ) → n ≤ i → at ≡ rows_end bytes width (n - i) at
  unfolding rows_end
  end_done n i at h = rw (left_none n i h) refl

pub row-bytes : {width count : ℕ} → width ≤ 12 → count ≤ 65535 → width * count ≤ 786420
row-bytes h g = mul-le-mul h g
