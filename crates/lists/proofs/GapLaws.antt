-- Laws of closing a gap: what the table holds after it, place by place and as a list.
use Prim.Native.Nat.{ℕ, zero, suc, ◌+◌, ◌-◌, ◌<◌, ◌≤◌}
use native.Mathlib.Omega.{arith}
use native.Mathlib.Nat.{sub-zero, suc-sub-suc, zero-sub}
use mathlib.Core.Path.{◌≡◌, ap, sym, ◌∙◌}
use mathlib.Core.List.{List, [], ◌∷◌, ◌++◌, append-nil}
use lib.ListN.{length, take, drop, set, get_or, get_or-append, length-append, length-take, length-drop, drop_of_length-le}
use lib.Seq.{drop-cons, set_at, take_at, get_or-take, get_or-drop, get_or-append-add, take-take, drop-nil, take-nil, take_all, append_snoc}
use Rattle.lists.specs.Gap.{remove_at, close_gap}

pub drop-take : {A : Type 0} (m n : ℕ) (xs : List A) → drop m (take n xs) ≡ take (n - m) (drop m xs)
drop-take zero n xs = rw sub-zero
drop-take (suc m) zero xs = rw zero-sub
drop-take (suc m) (suc n) [] = simp (drop-nil, take-nil)
drop-take (suc m) (suc n) (x ∷ xs) = rw suc-sub-suc (drop-take m n xs)

-- the part up to n, after the gap is closed there
closed : {A : Type 0} → ℕ → ℕ → List A → List A
closed i n xs = take i xs ++ take (n - i) (drop (suc i) xs)

length-closed : {A : Type 0} (xs : List A) (i n : ℕ) → i ≤ n → n < length xs → length (closed i n xs) ≡ n
unfolding closed
length-closed xs i n p q = simp (length-append, length-take, length-drop) (omega arith)

-- the places in use after it
module _ {A : Type 0} (xs : List A) (i n : ℕ) (low : i < n) (high : n ≤ length xs) where
  closed-removed : closed i (n - 1) xs ≡ remove_at i (take n xs)
  unfolding closed
  closed-removed =
      let e : n - suc i ≡ n - 1 - i = omega arith in
      let h : i ≤ n = omega arith in
      rw (take-take, drop-take, e)

  -- the others in their order
  pub gap_take : take (n - 1) (close_gap i (n - 1) xs) ≡ remove_at i (take n xs)
  unfolding closed
  gap_take = take_at (closed i (n - 1) xs) (drop (n - 1) xs) (n - 1) (length-closed xs i (n - 1) (omega arith) (omega arith)) ∙ closed-removed

  -- and one more behind them
  pub gap_last : (x : A) → take n (set (close_gap i (n - 1) xs) (n - 1) x) ≡ remove_at i (take n xs) ++ (x ∷ [])
  unfolding closed
  gap_last x =
      let len : length (closed i (n - 1) xs) ≡ n - 1 = length-closed xs i (n - 1) (omega arith) (omega arith) in
      ap (λ (t : List A). take n (set (closed i (n - 1) xs ++ t) (n - 1) x)) (drop-cons xs (n - 1) x (omega arith))
      ∙ ap (λ (t : List A). take n t) (set_at (closed i (n - 1) xs) _ _ x (n - 1) len ∙ sym (append_snoc (closed i (n - 1) xs) x _))
      ∙ take_at (closed i (n - 1) xs ++ (x ∷ [])) _ n (length-append (closed i (n - 1) xs) _ ∙ omega arith)
      ∙ ap (λ (t : List A). t ++ (x ∷ [])) closed-removed

-- past the end there is nothing to remove
pub remove_at-past : {A : Type 0} (i : ℕ) (xs : List A) → length xs ≤ i → remove_at i xs ≡ xs
remove_at-past i xs h =
    let rest : drop (suc i) xs ≡ [] = drop_of_length-le xs {i = suc i} (omega arith) in
    rw (take_all i xs h, rest) (append-nil xs)

-- ---- Every place, after the gap is closed up to n

module _ {A : Type 0} (xs : List A) (i n : ℕ) (d : A) (low : i ≤ n) (high : n < length xs) where
  front : length (take i xs) ≡ i
  front = length-take i xs ∙ omega arith

  pub gap_length : length (close_gap i n xs) ≡ length xs
  gap_length = simp (length-append, length-take, length-drop) (omega arith)

  -- before the gap as it was
  pub gap_before : (j : ℕ) → j < i → get_or (close_gap i n xs) j d ≡ get_or xs j d
  unfolding closed
  gap_before j h =
      get_or-append (closed i n xs) (drop n xs) d j (omega (arith, length-closed xs i n low high))
      ∙ get_or-append (take i xs) (take (n - i) (drop (suc i) xs)) d j (omega (arith, front)) ∙ get_or-take i xs j d h

  -- from the gap up to n the next one's element
  pub gap_within : (j : ℕ) → i ≤ j → j < n → get_or (close_gap i n xs) j d ≡ get_or xs (suc j) d
  unfolding closed
  gap_within j g h =
      let k : length (take i xs) + (j - i) ≡ j = omega (arith, front) in
      let m : suc i + (j - i) ≡ suc j = omega arith in
      get_or-append (closed i n xs) (drop n xs) d j (omega (arith, length-closed xs i n low high))
      ∙ ap (λ (p : ℕ). get_or (take i xs ++ take (n - i) (drop (suc i) xs)) p d) (sym k)
      ∙ get_or-append-add (take i xs) (take (n - i) (drop (suc i) xs)) (j - i) d
      ∙ get_or-take (n - i) (drop (suc i) xs) (j - i) d (omega arith) ∙ get_or-drop (suc i) xs (j - i) d ∙ ap (λ (p : ℕ). get_or xs p d) m

  -- from n on as it was
  pub gap_behind : (j : ℕ) → n ≤ j → get_or (close_gap i n xs) j d ≡ get_or xs j d
  unfolding closed
  gap_behind j h =
      let k : length (closed i n xs) + (j - n) ≡ j = omega (arith, length-closed xs i n low high) in
      let m : n + (j - n) ≡ j = omega arith in
      ap (λ (p : ℕ). get_or (closed i n xs ++ drop n xs) p d) (sym k) ∙ get_or-append-add (closed i n xs) (drop n xs) (j - n) d ∙ get_or-drop n xs (j - n) d ∙ ap (λ (p : ℕ). get_or xs p d) m
