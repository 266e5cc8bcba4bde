-- What is written of a list of values is read back.
use Prim.Native.Nat.{ℕ, zero, suc, ◌+◌, ◌*◌, ◌<◌, ◌≤◌, min}
use native.Mathlib.Nat.{zero-add, mul-suc, mul-le-mul_left}
use native.Mathlib.Omega.{arith}
use mathlib.Core.Path.{◌≡◌, refl, ap, ap₂, sym, ◌∙◌, subst⁻¹}
use mathlib.Core.Bool.{Bool, true}
use mathlib.Core.List.{List, [], ◌∷◌, ◌++◌, append_assoc}
use lib.Dec.{lit<}
use lib.ListN.{length, length-append, take, get_or}
use lib.Seq.{length-take-le}
use denote.Param.Members.{Mut}
use Rattle.std.specs.Fn.{Called}
use Rattle.std.specs.Array.{IsFromFnResult}
use Rattle.std.proofs.lemmas.List.{get_or-take, same_lists}
use Rattle.lists.specs.Counts.{each}
use Rattle.std.specs.List.{list_all}
use Rattle.lists.proofs.BoolLaws.{and_parts}
use Rattle.library.specs.Bytes.{u16_at, items}
use Rattle.library.proofs.RowLaws.{length-items, get_d_items}
use Rattle.load.proofs.LoadLaws.{made_each}
use Rattle.image.specs.Words.{word_size, word_bytes, list_bytes, list_at}
use Rattle.image.specs.Rows.{row}
use Rattle.image.proofs.WordLaws.{word_first}

-- `write` and `read` belong together: what is written of a value that is `good` is read back, wherever it stands,
-- and `size` is how many bytes it has there
pub record Codec (A : Type 0) (write : A → List ℕ) (read : List ℕ → ℕ → A) (size : List ℕ → ℕ → ℕ) (good : A → Bool) : Type 0 where
  pub back : (before after : List ℕ) (x : A) → good x ≡ true → read (before ++ (write x ++ after)) (length before) ≡ x
  pub sized : (before after : List ℕ) (x : A) → good x ≡ true → size (before ++ (write x ++ after)) (length before) ≡ length (write x)

-- items of one width are a row
row-items : {A : Type 0} (read : ℕ → A) (width n at : ℕ) → row read (λ k. width) n at ≡ items read width n at
unfolding row items
row-items read width zero at = refl
row-items read width (suc n) at = rw (row-items read width n (at + width))

module _ {A : Type 0} {write : A → List ℕ} {read : List ℕ → ℕ → A} {size : List ℕ → ℕ → ℕ} {good : A
    → Bool} (codec : Codec A write read size good) where
  pub row_back : (before after : List ℕ) (xs : List A) → list_all good xs ≡ true
      → row (read (before ++ (each write xs ++ after))) (size (before ++ (each write xs ++ after))) (length xs) (length before) ≡ xs
  unfolding row
  row_back before after [] h = refl
  row_back before after (x ∷ xs) h =
      let g = and_parts (good x) (list_all good xs) h in
      let regroup : before ++ ((write x ++ each write xs) ++ after) ≡ before ++ (write x ++ (each write xs ++ after)) = simp append_assoc in
      let moved : before ++ (write x ++ (each write xs ++ after)) ≡ (before ++ write x) ++ (each write xs ++ after) =
      sym (append_assoc before (write x) (each write xs ++ after)) in
      let first = codec.back before (each write xs ++ after) x g.0 in
      let width = codec.sized before (each write xs ++ after) x g.0 in
      let next : length before + length (write x) ≡ length (before ++ write x) = sym (length-append before (write x)) in
      let whole = before ++ (write x ++ (each write xs ++ after)) in
      let rest : row (read whole) (size whole) (length xs) (length (before ++ write x)) ≡ xs =
      subst⁻¹ (λ (w : List ℕ). row (read w) (size w) (length xs) (length (before ++ write x)) ≡ xs) moved (row_back (before ++ write x) after xs g.1) in
      subst⁻¹ (λ (w : List ℕ). row (read w) (size w) (suc (length xs)) (length before) ≡ x ∷ xs) regroup (rw (first, width, next, rest))

  -- a list: its count, then its items
  pub rows_back : (most : ℕ) (before after : List ℕ) (xs : List A) → length xs ≤ most → list_all good xs ≡ true
      → (image : List ℕ) → image ≡ before ++ (list_bytes write xs ++ after)
      → row (read image) (size image) (min (u16_at image (length before)) most) (length before + word_size) ≡ xs
  rows_back most before after xs few h image e =
      let count : u16_at image (length before) ≡ length xs =
      ap (λ (l : List ℕ). u16_at l (length before)) e ∙ word_first before (length xs ∷ []) (each write xs ++ after) (lit< tt) in
      let n : min (u16_at image (length before)) most ≡ length xs = omega (arith, count, few) in
      let front = before ++ word_bytes (length xs) in
      let from : length before + word_size ≡ length front = sym (length-append before (word_bytes (length xs))) in
      let inside : image ≡ front ++ (each write xs ++ after) =
      e ∙ sym (append_assoc before (word_bytes (length xs)) (each write xs ++ after)) in
      ap₂ (λ (k at : ℕ). row (read image) (size image) k at) n from
      ∙ ap (λ (l : List ℕ). row (read l) (size l) (length xs) (length front)) inside ∙ row_back front after xs h

module _ {A : Type 0} {write : A → List ℕ} {read : List ℕ → ℕ → A} {width : ℕ} {good : A
    → Bool} (codec : Codec A write read (λ bytes at. width) good) where
  -- items of one size are read back
  pub items_back : (before after : List ℕ) (xs : List A) → list_all good xs ≡ true
      → items (read (before ++ (each write xs ++ after))) width (length xs) (length before) ≡ xs
  items_back before after xs h =
      sym (row-items (read (before ++ (each write xs ++ after))) width (length xs) (length before)) ∙ row_back codec before after xs h

  pub list_back : (most : ℕ) (before after : List ℕ) (xs : List A) → length xs ≤ most → list_all good xs ≡ true
      → (image : List ℕ) → image ≡ before ++ (list_bytes write xs ++ after) → list_at read width most image (length before) ≡ xs
  list_back most before after xs few h image e =
      sym (row-items (read image) width (min (u16_at image (length before)) most) (length before + word_size))
      ∙ rows_back codec most before after xs few h image e

-- ---- How many bytes

module _ {A : Type 0} (write : A → List ℕ) (width : ℕ) (good : A → Bool) (low : (x : A) → good x ≡ true → length (write x) ≤ width) where
  each-few : (xs : List A) → list_all good xs ≡ true → length (each write xs) ≤ width * length xs
  each-few [] h = omega arith
  each-few (x ∷ xs) h =
      let g = and_parts (good x) (list_all good xs) h in
      rw mul-suc (omega (arith, length-append (write x) (each write xs), low x g.0, each-few xs g.1))

  -- a list of at most so many items
  pub list_few : (most : ℕ) (xs : List A) → length xs ≤ most → list_all good xs ≡ true → length (list_bytes write xs) ≤ word_size + width * most
  list_few most xs few h =
      let all_of : width * length xs ≤ width * most = mul-le-mul_left width few in
      omega (arith, length-append (word_bytes (length xs)) (each write xs), each-few xs h, all_of)

-- ---- Items that are read into an array

-- an array whose places a closure made is the list that has the same at each place
pub made_list : {F A : Type 0} (g : Mut F (ℕ × Unit {0}) A) (f : F) (xs ys : List A) (made_at : ℕ → A) (n : ℕ)
    → ((i : ℕ) (y : A) (q : F) → Called g f (i, tt) y q → (q ≡ f) × (y ≡ made_at i)) → IsFromFnResult g f xs n
    → length ys ≡ n → ((k : ℕ) (d : A) → k < n → get_or ys k d ≡ made_at k) → xs ≡ ys
made_list g f xs ys made_at n calls made size each =
    same_lists xs ys (made.long ∙ sym size) (λ k d h.
    let low : k < n = omega (arith, made.long) in
    rw zero-add at (made_each g f xs made_at calls n 0 made.each k d low) ∙ sym (each k d low))

module _ {A : Type 0} (read : ℕ → A) (width : ℕ) where
  pub made_items : {F : Type 0} (g : Mut F (ℕ × Unit {0}) A) (f : F) (xs : List A) (n at : ℕ)
      → ((i : ℕ) (y : A) (q : F) → Called g f (i, tt) y q → (q ≡ f) × (y ≡ read (at + width * i)))
      → IsFromFnResult g f xs n → xs ≡ items read width n at
  made_items g f xs n at calls made =
      made_list g f xs (items read width n at) (λ (i : ℕ). read (at + width * i)) n calls made (length-items read width n at)
      (get_d_items read width n at)

  -- fewer of them
  pub fewer_items : (n m at : ℕ) → n ≤ m → take n (items read width m at) ≡ items read width n at
  fewer_items n m at h =
      let size : length (take n (items read width m at)) ≡ n = length-take-le n (items read width m at) (omega (arith, length-items read width m at)) in
      same_lists (take n (items read width m at)) (items read width n at) (size ∙ sym (length-items read width n at)) (λ k d low.
      let inside : k < n = omega (arith, size) in
      get_or-take n (items read width m at) k d inside ∙ get_d_items read width m at k d (omega arith) ∙ sym (get_d_items read width n at k d inside))
