-- Loops over stacks: arrays read upward and their view downward, rows read one after the other.
use Prim.Native.Nat.{ℕ, zero, suc, ◌+◌, ◌*◌, ◌<◌, ◌≤◌, min}
use native.Mathlib.Numerals.{add-one}
use native.Mathlib.Omega.{arith}
use mathlib.Core.Path.{◌≡◌, refl, ap, ap₂, sym, ◌∙◌}
use mathlib.Core.Bool.{true}
use mathlib.Core.List.{List, [], ◌∷◌, ◌++◌, map, map-append, append-nil, reverse, reverse-cons, reverse-reverse}
use lib.Dec.{leb}
use lib.ListN.{length, take, get_or, set, length-reverse, length-take}
use denote.Param.Members.{Mut}
use Rattle.std.specs.Fn.{Called}
use Rattle.std.specs.Array.{IsFromFnResult}
use lib.Seq.{take-suc, take-suc-set, length-take-le}
use Rattle.lists.specs.Counts.{each}
use Rattle.std.specs.List.{list_all}
use Rattle.lists.proofs.TestLaws.{all-joined}
use Rattle.library.specs.Bytes.{u16_at, items}
use Rattle.library.proofs.RowLaws.{length-items}
use Rattle.model.specs.declared.Instance.{Instance}
use Rattle.model.specs.State.{Intention}
use Rattle.state.specs.declared.Stack.{Stack}
use Rattle.state.specs.View.{most_below, no_instance, depth_of, down, view_stack}
use Rattle.image.specs.declared.form.Form.{Form}
use Rattle.image.specs.Words.{word_size, word_bytes, number_bytes, number_at}
use Rattle.image.specs.Rows.{row, row_end}
use Rattle.image.specs.StackImage.{entry_of, entries_at}
use Rattle.image.specs.StackImage.{instance_size, instance_bytes, instance_at, upward}
use Rattle.image.specs.StackImage.{stack_fields, stack_size, stack_bytes, depth_at, stack_at, stack_size_at}
use Rattle.image.specs.Reads.{ReadsStack}
use Rattle.image.proofs.WordLaws.{each-joined}
use Rattle.image.proofs.CodecLaws.{fewer_items, made_list}

-- ---- Up and down

pub down_up : (n : ℕ) (xs : List Instance) → n ≤ length xs → reverse (down n xs) ≡ take n xs
unfolding down
down_up zero xs h = refl
down_up (suc n) xs h =
    reverse-cons (get_or xs n no_instance) (down n xs)
    ∙ ap (λ (ys : List Instance). ys ++ (get_or xs n no_instance ∷ [])) (down_up n xs (omega arith))
    ∙ sym (take-suc xs n no_instance (omega arith))

pub up_down : (n : ℕ) (xs : List Instance) → n ≤ length xs → down n xs ≡ reverse (take n xs)
up_down n xs h = sym (reverse-reverse (down n xs)) ∙ ap (λ (ys : List Instance). reverse ys) (down_up n xs h)

pub length-down : (n : ℕ) (xs : List Instance) → n ≤ length xs → length (down n xs) ≡ n
length-down n xs h = sym (length-reverse (down n xs)) ∙ ap length (down_up n xs h) ∙ length-take-le n xs h

pub each_map : {A B : Type 0} (write : B → List ℕ) (f : A → B) (xs : List A) → each write (map f xs) ≡ each (λ x. write (f x)) xs
each_map write f [] = refl
each_map write f (x ∷ xs) = ap (λ (l : List ℕ). write (f x) ++ l) (each_map write f xs)

-- ---- Entries of an environment

pub length-entries : (bytes : List ℕ) (variable n at : ℕ) → length (entries_at bytes variable n at) ≡ n
unfolding entries_at
length-entries bytes variable zero at = refl
length-entries bytes variable (suc n) at = ap suc (length-entries bytes (suc variable) n (at + word_size))

entry_is : (bytes : List ℕ) (variable n at i d : ℕ) → i < n
    → get_or (entries_at bytes variable n at) i d ≡ entry_of (variable + i) (u16_at bytes (at + word_size * i))
unfolding entries_at
entry_is bytes variable zero at i d h = absurd (omega arith)
entry_is bytes variable (suc n) at zero d h = ap₂ (λ (v o : ℕ). entry_of v (u16_at bytes o)) (omega arith) (omega arith)
entry_is bytes variable (suc n) at (suc i) d h =
    entry_is bytes (suc variable) n (at + word_size) i d (omega arith)
    ∙ ap₂ (λ (v o : ℕ). entry_of v (u16_at bytes o)) (omega arith) (omega arith)

-- an array whose places are read by a closure
pub made_entries : {F : Type 0} (g : Mut F (ℕ × Unit {0}) ℕ) (f : F) (xs bytes : List ℕ) (variable n at : ℕ)
    → ((i : ℕ) (y : ℕ) (q : F) → Called g f (i, tt) y q → (q ≡ f) × (y ≡ entry_of (variable + i) (u16_at bytes (at + word_size * i))))
    → IsFromFnResult g f xs n → xs ≡ entries_at bytes variable n at
made_entries g f xs bytes variable n at calls made =
    made_list g f xs (entries_at bytes variable n at) (λ (i : ℕ). entry_of (variable + i) (u16_at bytes (at + word_size * i))) n calls made
    (length-entries bytes variable n at) (entry_is bytes variable n at)

-- ---- Rows

module _ {A : Type 0} (read : ℕ → A) (size : ℕ → ℕ) where
  row_last : (n at : ℕ) → row read size (suc n) at ≡ row read size n at ++ (read (row_end size n at) ∷ [])
  unfolding row row_end
  row_last zero at = refl
  row_last (suc n) at = ap (λ (xs : List A). read at ∷ xs) (row_last n (at + size at))

pub end_last : (size : ℕ → ℕ) (n at : ℕ) → row_end size (n + 1) at ≡ row_end size n at + size (row_end size n at)
unfolding row_end
end_last size zero at = refl
end_last size (suc n) at = let e : suc n + 1 ≡ suc (n + 1) = omega arith in rw e (end_last size n (at + size at))

-- one stack more is read
pub read_more : (read : ℕ → Intention) (size : ℕ → ℕ) (at : ℕ) (xs : List Stack) (i : ℕ) (x : Stack) → i < length xs
    → view_stack x ≡ read (row_end size i at) → map view_stack (take i xs) ≡ row read size i at
    → map view_stack (take (i + 1) (set xs i x)) ≡ row read size (i + 1) at
read_more read size at xs i x h e done =
    rw (add-one i) (ap (map view_stack) (take-suc-set xs i x h) ∙ map-append view_stack (take i xs) (x ∷ [])
    ∙ ap₂ (λ (ys : List Intention) (y : Intention). ys ++ (y ∷ [])) done e ∙ sym (row_last read size i at))

pub depths_more : (xs : List Stack) (i : ℕ) (x : Stack) → i < length xs → leb x.depth most_below ≡ true
    → list_all (λ (stack : Stack). leb stack.depth most_below) (take i xs) ≡ true
    → list_all (λ (stack : Stack). leb stack.depth most_below) (take (i + 1) (set xs i x)) ≡ true
depths_more xs i x h e done =
    rw (add-one i, take-suc-set xs i x h) (all-joined (λ (stack : Stack). leb stack.depth most_below) (take i xs) (x ∷ []) done (rw e))

-- ---- A stack as it is written and read

pub stack_bytes_lem : (form : Form) (stack : Stack) (below : List Instance) → below ≡ take (depth_of stack) stack.below
    → length below ≡ depth_of stack → word_bytes (length below + 1) ++ (number_bytes form stack.external ++
    (each (instance_bytes form) below ++ instance_bytes form stack.top))
    ≡ stack_bytes form (view_stack stack)
unfolding stack_bytes upward
stack_bytes_lem form stack below is size =
    let d = depth_of stack in
    let low : d ≤ length stack.below = omega (arith, length-take d stack.below, ap length is) in
    let high : length below ≡ length (down d stack.below) = size ∙ sym (length-down d stack.below low) in
    let up : below ≡ reverse (down d stack.below) = is ∙ sym (down_up d stack.below low) in
    let all_of : each (instance_bytes form) below ++ instance_bytes form stack.top ≡ each (instance_bytes form)
    (reverse (down d stack.below) ++ (stack.top ∷ [])) =
    ap₂ (λ (s t : List ℕ). s ++ t) (ap (each (instance_bytes form)) up) (sym (append-nil (instance_bytes form stack.top)))
    ∙ sym (each-joined (instance_bytes form) (reverse (down d stack.below)) (stack.top ∷ [])) in
    ap₂ (λ (k : ℕ) (t : List ℕ). word_bytes (k + 1) ++ (number_bytes form stack.external ++ t)) high all_of

pub read-stack : (form : Form) (image : List ℕ) (at d external : ℕ) (top : Instance) (below : List Instance) → d ≡ depth_at image at
    → external ≡ number_at form image (at + word_size) → top ≡ instance_at form image (at + stack_fields form + instance_size form * d)
    → below ≡ items (instance_at form image) (instance_size form) most_below (at + stack_fields form)
    → ReadsStack form image at (record { top = top; below = below; depth = d; external = external })
unfolding stack_at depth_at
read-stack form image at d external top below e x t b =
    let low : d ≤ most_below = omega arith in
    let full : min d most_below ≡ d = omega arith in
    let here = t ∙ ap (λ (k : ℕ). instance_at form image (at + stack_fields form + instance_size form * k)) e in
    let seven : length below ≡ most_below = ap length b ∙ length-items (instance_at form image) (instance_size form) most_below (at + stack_fields form) in
    let read =
    ap (take d) b ∙ fewer_items (instance_at form image) (instance_size form) d most_below (at + stack_fields form) low
    ∙ ap (λ (k : ℕ). items (instance_at form image) (instance_size form) k (at + stack_fields form)) e in
    let under = ap (λ (k : ℕ). down k below) full ∙ up_down d below (omega arith) ∙ ap (λ (l : List Instance). reverse l) read in
    record { depth = e; low = low; means = λ i. record { external = x i; top = here i; below = under i } }

-- the offset past one stack more
pub end_more : (form : Form) (image : List ℕ) (at i o depth : ℕ) → o ≡ row_end (stack_size_at form image) i at → depth ≡ depth_at image o
    → o + stack_size form depth ≡ row_end (stack_size_at form image) (i + 1) at
unfolding stack_size_at
end_more form image at i o depth e d =
    sym (end_last (stack_size_at form image) i at ∙ ap (λ (k : ℕ). k + stack_size_at form image k) (sym e)
    ∙ ap (λ (k : ℕ). o + stack_size form k) (sym d))
