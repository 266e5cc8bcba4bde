-- The page grows line by line and stack by stack.
use Prim.Native.Nat.{ℕ, suc, ◌+◌, ◌*◌, ◌<◌, ◌≤◌}
use native.Mathlib.Nat.{add-zero}
use native.Mathlib.Numerals.{add-one}
use native.Mathlib.Omega.{arith}
use mathlib.Core.Path.{◌≡◌, refl, ap, sym, ◌∙◌}
use mathlib.Core.List.{List, [], ◌∷◌, ◌++◌, append_assoc, append-nil}
use lib.ListN.{length, length-append, get_or, take, drop}
use lib.Seq.{take-suc, take_all, length-take-le, split_at}
use Rattle.lists.specs.Counts.{each}
use Rattle.model.specs.declared.Instance.{Instance}
use Rattle.model.specs.State.{Intention}
use Rattle.state.specs.declared.Stack.{Stack}
use Rattle.state.specs.declared.State.{State}
use Rattle.state.specs.View.{no_instance, no_stack, down, depth_of, view_stack, stacked_of, view_stacks}
use Rattle.state.proofs.StackLaws.{length-down}
use Rattle.state.proofs.ViewLaws.{length-stacks, stack_at_lem}
use Rattle.writing.specs.Writing.{Wrote}
use Rattle.writing.proofs.WritingLaws.{then, nothing, widen, written}
use Rattle.board.specs.Page.{Row, line_text, line_bytes, rows_on, rows_from, rows_of, page_of}
use Rattle.board.proofs.LineLaws.{each-joined, each_last}

-- ---- A stack

abbrev row : ℕ → ℕ → Instance → Row
row stack height x = record { stack = stack; height = height; instance = x }

pub no_lines : {bytes : List ℕ} {at : ℕ} (number : ℕ) (below : List Instance) → Wrote 0 bytes bytes at at (each line_text (rows_on number (down 0 below)))
unfolding rows_on down
no_lines number below = nothing

-- the line of an instance after those below it
higher : (number height : ℕ) (x : Instance) (below : List Instance) → height ≡ suc (length below)
    → each line_text (rows_on number below) ++ line_text (row number height x) ≡ each line_text (rows_on number (x ∷ below))
unfolding rows_on
higher number height x below same =
    ap (λ (h : ℕ). each line_text (rows_on number below) ++ line_text (row number h x)) same
    ∙ sym (each_last line_text (rows_on number below) (row number (suc (length below)) x))

pub next_line_lem : {first middle last : List ℕ} {at o p : ℕ} (number i : ℕ) (below : List Instance)
    → Wrote (line_bytes * i) first middle at o (each line_text (rows_on number (down i below)))
    → Wrote line_bytes middle last o p (line_text (row number (i + 1) (get_or below i no_instance)))
    → Wrote (line_bytes * (i + 1)) first last at p (each line_text (rows_on number (down (i + 1) below)))
unfolding down
next_line_lem number i below done one =
    let height : i + 1 ≡ suc (length (down i below)) = omega (arith, length-down i below) in
    let there : down (suc i) below ≡ down (i + 1) below = ap (λ (k : ℕ). down k below) (sym (add-one i)) in
    written (higher number (i + 1) (get_or below i no_instance) (down i below) height ∙ ap (λ (l : List Instance). each line_text (rows_on number l)) there)
    (widen (omega arith) (then done one))

pub stack-lines : {first middle last : List ℕ} {at o p : ℕ} (number n : ℕ) (stack : Stack) → n ≡ depth_of stack
    → Wrote (line_bytes * n) first middle at o (each line_text (rows_on number (down n stack.below)))
    → Wrote line_bytes middle last o p (line_text (row number (n + 1) stack.top))
    → Wrote (line_bytes * (depth_of stack + 1)) first last at p (each line_text (rows_on number (stack.top ∷ (view_stack stack).below)))
stack-lines number n stack same done one =
    let height : n + 1 ≡ suc (length (down n stack.below)) = omega (arith, length-down n stack.below) in
    written
    (higher number (n + 1) stack.top (down n stack.below) height
    ∙ ap (λ (k : ℕ). each line_text (rows_on number (stack.top ∷ down k stack.below))) same)
    (widen (omega (arith, same)) (then done one))

-- ---- The stacks

pub length-rows : (number : ℕ) (xs : List Instance) → length (rows_on number xs) ≡ length xs
unfolding rows_on
length-rows number [] = refl
length-rows number (x ∷ below) = length-append (rows_on number below) (row number (suc (length below)) x ∷ []) ∙ omega (arith, length-rows number below)

pub rows-joined : (number : ℕ) (xs ys : List Intention) → rows_from number (xs ++ ys) ≡ rows_from number xs ++ rows_from (number + length xs) ys
unfolding rows_from
rows-joined number [] ys = ap (λ (k : ℕ). rows_from k ys) (sym (add-zero number))
rows-joined number (x ∷ xs) ys =
    let next : suc number + length xs ≡ number + suc (length xs) = omega arith in
    ap (λ (l : List Row). rows_on number (x.top ∷ x.below) ++ l) (rows-joined (suc number) xs ys ∙ ap (λ (k : ℕ). rows_from (suc number) xs ++ rows_from k ys) next)
    ∙ sym (append_assoc (rows_on number (x.top ∷ x.below)) (rows_from (suc number) xs) (rows_from (number + suc (length xs)) ys))

module _ (stacks : List Intention) (i : ℕ) (d x : Intention) (here : get_or stacks i d ≡ x) (low : i < length stacks) where
  -- the rows of one stack more
  rows_more : rows_of (take (i + 1) stacks) ≡ rows_of (take i stacks) ++ rows_on (i + 1) (x.top ∷ x.below)
  unfolding rows_from
  rows_more =
      let one : take (i + 1) stacks ≡ take i stacks ++ (x ∷ [])
      = ap (λ (k : ℕ). take k stacks) (add-one i) ∙ take-suc stacks i d low ∙ ap (λ (y : Intention). take i stacks ++ (y ∷ [])) here in
      let number : 1 + length (take i stacks) ≡ i + 1 = omega (arith, length-take-le i stacks (omega arith)) in
      ap rows_of one ∙ rows-joined 1 (take i stacks) (x ∷ [])
      ∙ ap (λ (l : List Row). rows_of (take i stacks) ++ l)
      (append-nil (rows_on (1 + length (take i stacks)) (x.top ∷ x.below)) ∙ ap (λ (k : ℕ). rows_on k (x.top ∷ x.below)) number)

  next_stack_lem : {first middle last : List ℕ} {o p : ℕ} → Wrote (line_bytes * length (rows_of (take i stacks))) first middle 0 o (page_of (take i stacks))
      → Wrote (line_bytes * (length x.below + 1)) middle last o p (each line_text (rows_on (i + 1) (x.top ∷ x.below)))
      → Wrote (line_bytes * length (rows_of (take (i + 1) stacks))) first last 0 p (page_of (take (i + 1) stacks))
  unfolding page_of
  next_stack_lem done one =
      let rows = rows_on (i + 1) (x.top ∷ x.below) in
      let size : length (rows_of (take (i + 1) stacks)) ≡ length (rows_of (take i stacks)) + (length x.below + 1)
      = ap length rows_more ∙ length-append (rows_of (take i stacks)) rows ∙ omega (arith, length-rows (i + 1) (x.top ∷ x.below)) in
      written (sym (ap (each line_text) rows_more ∙ each-joined line_text (rows_of (take i stacks)) rows)) (widen (omega (arith, size)) (then done one))

  -- the page has room for it
  room_left : length (rows_of (take i stacks)) + (length x.below + 1) ≤ length (rows_of stacks)
  unfolding rows_from
  room_left =
      let number = 1 + length (take i stacks) in
      let later = drop (suc i) stacks in
      let split : stacks ≡ take i stacks ++ (x ∷ later) = split_at stacks i d low ∙ ap (λ (y : Intention). take i stacks ++ (y ∷ later)) here in
      let whole : rows_of stacks ≡ rows_of (take i stacks) ++ rows_from number (x ∷ later) = ap rows_of split ∙ rows-joined 1 (take i stacks) (x ∷ later) in
      omega (
        arith,
        ap length whole,
        length-append (rows_of (take i stacks)) (rows_from number (x ∷ later)),
        length-append (rows_on number (x.top ∷ x.below)) (rows_from (suc number) later),
        length-rows number (x.top ∷ x.below),
      )

-- ---- The stacks of a state

pub no_stacks : {bytes : List ℕ} (stacks : List Intention) → Wrote (line_bytes * length (rows_of (take 0 stacks))) bytes bytes 0 0 (page_of (take 0 stacks))
unfolding page_of rows_from
no_stacks stacks = nothing

module _ (s : State) (i : ℕ) (long : length s.stacks ≡ 8) (low : i < stacked_of s) where
  abbrev stack : Stack
  stack = get_or s.stacks i no_stack

  there : i < length (view_stacks s)
  there = omega (arith, length-stacks s long)

  deep : length (view_stack stack).below ≡ depth_of stack
  deep = length-down (depth_of stack) stack.below

  pub stack_room : {o room : ℕ} → o ≤ 0 + line_bytes * length (rows_of (take i (view_stacks s))) → line_bytes * length (rows_of (view_stacks s)) ≤ room
      → o + line_bytes * (depth_of stack + 1) ≤ room
  stack_room p q = omega (arith, p, q, deep, room_left (view_stacks s) i (view_stack no_stack) (view_stack stack) (stack_at_lem s i no_stack low) there)

  pub stack_more : {first middle last : List ℕ} {o p : ℕ}
      → Wrote (line_bytes * length (rows_of (take i (view_stacks s)))) first middle 0 o (page_of (take i (view_stacks s)))
      → Wrote (line_bytes * (depth_of stack + 1)) middle last o p (each line_text (rows_on (i + 1) (stack.top ∷ (view_stack stack).below)))
      → Wrote (line_bytes * length (rows_of (take (i + 1) (view_stacks s)))) first last 0 p (page_of (take (i + 1) (view_stacks s)))
  stack_more done one =
      next_stack_lem (view_stacks s) i (view_stack no_stack) (view_stack stack) (stack_at_lem s i no_stack low) there done (widen (omega (arith, deep)) one)

pub all_stacks : {first last : List ℕ} {o : ℕ} (s : State) (n i : ℕ) → length s.stacks ≡ 8 → n ≡ stacked_of s → n ≤ i
    → line_bytes * length (rows_of (view_stacks s)) ≤ length first
    → Wrote (line_bytes * length (rows_of (take i (view_stacks s)))) first last 0 o (page_of (take i (view_stacks s)))
    → Wrote (length first) first last 0 o (page_of (view_stacks s))
all_stacks s n i long same past room done =
    let whole : take i (view_stacks s) ≡ view_stacks s = take_all i (view_stacks s) (omega (arith, length-stacks s long, same)) in
    written (ap page_of whole) (widen (omega (arith, ap (λ (l : List Intention). length (rows_of l)) whole, room)) done)
