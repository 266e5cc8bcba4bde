-- Instances and stacks are read back where they were written.
use Prim.Native.Nat.{ℕ, suc, ◌+◌, ◌*◌, ◌<◌, ◌≤◌}
use native.Mathlib.Nat.{add-zero, mul-suc}
use native.Mathlib.Omega.{arith}
use mathlib.Core.Path.{◌≡◌, refl, ap, ap₂, sym, ◌∙◌, subst⁻¹}
use mathlib.Core.Bool.{true, false, ◌||◌}
use mathlib.Core.List.{List, [], ◌∷◌, ◌++◌, append_assoc, append-nil, reverse, reverse-reverse}
use lib.Dec.{eqb, leb, lit<}
use lib.ListN.{length, length-append, length-reverse, get_or}
use borrow.Author.Tests.{eqb-true, leb-true}
use Rattle.lists.specs.Counts.{each}
use Rattle.std.specs.List.{list_all}
use Rattle.std.proofs.lemmas.List.Folds.{list_all-append}
use Rattle.lists.proofs.BoolLaws.{and_parts, by_cases}
use Rattle.literal.specs.declared.Env.{Env}
use Rattle.literal.specs.Literal.{first_variable, is_constant}
use Rattle.literal.specs.Environment.{are_entries, is_env}
use Rattle.library.specs.Bytes.{u16_at, items}
use Rattle.model.specs.declared.Instance.{Instance}
use Rattle.model.specs.declared.Status.{Status}
use Rattle.model.specs.declared.Status.TheVariants.{Active, Waiting, Suspended}
use Rattle.model.specs.State.{Intention}
use Rattle.model.specs.Turn.{height_of}
use Rattle.state.specs.View.{most_below}
use Rattle.image.specs.declared.form.Form.{Form}
use Rattle.image.specs.Words.{word_size, word_bytes, words_bytes, number_bytes, number_at, holds_number}
use Rattle.image.specs.StackImage.{status_code, status_of, entry_of, entries_at, env_at, is_storable, is_stack_storable, upward}
use Rattle.image.specs.StackImage.{instance_fields, instance_size, place_words, instance_bytes, instance_at}
use Rattle.image.specs.StackImage.{stack_fields, stack_size, stack_bytes, depth_at, stack_at, stack_size_at}
use Rattle.image.proofs.WordLaws.{word_at, word_first, number_at_lem, length-number, length-bytes, each-joined}
use Rattle.image.proofs.CodecLaws.{Codec, items_back}

same_status : (status : Status) → status_of (status_code status) ≡ status
same_status Active = refl
same_status Waiting = refl
same_status Suspended = refl

-- ---- Environments

same_entry : (variable term : ℕ) → (is_constant term || eqb term variable) ≡ true → entry_of variable term ≡ term
same_entry variable term h =
    by_cases (is_constant term) (λ (e : is_constant term ≡ true). rw e)
    (λ (e : is_constant term ≡ false). rw e (sym (eqb-true term variable (rw e at h))))

entries_back : (before terms after : List ℕ) (variable : ℕ) → are_entries variable terms ≡ true
    → entries_at (before ++ (words_bytes terms ++ after)) variable (length terms) (length before) ≡ terms
unfolding entries_at are_entries
entries_back before [] after variable h = refl
entries_back before (term ∷ terms) after variable h =
    let parts = and_parts (is_constant term || eqb term variable) (are_entries (suc variable) terms) h in
    let first : u16_at (before ++ (words_bytes (term ∷ terms) ++ after)) (length before) ≡ term =
    word_first before (term ∷ terms) after (omega arith) in
    let moved : before ++ (words_bytes (term ∷ terms) ++ after) ≡ (before ++ word_bytes term) ++ (words_bytes terms ++ after) =
    sym (append_assoc before (word_bytes term) (words_bytes terms ++ after)) in
    let next : length before + 2 ≡ length (before ++ word_bytes term) = sym (length-append before (word_bytes term)) in
    ap₂ (λ (t : ℕ) (ts : List ℕ). t ∷ ts) (ap (entry_of variable) first ∙ same_entry variable term parts.0)
    (subst⁻¹ (λ (w : List ℕ). entries_at w (suc variable) (length terms) (length before + 2) ≡ terms) moved
    (subst⁻¹ (λ (n : ℕ). entries_at ((before ++ word_bytes term) ++ (words_bytes terms ++ after)) (suc variable) (length terms) n ≡ terms) next
    (entries_back (before ++ word_bytes term) terms after (suc variable) parts.1)))

env_back : (before after : List ℕ) (env : Env) → is_env env ≡ true
    → env_at (before ++ (words_bytes env.terms ++ after)) (length before) ≡ env
unfolding env_at is_env
env_back before after env h =
    let parts = and_parts (eqb (length env.terms) 8) (are_entries first_variable env.terms) h in
    let size : 8 ≡ length env.terms = sym (eqb-true (length env.terms) 8 parts.0) in
    let terms =
    ap (λ (n : ℕ). entries_at (before ++ (words_bytes env.terms ++ after)) first_variable n (length before)) size
    ∙ entries_back before env.terms after first_variable parts.1 in
    λ i. record { terms = terms i }

-- ---- Instances

length_env : (env : Env) → is_env env ≡ true → length env.terms ≡ 8
unfolding is_env
length_env env h = eqb-true (length env.terms) 8 (and_parts (eqb (length env.terms) 8) (are_entries first_variable env.terms) h).0

-- the environment of an instance that can be stored
env_of : (form : Form) (x : Instance) → is_storable form x ≡ true → is_env x.env ≡ true
env_of form x h = (and_parts (is_env x.env) (holds_number form x.id) h).0

length-instance : (form : Form) (x : Instance) → is_storable form x ≡ true → length (instance_bytes form x) ≡ instance_size form
unfolding instance_bytes
length-instance form x h =
    omega (
      arith,
      length-append (words_bytes (place_words x)) (words_bytes x.env.terms ++ number_bytes form x.id),
      length-append (words_bytes x.env.terms) (number_bytes form x.id),
      length-bytes x.env.terms,
      length_env x.env (env_of form x h),
      length-number form x.id,
    )

module _ (form : Form) (before after : List ℕ) (x : Instance) (h : is_storable form x ≡ true) where
  abbrev image : List ℕ
  image = before ++ ((words_bytes (place_words x) ++ (words_bytes x.env.terms ++ number_bytes form x.id)) ++ after)

  at_places : image ≡ before ++ (words_bytes (place_words x) ++ ((words_bytes x.env.terms ++ number_bytes form x.id) ++ after))
  at_places =
      ap (λ (l : List ℕ). before ++ l) (append_assoc (words_bytes (place_words x)) (words_bytes x.env.terms ++ number_bytes form x.id)
      after)

  place : (i : ℕ) → i < 4 → u16_at image (length before + 2 * i) ≡ get_or (place_words x) i 0
  place i low = rw at_places (word_at before (place_words x) ((words_bytes x.env.terms ++ number_bytes form x.id) ++ after) i low)

  at_env : image ≡ (before ++ words_bytes (place_words x)) ++ (words_bytes x.env.terms ++ (number_bytes form x.id ++ after))
  at_env = simp append_assoc

  at_id : image ≡ (before ++ (words_bytes (place_words x) ++ words_bytes x.env.terms)) ++ (number_bytes form x.id ++ after)
  at_id = simp append_assoc

  pub instance_back : instance_at form (before ++ (instance_bytes form x ++ after)) (length before) ≡ x
  unfolding instance_bytes instance_at
  instance_back =
      let plan : u16_at image (length before) ≡ x.plan = ap (u16_at image) (sym (add-zero (length before))) ∙ place 0 (lit< tt) in
      let state : u16_at image (length before + 2) ≡ x.state = place 1 (lit< tt) in
      let tried : u16_at image (length before + 4) ≡ x.tried = place 2 (lit< tt) in
      let status : status_of (u16_at image (length before + 6)) ≡ x.status = ap status_of (place 3 (lit< tt)) ∙ same_status x.status in
      let here : length before + 8 ≡ length (before ++ words_bytes (place_words x)) =
      sym (length-append before (words_bytes (place_words x))) in
      let env : env_at image (length before + 8) ≡ x.env =
      rw (at_env, here) (env_back (before ++ words_bytes (place_words x)) (number_bytes form x.id ++ after) x.env (env_of form x h)) in
      let there : length before + instance_fields ≡ length (before ++ (words_bytes (place_words x) ++ words_bytes x.env.terms)) =
      rw (length-append, length-append, length-bytes x.env.terms, length_env x.env (env_of form x h)) in
      let id : number_at form image (length before + instance_fields) ≡ x.id =
      ap₂ (number_at form) at_id there ∙ number_at_lem form (before ++ (words_bytes (place_words x) ++ words_bytes x.env.terms)) after x.id
      (and_parts (is_env x.env) (holds_number form x.id) h).1 in
      λ i. record { id = id i; plan = plan i; env = env i; state = state i; tried = tried i; status = status i }

pub instance_codec : (form : Form) → Codec Instance (instance_bytes form) (instance_at form) (λ bytes at. instance_size form) (is_storable form)
instance_codec form = record { back = instance_back form; sized = λ before after x h. sym (length-instance form x h) }

-- ---- Stacks

length-each : (form : Form) (xs : List Instance) → list_all (is_storable form) xs ≡ true
    → length (each (instance_bytes form) xs) ≡ instance_size form * length xs
length-each form [] h = omega arith
length-each form (x ∷ xs) h =
    let parts = and_parts (is_storable form x) (list_all (is_storable form) xs) h in
    length-append (instance_bytes form x) (each (instance_bytes form) xs)
    ∙ rw (length-instance form x parts.0, length-each form xs parts.1, mul-suc) (omega arith)

-- the bytes of a stack by what stands before the instances below its top, and before the top
before_lower : (a b c d e f : List ℕ) → a ++ ((b ++ (c ++ (d ++ e))) ++ f) ≡ (a ++ (b ++ c)) ++ (d ++ (e ++ f))
before_lower a b c d e f = simp append_assoc

before_last : (a b c d e f : List ℕ) → a ++ ((b ++ (c ++ (d ++ e))) ++ f) ≡ (a ++ (b ++ (c ++ d))) ++ (e ++ f)
before_last a b c d e f = simp append_assoc

module _ (form : Form) (before after : List ℕ) (stack : Intention) (h : is_stack_storable form stack ≡ true) where
  abbrev height : List ℕ
  height = word_bytes (height_of stack)

  abbrev number : List ℕ
  number = number_bytes form stack.external

  abbrev up : List Instance
  up = reverse stack.below

  abbrev instances : List ℕ
  instances = each (instance_bytes form) (upward stack)

  abbrev whole : List ℕ
  whole = before ++ (stack_bytes form stack ++ after)

  few : length stack.below ≤ most_below
  few = leb-true (length stack.below) most_below (and_parts (leb (length stack.below) most_below) _ h).0

  -- every instance is storable, and the form holds the number
  held : (list_all (is_storable form) (upward stack) ≡ true) × (holds_number form stack.external ≡ true)
  held =
      and_parts (list_all (is_storable form) (upward stack)) (holds_number form stack.external)
      (and_parts (leb (length stack.below) most_below) _ h).1

  goods : (list_all (is_storable form) up ≡ true) × (list_all (is_storable form) (stack.top ∷ []) ≡ true)
  unfolding upward
  goods =
      and_parts (list_all (is_storable form) up) (list_all (is_storable form) (stack.top ∷ []))
      (sym (list_all-append (is_storable form) up (stack.top ∷ [])) ∙ held.0)

  good_top : is_storable form stack.top ≡ true
  good_top = (and_parts (is_storable form stack.top) true goods.1).0

  at_height : whole ≡ before ++ (height ++ (number ++ (instances ++ after)))
  unfolding stack_bytes
  at_height = simp append_assoc

  at_number : whole ≡ (before ++ height) ++ (number ++ (instances ++ after))
  at_number = at_height ∙ sym (append_assoc before height (number ++ (instances ++ after)))

  -- those below the top, and the top
  split : instances ≡ each (instance_bytes form) up ++ instance_bytes form stack.top
  unfolding upward
  split =
      each-joined (instance_bytes form) up (stack.top ∷ [])
      ∙ ap (λ (l : List ℕ). each (instance_bytes form) up ++ l) (append-nil (instance_bytes form stack.top))

  at_below : whole ≡ (before ++ (height ++ number)) ++ (each (instance_bytes form) up ++ (instance_bytes form stack.top ++ after))
  unfolding stack_bytes
  at_below =
      ap (λ (l : List ℕ). before ++ ((height ++ (number ++ l)) ++ after)) split
      ∙ before_lower before height number (each (instance_bytes form) up) (instance_bytes form stack.top) after

  at_top : whole ≡ (before ++ (height ++ (number ++ each (instance_bytes form) up))) ++ (instance_bytes form stack.top ++ after)
  unfolding stack_bytes
  at_top =
      ap (λ (l : List ℕ). before ++ ((height ++ (number ++ l)) ++ after)) split
      ∙ before_last before height number (each (instance_bytes form) up) (instance_bytes form stack.top) after

  height_at : u16_at whole (length before) ≡ height_of stack
  height_at =
      ap (λ (l : List ℕ). u16_at l (length before)) at_height
      ∙ word_first before (height_of stack ∷ []) (number ++ (instances ++ after)) (lit< tt)

  depth : depth_at whole (length before) ≡ length stack.below
  unfolding depth_at
  depth = rw height_at (omega (arith, few))

  -- how many bytes the instances have
  instances-size : length instances ≡ instance_size form * length stack.below + instance_size form
  instances-size =
      ap length split ∙ length-append (each (instance_bytes form) up) (instance_bytes form stack.top)
      ∙ ap₂ (λ (m n : ℕ). m + n) (length-each form up goods.0 ∙ ap (λ (n : ℕ). instance_size form * n) (length-reverse stack.below))
      (length-instance form stack.top good_top)

  pub stack-length : length (stack_bytes form stack) ≡ stack_size form (length stack.below)
  unfolding stack_bytes
  stack-length =
      omega (
        arith,
        length-append height (number ++ instances),
        length-append number instances,
        length-number form stack.external,
        instances-size,
      )

  pub stack_sized : stack_size_at form whole (length before) ≡ length (stack_bytes form stack)
  unfolding stack_size_at
  stack_sized = rw depth (sym stack-length)

  pub stack_back : stack_at form whole (length before) ≡ stack
  unfolding stack_at
  stack_back =
      let external : number_at form whole (length before + word_size) ≡ stack.external =
      ap₂ (number_at form) at_number (sym (length-append before height)) ∙ number_at_lem form (before ++ height) (instances ++ after)
      stack.external held.1 in
      let count : depth_at whole (length before) ≡ length up = depth ∙ sym (length-reverse stack.below) in
      let here : length before + stack_fields form ≡ length (before ++ (height ++ number)) =
      omega (arith, length-append before (height ++ number), length-append height number, length-number form stack.external) in
      let read : items (instance_at form whole) (instance_size form) (depth_at whole (length before)) (length before + stack_fields form) ≡ up =
      rw (count, here) (ap (λ (l : List ℕ). items (instance_at form l) (instance_size form) (length up)
      (length (before ++ (height ++ number)))) at_below
      ∙ items_back (instance_codec form) (before ++ (height ++ number)) (instance_bytes form stack.top ++ after) up goods.0) in
      let lower = height ++ (number ++ each (instance_bytes form) up) in
      let there : length before + stack_fields form + instance_size form * depth_at whole (length before) ≡ length (before ++ lower) =
      rw count (omega (
        arith,
        length-append before lower,
        length-append height (number ++ each (instance_bytes form) up),
        length-append number (each (instance_bytes form) up),
        length-number form stack.external,
        length-each form up goods.0,
      )) in
      let top : instance_at form whole (length before + stack_fields form + instance_size form * depth_at whole (length before)) ≡ stack.top =
      ap (instance_at form whole) there ∙ ap (λ (l : List ℕ). instance_at form l (length (before ++ lower))) at_top
      ∙ instance_back form (before ++ lower) after stack.top good_top in
      let below : reverse (items (instance_at form whole) (instance_size form) (depth_at whole (length before))
      (length before + stack_fields form)) ≡ stack.below =
      ap (λ (l : List Instance). reverse l) read ∙ reverse-reverse stack.below in
      λ i. record { external = external i; top = top i; below = below i }

pub stack_codec : (form : Form) → Codec Intention (stack_bytes form) (stack_at form) (stack_size_at form) (is_stack_storable form)
stack_codec form = record { back = stack_back form; sized = stack_sized form }
