-- Laws of beliefs: a change keeps the rules, and the table's add and removal are the list's.
use Prim.Native.Nat.{ℕ, suc, ◌+◌, ◌-◌, ◌<◌, ◌≤◌, min}
use native.Mathlib.Omega.{arith}
use mathlib.Core.Path.{◌≡◌, refl, ap, sym, ◌∙◌}
use mathlib.Core.Bool.{Bool, true, false, not, ◌&&◌, ◌||◌}
use mathlib.Core.List.{List, [], ◌∷◌, ◌++◌, foldl-append}
use lib.ListN.{length, take, drop, length-append, length-take, length-drop, length-set}
use lib.Seq.{take-suc-set}
use lib.Dec.{leb, ltb}
use borrow.Author.Tests.{le-leb, leb-true, lt-ltb, ltb-true, ltb-false}
use Rattle.std.specs.List.{list_all}
use Rattle.lists.specs.Search.{distinct, position}
use Rattle.lists.specs.Gap.{remove_at, close_gap}
use Rattle.lists.proofs.BoolLaws.{by_cases, both_ways, and_parts, and_both}
use Rattle.lists.proofs.SearchLaws.{any-position}
use Rattle.lists.proofs.GapLaws.{gap_take, remove_at-past}
use Rattle.lists.proofs.TestLaws.{all-joined, all-removed, none-removed, distinct-joined, distinct-removed, removed-gone}
use Rattle.literal.specs.declared.Literal.{Literal}
use Rattle.literal.specs.Literal.{is_ground, same, opposite, opposed}
use Rattle.literal.proofs.LiteralLaws.{same_equal, same_either_way, opposite-either_way}
use Rattle.belief.specs.declared.Beliefs.{Beliefs}
use Rattle.belief.specs.declared.Change.{Change}
use Rattle.belief.specs.declared.Effect.{Effect}
use Rattle.belief.specs.declared.Effect.TheVariants.{Nothing, Impossible, Changed, Replaced}
use Rattle.belief.specs.declared.Applied.{Applied}
use Rattle.belief.specs.Beliefs.{most_beliefs, size, view, holds, are_sound, are_beliefs, plus, minus, fits, put, change, replay}
use Rattle.belief.specs.Table.{fitted, changed, cleared, over, append, add_by, add, remove_by, remove, is_table}
use Rattle.belief.proofs.TableSteps.{length-view, view-room}

-- ---- The list

-- what the rules say of the literals
sound_parts : (beliefs : List Literal) → are_sound beliefs ≡ true → (list_all is_ground beliefs ≡ true) × (distinct same beliefs ≡ true) × (distinct opposed beliefs ≡ true)
sound_parts beliefs h =
    let parts = and_parts (list_all is_ground beliefs) _ h in
    let two = and_parts (distinct same beliefs) (distinct opposed beliefs) parts.1 in
    (parts.0, two.0, two.1)

sound_both : (beliefs : List Literal) → list_all is_ground beliefs ≡ true → distinct same beliefs ≡ true → distinct opposed beliefs ≡ true → are_sound beliefs ≡ true
sound_both beliefs p q r = and_both (list_all is_ground beliefs) _ p (and_both (distinct same beliefs) (distinct opposed beliefs) q r)

-- one more belief that is ground and not held, nor its opposite
sound_plus : (beliefs : List Literal) (l : Literal) → are_sound beliefs ≡ true → is_ground l ≡ true → holds beliefs l ≡ false → holds beliefs (opposite l) ≡ false
    → are_sound (beliefs ++ (l ∷ [])) ≡ true
unfolding holds
sound_plus beliefs l h g new free =
    let parts = sound_parts beliefs h in
    sound_both (beliefs ++ (l ∷ [])) (all-joined is_ground beliefs (l ∷ []) parts.0 (rw g))
    (distinct-joined same same_either_way beliefs l parts.1 new) (distinct-joined opposed opposite-either_way beliefs l parts.2 free)

sound_minus : (beliefs : List Literal) (i : ℕ) → are_sound beliefs ≡ true → are_sound (remove_at i beliefs) ≡ true
sound_minus beliefs i h =
    let parts = sound_parts beliefs h in
    sound_both (remove_at i beliefs) (all-removed is_ground i beliefs parts.0) (distinct-removed same i beliefs parts.1) (distinct-removed opposed i beliefs parts.2)

-- removing a literal keeps the rules
pub minus-beliefs : (beliefs : List Literal) (l : Literal) → are_beliefs beliefs ≡ true → are_beliefs (minus beliefs l) ≡ true
unfolding are_beliefs minus
minus-beliefs beliefs l h =
    let parts = and_parts (leb (length beliefs) most_beliefs) (are_sound beliefs) h in
    let i = position (same l) beliefs in
    and_both (leb (length (remove_at i beliefs)) most_beliefs) _
    (le-leb (length (remove_at i beliefs)) most_beliefs (omega (arith, leb-true (length beliefs) most_beliefs parts.0, shorter i))) (sound_minus beliefs i parts.1)
  where
    shorter : (i : ℕ) → length (remove_at i beliefs) ≤ length beliefs
    shorter i = omega (arith, length-append (take i beliefs) (drop (suc i) beliefs), length-take i beliefs, length-drop (suc i) beliefs)

-- changes one after the other
pub replay_join : (beliefs : List Literal) (now later : List Change) → replay beliefs (now ++ later) ≡ replay (replay beliefs now) later
unfolding replay
replay_join beliefs now later = foldl-append change beliefs now later

-- ---- An add

-- a literal that is removed is gone, and nothing new comes in
pub minus-gone : (beliefs : List Literal) (l : Literal) → distinct same beliefs ≡ true → holds (minus beliefs l) l ≡ false
unfolding holds minus
minus-gone beliefs l h = removed-gone same same_equal l beliefs h

pub minus_new : (beliefs : List Literal) (l m : Literal) → holds beliefs l ≡ false → holds (minus beliefs m) l ≡ false
unfolding holds minus
minus_new beliefs l m h = none-removed (same l) (position (same m) beliefs) beliefs h

pub minus_absent : (beliefs : List Literal) (l : Literal) → holds beliefs l ≡ false → minus beliefs l ≡ beliefs
unfolding holds minus
minus_absent beliefs l h =
    remove_at-past (position (same l) beliefs) beliefs (ltb-false (position (same l) beliefs) (length beliefs) (sym (any-position (same l) beliefs) ∙ h))

minus-length : (beliefs : List Literal) (l : Literal) → holds beliefs l ≡ true → length (minus beliefs l) + 1 ≡ length beliefs
unfolding holds minus
minus-length beliefs l h =
    let i = position (same l) beliefs in
    let low = ltb-true i (length beliefs) (sym (any-position (same l) beliefs) ∙ h) in
    omega (arith, length-append (take i beliefs) (drop (suc i) beliefs), length-take i beliefs, length-drop (suc i) beliefs)

-- beliefs are all different
pub beliefs-distinct : (beliefs : List Literal) → are_beliefs beliefs ≡ true → distinct same beliefs ≡ true
unfolding are_beliefs
beliefs-distinct beliefs h = (sound_parts beliefs (and_parts (leb (length beliefs) most_beliefs) (are_sound beliefs) h).1).1

-- where one is taken out there is room
pub minus_short : (beliefs : List Literal) (l : Literal) → are_beliefs beliefs ≡ true → holds beliefs l ≡ true → length (minus beliefs l) < most_beliefs
unfolding are_beliefs
minus_short beliefs l h p = omega (arith, minus-length beliefs l p, leb-true (length beliefs) most_beliefs (and_parts (leb (length beliefs) most_beliefs) (are_sound beliefs) h).0)

-- an add that takes nothing out fits where there is room
pub fits_short : (beliefs : List Literal) (l : Literal) → holds beliefs l ≡ false → holds beliefs (opposite l) ≡ false → fits beliefs l ≡ true → length beliefs < most_beliefs
unfolding fits
fits_short beliefs l p q e = ltb-true (length beliefs) most_beliefs (rw (p, q) at e)

-- what an add makes of the beliefs, where the literal is new
pub put_new : (beliefs : List Literal) (l : Literal) → holds beliefs l ≡ false → put beliefs l ≡ minus beliefs (opposite l) ++ (l ∷ [])
unfolding put plus
put_new beliefs l new = rw (new, minus_new beliefs l (opposite l) new)

-- adding a ground literal that fits keeps the rules
pub put_beliefs : (beliefs : List Literal) (l : Literal) → are_beliefs beliefs ≡ true → is_ground l ≡ true → fits beliefs l ≡ true → are_beliefs (put beliefs l) ≡ true
unfolding are_beliefs fits put
put_beliefs beliefs l h g room = by_cases (holds beliefs l) (λ p. ap are_beliefs (stays p) ∙ h) (λ p. ap are_beliefs (put_new beliefs l p) ∙
    (let rest = and_parts (leb (length (minus beliefs (opposite l))) most_beliefs) (are_sound (minus beliefs (opposite l))) (minus-beliefs beliefs (opposite l) h) in
    let gone = minus-gone beliefs (opposite l) (beliefs-distinct beliefs h) in
    and_both (leb (length (minus beliefs (opposite l) ++ (l ∷ []))) most_beliefs) _
    (le-leb (length (minus beliefs (opposite l) ++ (l ∷ []))) most_beliefs (omega (arith, length-append (minus beliefs (opposite l)) (l ∷ []), short p)))
    (sound_plus (minus beliefs (opposite l)) l rest.1 g (minus_new beliefs l (opposite l) p) gone)))
  where
    stays : holds beliefs l ≡ true → put beliefs l ≡ beliefs
    stays p = rw p

    short : holds beliefs l ≡ false → length (minus beliefs (opposite l)) < most_beliefs
    short p = by_cases (holds beliefs (opposite l))
        (λ q. minus_short beliefs (opposite l) h q)
        (λ q. omega (arith, ap length (minus_absent beliefs (opposite l) q), fits_short beliefs l p q room))

-- ---- The table

length_gap : (xs : List Literal) (i n : ℕ) → i ≤ n → n < length xs → length (close_gap i n xs) ≡ length xs
length_gap xs i n p q = simp (length-append, length-take, length-drop) (omega arith)

module _ (b : Beliefs) (len : length b.items ≡ 64) where
  -- the literal is held just where it has a place in use
  pub held_place : (l : Literal) → holds (view b) l ≡ ltb (position (same l) (view b)) (size b)
  unfolding holds
  held_place l = any-position (same l) (view b) ∙ ap (ltb (position (same l) (view b))) (length-view b len)

  -- after a removal the beliefs are those of the list's removal
  pub remove-view : (l : Literal) → view (remove b l).table ≡ minus (view b) l
  unfolding remove minus
  remove-view l = go (position (same l) (view b)) (holds (view b) l) (sym (held_place l))
    where
      go : (place : ℕ) (held : Bool) → ltb place (size b) ≡ held → view (remove_by held place b).table ≡ remove_at place (view b)
      go place true p =
          let low = ltb-true place (size b) p in
          let now : min (size b - 1) most_beliefs ≡ size b - 1 = omega arith in
          rw now (gap_take b.items place (size b) low (omega arith))
      go place false p = sym (remove_at-past place (view b) (omega (arith, length-view b len, ltb-false place (size b) p)))

  pub remove-changed : (l : Literal) → changed (remove b l).effect ≡ holds (view b) l
  unfolding remove
  remove-changed l = go (holds (view b) l)
    where
      go : (held : Bool) → changed (remove_by held (position (same l) (view b)) b).effect ≡ held
      go true = refl
      go false = refl

  -- a removal keeps the number of places
  pub remove_places : (l : Literal) → length (remove b l).table.items ≡ 64
  unfolding remove
  remove_places l = go (position (same l) (view b)) (holds (view b) l) (sym (held_place l))
    where
      go : (place : ℕ) (held : Bool) → ltb place (size b) ≡ held → length (remove_by held place b).table.items ≡ 64
      go place true p = let low = ltb-true place (size b) p in length_gap b.items place (size b - 1) (omega arith) (omega arith) ∙ len
      go place false p = len

  -- there is room where the opposite is taken out just where an add fits or the literal is held
  pub remove-room : (l : Literal) → ltb (remove b l).table.count most_beliefs ≡ (holds (view b) l || ltb (length (view b)) most_beliefs)
  unfolding remove
  remove-room l = go (position (same l) (view b)) (holds (view b) l)
    where
      go : (place : ℕ) (held : Bool) → ltb (remove_by held place b).table.count most_beliefs ≡ (held || ltb (length (view b)) most_beliefs)
      go place true = lt-ltb (size b - 1) most_beliefs (omega arith)
      go place false = sym (view-room b len)

  -- ---- An add, by whether the literal is held and whether there is room

  -- it is possible and a change, and takes out what a removal took out
  over_done : (e : Effect) → (fitted (over e) ≡ true) × ((changed (over e) ≡ true) × (cleared (over e) ≡ changed e))
  over_done Nothing = (refl, (refl, refl))
  over_done Impossible = (refl, (refl, refl))
  over_done Changed = (refl, (refl, refl))
  over_done Replaced = (refl, (refl, refl))

  append-view : (t : Beliefs) (l : Literal) → length t.items ≡ 64 → t.count < 64 → view (append t l) ≡ view t ++ (l ∷ [])
  append-view t l n low =
      let now : min t.count most_beliefs ≡ t.count = omega arith in
      let next : min (t.count + 1) most_beliefs ≡ suc t.count = omega arith in
      rw (next, now) (take-suc-set t.items t.count l (omega arith))

  module _ (l : Literal) where
    abbrev without : Applied
    without = remove b (opposite l)

    -- it fits just where the list's add does
    pub add_fitted : fitted (add b l).effect ≡ fits (view b) l
    unfolding add fits
    add_fitted = ap (λ (r : Bool). fitted (add_by (holds (view b) l) r without b l).effect) (remove-room (opposite l)) ∙ go (holds (view b) l) (holds (view b) (opposite l) || ltb (length (view b)) most_beliefs)
      where
        go : (held room : Bool) → fitted (add_by held room without b l).effect ≡ (held || room)
        go true room = refl
        go false false = refl
        go false true = (over_done without.effect).0

    -- where it fits, the beliefs are those of the list's add
    pub add-view : fitted (add b l).effect ≡ true → view (add b l).table ≡ put (view b) l
    unfolding add put
    add-view = go (holds (view b) l) (ltb without.table.count most_beliefs) refl refl
      where
        go : (held room : Bool) → holds (view b) l ≡ held → ltb without.table.count most_beliefs ≡ room → fitted (add_by held room without b l).effect ≡ true
            → view (add_by held room without b l).table ≡ put (view b) l
        go true room p q e = rw p
        go false false p q e = both_ways {b = false} e refl
        go false true p q e =
            append-view without.table l (remove_places (opposite l)) (ltb-true without.table.count most_beliefs q)
            ∙ ap (λ (xs : List Literal). xs ++ (l ∷ [])) (remove-view (opposite l)) ∙ sym (put_new (view b) l p)

    -- where it does not fit, the table is the one given
    pub add_unfitted : fitted (add b l).effect ≡ false → (add b l).table ≡ b
    unfolding add
    add_unfitted = go (holds (view b) l) (ltb without.table.count most_beliefs)
      where
        go : (held room : Bool) → fitted (add_by held room without b l).effect ≡ false → (add_by held room without b l).table ≡ b
        go true room e = refl
        go false false e = refl
        go false true e = both_ways (over_done without.effect).0 e

    -- it changes the table just where it fits and the literal is new
    pub add-changed : changed (add b l).effect ≡ (fitted (add b l).effect && not (holds (view b) l))
    unfolding add
    add-changed = go (holds (view b) l) (ltb without.table.count most_beliefs)
      where
        go : (held room : Bool) → changed (add_by held room without b l).effect ≡ (fitted (add_by held room without b l).effect && not held)
        go true room = refl
        go false false = refl
        go false true = (over_done without.effect).1.0 ∙ sym (ap (λ (r : Bool). r && true) (over_done without.effect).0)

    -- and takes out the opposite just where it changes the table and that is held
    pub add_cleared : cleared (add b l).effect ≡ (changed (add b l).effect && holds (view b) (opposite l))
    unfolding add
    add_cleared = go (holds (view b) l) (ltb without.table.count most_beliefs)
      where
        go : (held room : Bool) → cleared (add_by held room without b l).effect ≡ (changed (add_by held room without b l).effect && holds (view b) (opposite l))
        go true room = refl
        go false false = refl
        go false true =
            (over_done without.effect).1.1 ∙ remove-changed (opposite l) ∙ sym (ap (λ (r : Bool). r && holds (view b) (opposite l)) (over_done without.effect).1.0)

    pub add-few : b.count ≤ 64 → (add b l).table.count ≤ 64
    unfolding add
    add-few few = go (holds (view b) l) (ltb without.table.count most_beliefs) refl
      where
        go : (held room : Bool) → ltb without.table.count most_beliefs ≡ room → (add_by held room without b l).table.count ≤ 64
        go true room p = few
        go false false p = few
        go false true p = omega (arith, ltb-true without.table.count most_beliefs p)

    pub add_places : length (add b l).table.items ≡ 64
    unfolding add
    add_places = go (holds (view b) l) (ltb without.table.count most_beliefs)
      where
        go : (held room : Bool) → length (add_by held room without b l).table.items ≡ 64
        go true room = len
        go false false = len
        go false true = length-set without.table.items without.table.count l ∙ remove_places (opposite l)

-- ---- The rules, of a table

-- the table's rules are the list's, and a count of at most 64
pub table-parts : (b : Beliefs) → length b.items ≡ 64 → is_table b ≡ true → (b.count ≤ 64) × (are_beliefs (view b) ≡ true)
unfolding is_table are_beliefs
table-parts b len h =
    let parts = and_parts (leb b.count most_beliefs) (are_sound (view b)) h in
    (leb-true b.count 64 parts.0, and_both (leb (length (view b)) most_beliefs) _ (le-leb (length (view b)) most_beliefs (omega (arith, length-view b len))) parts.1)

pub table-both : (b : Beliefs) → b.count ≤ 64 → are_beliefs (view b) ≡ true → is_table b ≡ true
unfolding is_table are_beliefs
table-both b few h =
    and_both (leb b.count most_beliefs) (are_sound (view b)) (le-leb _ _ few) (and_parts (leb (length (view b)) most_beliefs) (are_sound (view b)) h).1

module _ (b : Beliefs) (len : length b.items ≡ 64) (h : is_table b ≡ true) where
  few : b.count ≤ 64
  few = (table-parts b len h).0

  remove-few : (l : Literal) → (remove b l).table.count ≤ 64
  unfolding remove
  remove-few l = go (holds (view b) l)
    where
      go : (held : Bool) → (remove_by held (position (same l) (view b)) b).table.count ≤ 64
      go true = omega arith
      go false = few

  -- adding a ground literal keeps the rules
  pub add-table : (l : Literal) → is_ground l ≡ true → is_table (add b l).table ≡ true
  add-table l g = by_cases (fitted (add b l).effect)
      (λ e. table-both (add b l).table (add-few b len l few)
      (ap are_beliefs (add-view b len l e) ∙ put_beliefs (view b) l (table-parts b len h).1 g (sym (add_fitted b len l) ∙ e)))
      (λ e. ap is_table (add_unfitted b len l e) ∙ h)

  -- removing a literal keeps the rules
  pub remove-table : (l : Literal) → is_table (remove b l).table ≡ true
  remove-table l =
      table-both (remove b l).table (remove-few l) (ap are_beliefs (remove-view b len l) ∙ minus-beliefs (view b) l (table-parts b len h).1)
