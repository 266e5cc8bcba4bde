-- Laws of the change call: changes are applied in order, what has no effect is passed over, the rules for beliefs are kept, and two lists of changes after each other are one.
use Prim.Native.Nat.{◌≤◌}
use mathlib.Core.Path.{◌≡◌, refl, ap, sym, ◌∙◌}
use mathlib.Core.Bool.{Bool, true, false}
use mathlib.Core.List.{List, [], ◌∷◌, ◌++◌, foldl-append}
use lib.ListN.{length}
use Rattle.std.specs.Prelude.{Ok}
use Rattle.lists.proofs.BoolLaws.{by_cases}
use Rattle.refusals.proofs.NumberLaws.{ok_equal}
use Rattle.literal.specs.declared.Literal.{Literal}
use Rattle.literal.specs.Literal.{is_ground, opposite}
use Rattle.belief.specs.declared.Beliefs.{Beliefs}
use Rattle.belief.specs.declared.Change.{Change}
use Rattle.belief.specs.declared.Applied.{Applied}
use Rattle.belief.specs.Beliefs.{most_beliefs, view, holds}
use Rattle.belief.specs.Table.{unchanged, remove, is_table}
use Rattle.belief.proofs.TableSteps.{add_held, add_full}
use Rattle.belief.proofs.BeliefLaws.{add_places, remove_places, add-table, remove-table}
use Rattle.change.specs.Changes.{step_by, step, steps, changed}

-- ---- The order

-- the first change is applied first, the others to what it made
pub steps_first : (table : Beliefs) (c : Change) (changes : List Change) → steps table (c ∷ changes) ≡ steps (step table c) changes
unfolding steps
steps_first table c changes = refl

-- ---- What is passed over: the table is the same in every place

module _ (table : Beliefs) (c : Change) where
  pub passed_open : is_ground c.literal ≡ false → step table c ≡ table
  unfolding step
  passed_open e = rw e

  -- what a ground literal leaves as it is every literal does
  passed_ground : step_by true c.removes table c.literal ≡ table → step table c ≡ table
  unfolding step
  passed_ground e = by_cases (is_ground c.literal) (λ g. rw g e) (λ g. rw g)

  pub passed_held : c.removes ≡ false → holds (view table) c.literal ≡ true → step table c ≡ table
  passed_held r h = passed_ground (rw r (ap (λ (x : Applied). x.table) (sym (add_held table c.literal h))))

  remove-none : (l : Literal) → holds (view table) l ≡ false → remove table l ≡ unchanged table
  unfolding remove
  remove-none l h = rw h

  -- an add that finds 64 beliefs, and takes none out
  pub passed_full : c.removes ≡ false → holds (view table) (opposite c.literal) ≡ false → most_beliefs ≤ table.count → step table c ≡ table
  passed_full r free full = by_cases (holds (view table) c.literal) (passed_held r) (λ new. passed_ground
      (rw r (ap (λ (x : Applied). x.table) (sym (add_full table c.literal (unchanged table) (sym (remove-none (opposite c.literal) free)) new full)))))

  pub passed_absent : c.removes ≡ true → holds (view table) c.literal ≡ false → step table c ≡ table
  passed_absent r h = passed_ground (rw r (ap (λ (x : Applied). x.table) (remove-none c.literal h)))

-- ---- What is kept

-- a table as the machine holds it, with the rules for beliefs
pub record Sound (table : Beliefs) : Type 0 where
  pub places : length table.items ≡ 64
  pub rules : is_table table ≡ true

module _ (table : Beliefs) (h : Sound table) where
  -- one change keeps the rules
  pub step_sound : (c : Change) → Sound (step table c)
  unfolding step
  step_sound c = go (is_ground c.literal) c.removes refl
    where
      go : (ground removes : Bool) → is_ground c.literal ≡ ground → Sound (step_by ground removes table c.literal)
      go false removes g = h
      go true true g = record { places = remove_places table h.places c.literal; rules = remove-table table h.places h.rules c.literal }
      go true false g = record { places = add_places table h.places c.literal; rules = add-table table h.places h.rules c.literal g }

-- so does a list of them
pub steps_sound : (table : Beliefs) → Sound table → (changes : List Change) → Sound (steps table changes)
unfolding steps
steps_sound table h [] = h
steps_sound table h (c ∷ changes) = steps_sound (step table c) (step_sound table h c) changes

-- ---- The answer

-- a table that keeps the rules is not refused
pub changed_sound : (table : Beliefs) → Sound table → (changes : List Change) → changed table changes ≡ Ok (steps table changes)
unfolding changed
changed_sound table h changes = rw h.rules

-- changes after each other: the call on both lists is the call on the second, on what the first made
pub changed-joined : (table middle : Beliefs) → Sound table → (now later : List Change) → changed table now ≡ Ok middle
    → changed table (now ++ later) ≡ changed middle later
unfolding steps
changed-joined table middle h now later first =
    let same : steps table now ≡ middle = ok_equal (sym (changed_sound table h now) ∙ first) in
    changed_sound table h (now ++ later) ∙ ap Ok (foldl-append step table now later)
    ∙ sym (changed_sound (steps table now) (steps_sound table h now) later) ∙ ap (λ (t : Beliefs). changed t later) same
