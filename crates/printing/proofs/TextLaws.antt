-- The texts that the code writes, part by part, are those of the answer and of its changes.
use Prim.Native.Nat.{ℕ, ◌+◌, ◌*◌, ◌<◌}
use native.Mathlib.Numerals.{add-one}
use native.Mathlib.Omega.{arith}
use mathlib.Core.Path.{◌≡◌, refl, ap, sym}
use mathlib.Core.Bool.{true}
use mathlib.Core.List.{List, [], ◌∷◌, ◌++◌, append-nil, append_assoc}
use lib.ListN.{length, take, get_or}
use lib.Seq.{take-suc}
use Rattle.lists.specs.Counts.{each}
use Rattle.std.specs.List.{list_all}
use Rattle.lists.proofs.TestLaws.{all-joined}
use Rattle.literal.specs.declared.Literal.{Literal}
use Rattle.belief.specs.declared.Change.{Change}
use Rattle.model.specs.declared.Answer.{Answer}
use Rattle.model.specs.declared.Answer.TheVariants.{Taken, Idle, Dropped, Unmet, MadeExternal, MadeGoal, Stepped, Missed, Done, Posted, Succeeded, Failed, Refused}
use Rattle.model.specs.Lines.{number, letter_of, fields_of}
use Rattle.printing.specs.LineText.{space, number_text, literal_text, field_text, change_text, answer_text, fits_change, most_change}
use Rattle.writing.specs.Writing.{Wrote}
use Rattle.writing.proofs.WritingLaws.{then, nothing, widen, written}

-- ---- The letter and its fields

-- after three fields, one more
after_three : (letter : ℕ) (a b c d : List ℕ) → (letter ∷ (a ++ (b ++ (c ++ [])))) ++ d ≡ letter ∷ (a ++ (b ++ (c ++ (d ++ []))))
after_three letter a b c d = simp (append_assoc, append-nil)

module _ {answer : Answer} where
  pub taken : {n : ℕ} → answer ≡ Taken n → 84 ∷ each field_text (number n ∷ []) ≡ answer_text answer
  unfolding answer_text letter_of fields_of
  taken same = rw same

  pub idle : answer ≡ Idle → 73 ∷ [] ≡ answer_text answer
  unfolding answer_text letter_of fields_of
  idle same = rw same

  pub dropped : {n failures : ℕ} → answer ≡ Dropped n failures → (78 ∷ each field_text (number n ∷ [])) ++ number_text failures ≡ answer_text answer
  unfolding answer_text letter_of fields_of field_text
  dropped same = rw same (simp (append_assoc, append-nil))

  pub unmet : {i s b failures : ℕ} → answer ≡ Unmet i s b failures
      → (85 ∷ each field_text (number i ∷ number s ∷ number b ∷ [])) ++ number_text failures ≡ answer_text answer
  unfolding answer_text letter_of fields_of field_text
  unmet {i} {s} {b} {failures} same = rw same (after_three 85 (number_text i) (number_text s) (number_text b) (number_text failures))

  pub made_external : {i plan n : ℕ} → answer ≡ MadeExternal i plan n
      → 77 ∷ (number_text i ++ (number_text plan ++ (space ∷ 101 ∷ number_text n))) ≡ answer_text answer
  unfolding answer_text letter_of fields_of field_text
  made_external same = rw same (simp append-nil)

  pub made_goal : {i plan poster : ℕ} → answer ≡ MadeGoal i plan poster
      → 77 ∷ (number_text i ++ (number_text plan ++ (space ∷ 103 ∷ number_text poster))) ≡ answer_text answer
  unfolding answer_text letter_of fields_of field_text
  made_goal same = rw same (simp append-nil)

  pub stepped : {i s b next : ℕ} → answer ≡ Stepped i s b next
      → (83 ∷ each field_text (number i ∷ number s ∷ number b ∷ [])) ++ number_text next ≡ answer_text answer
  unfolding answer_text letter_of fields_of field_text
  stepped {i} {s} {b} {next} same = rw same (after_three 83 (number_text i) (number_text s) (number_text b) (number_text next))

  pub missed : {i s b : ℕ} → answer ≡ Missed i s b → 66 ∷ each field_text (number i ∷ number s ∷ number b ∷ []) ≡ answer_text answer
  unfolding answer_text letter_of fields_of
  missed same = rw same

  pub done : {i s b : ℕ} {l : Literal} → answer ≡ Done i s b l
      → (68 ∷ each field_text (number i ∷ number s ∷ number b ∷ [])) ++ literal_text l ≡ answer_text answer
  unfolding answer_text letter_of fields_of field_text
  done {i} {s} {b} {l} same = rw same (after_three 68 (number_text i) (number_text s) (number_text b) (literal_text l))

  pub posted : {i s b : ℕ} → answer ≡ Posted i s b → 71 ∷ each field_text (number i ∷ number s ∷ number b ∷ []) ≡ answer_text answer
  unfolding answer_text letter_of fields_of
  posted same = rw same

  pub succeeded : {i : ℕ} → answer ≡ Succeeded i → 69 ∷ each field_text (number i ∷ []) ≡ answer_text answer
  unfolding answer_text letter_of fields_of
  succeeded same = rw same

  pub failed : {i : ℕ} → answer ≡ Failed i → 70 ∷ each field_text (number i ∷ []) ≡ answer_text answer
  unfolding answer_text letter_of fields_of
  failed same = rw same

  pub refused : {n : ℕ} → answer ≡ Refused n → 88 ∷ each field_text (number n ∷ []) ≡ answer_text answer
  unfolding answer_text letter_of fields_of
  refused same = rw same

-- a letter, then one field
pub ruleset lettered = (then, nothing)

-- the answers that are written as one part: those that are tries, and the others
pub ruleset tried = (widen, written, missed, posted)

pub ruleset answered = (widen, written, taken, idle, made_external, made_goal, succeeded, failed, refused)

-- ---- The changes

each-joined : (xs ys : List Change) → each change_text (xs ++ ys) ≡ each change_text xs ++ each change_text ys
each-joined [] ys = refl
each-joined (x ∷ xs) ys = rw (append_assoc, each-joined xs ys)

one_more : (xs : List Change) (i : ℕ) (d : Change) → i < length xs
    → each change_text (take (i + 1) xs) ≡ each change_text (take i xs) ++ change_text (get_or xs i d)
one_more xs i d h =
    rw (add-one, take-suc xs i d h, each-joined) (ap (λ (t : List ℕ). each change_text (take i xs) ++ t) (append-nil (change_text (get_or xs i d))))

-- one change more is written
pub next_change : {first middle last : List ℕ} {at o p : ℕ} (xs : List Change) (i : ℕ) (d : Change) → i < length xs
    → Wrote (most_change * i) first middle at o (each change_text (take i xs)) → Wrote most_change middle last o p (change_text (get_or xs i d))
    → Wrote (most_change * (i + 1)) first last at p (each change_text (take (i + 1) xs))
next_change xs i d h done one = written (sym (one_more xs i d h)) (widen (omega arith) (then done one))

-- and it fits
pub next_fit : (xs : List Change) (i : ℕ) (d : Change) → i < length xs → list_all fits_change (take i xs) ≡ true → fits_change (get_or xs i d) ≡ true
    → list_all fits_change (take (i + 1) xs) ≡ true
next_fit xs i d h before one = rw (add-one, take-suc xs i d h) (all-joined fits_change (take i xs) (get_or xs i d ∷ []) before (rw one))
