-- Laws of writing: one text after the other, with a larger bound, or nothing; and what the whole buffer holds then.
use Prim.Native.Nat.{ℕ, suc, ◌+◌, ◌-◌, ◌≤◌}
use native.Mathlib.Nat.{add-zero, add-suc, suc-add}
use native.Mathlib.Omega.{arith}
use mathlib.Core.Path.{◌≡◌, refl, sym, ap, ◌∙◌}
use mathlib.Core.List.{List, [], ◌∷◌, ◌++◌, append_assoc}
use lib.ListN.{length, length-append, set, take, drop}
use lib.Seq.{sets, sets-eq, drop-drop}
use borrow.Rule.Slice.PartMut.{put_mid}
use Rattle.writing.specs.Writing.{Wrote}

sets_append : (bytes : List ℕ) (i : ℕ) (s t : List ℕ) → sets (sets bytes i s) (i + length s) t ≡ sets bytes i (s ++ t)
sets_append bytes i [] t = rw add-zero
sets_append bytes i (b ∷ s) t = rw (add-suc, ← suc-add) (sets_append (set bytes i b) (suc i) s t)

-- one text after the other is their join
pub then : {m n : ℕ} {first middle last : List ℕ} {at next end : ℕ} {s t : List ℕ}
    → Wrote m first middle at next s → Wrote n middle last next end t → Wrote (m + n) first last at end (s ++ t)
then {m} {n} {first} {middle} {last} {at} {next} {end} {s} {t} p q = record {
  bytes = q.bytes ∙ (rw (p.bytes, p.past)) ∙ sets_append first at s t;
  past = rw length-append (omega (arith, p.past, q.past));
  within = omega (arith, p.within, q.within);
}

-- nothing is written
pub nothing : {bytes : List ℕ} {at : ℕ} → Wrote 0 bytes bytes at at []
nothing {bytes} {at} = record { bytes = refl; past = sym (add-zero at); within = omega arith }

-- a bound that is larger
pub widen : {m n : ℕ} {before after : List ℕ} {at next : ℕ} {s : List ℕ} → m ≤ n → Wrote m before after at next s → Wrote n before after at next s
widen h p = record { bytes = p.bytes; past = p.past; within = omega (arith, p.within) }

-- another name for the text
pub written : {m : ℕ} {before after : List ℕ} {at next : ℕ} {s t : List ℕ} → s ≡ t → Wrote m before after at next s → Wrote m before after at next t
written e p = rw (← e) p

-- the buffer as three parts: before the text, the text, past it
pub whole : {m : ℕ} {before after : List ℕ} {at next : ℕ} {text : List ℕ} → at + m ≤ length before → Wrote m before after at next text
    → after ≡ take at before ++ text ++ drop next before
whole {m} {before} {after} {at} {next} {text} room p =
    p.bytes ∙ sets-eq text before at (omega (arith, p.past, p.within)) ∙ ap (λ (k : ℕ). take at before ++ text ++ drop k before) (sym p.past)

-- bytes that are copied over a part of the buffer
pub copied : (before bytes : List ℕ) (at : ℕ) → at + length bytes ≤ length before
    → Wrote (length bytes) before (put_mid at (at + length bytes - at) before bytes) at (at + length bytes) bytes
copied before bytes at room = record {
  bytes = let behind : at + (at + length bytes - at) ≡ at + length bytes = omega arith in
      rw (drop-drop, behind, ← append_assoc) (sym (sets-eq bytes before at room));
  past = refl;
  within = omega arith;
}
