-- Laws of saving: the two refusals, and the image in the buffer.
use Prim.Native.Nat.{ℕ, ◌≤◌, ◌<◌}
use native.Mathlib.Omega.{arith}
use mathlib.Core.Path.{◌≡◌, refl, ap, sym, ◌∙◌}
use mathlib.Core.Bool.{true}
use mathlib.Core.List.{List, ◌++◌}
use lib.Dec.{leb}
use lib.ListN.{length, take, drop}
use lib.Seq.{length-take-le}
use borrow.Author.Tests.{le-leb, lt-leb}
use Rattle.writing.specs.Writing.{Wrote}
use Rattle.writing.proofs.WritingLaws.{whole}
use Rattle.load.specs.declared.Agent.{Agent}
use Rattle.load.specs.Load.{bytes_of, is_well_formed_agent}
use Rattle.image.specs.Form.{newest}
use Rattle.image.specs.Writes.{WritesImage}
use Rattle.image.specs.Saves.{image_of_agent, save_refusal, Saved}

module _ (a : Agent) (scratch before : List ℕ) (n : ℕ) (formed : is_well_formed_agent a ≡ true)
    (w : WritesImage newest (bytes_of a) a.state scratch n) where
  size_is : length (image_of_agent a) ≡ n
  size_is = ap length (sym w.image) ∙ length-take-le n scratch w.room

  pub short : length before < n → 13 ≡ save_refusal a (length before)
  short low = rw (formed, lt-leb (length (image_of_agent a)) (length before) (omega (arith, size_is))) refl

  pub saved : {m next : ℕ} {after : List ℕ} → n ≤ length before → m ≤ n → Wrote m before after 0 next (take n scratch)
      → Saved a before after n
  saved {m} {next} {after} room low p =
      let fits : leb (length (image_of_agent a)) (length before) ≡ true =
      le-leb (length (image_of_agent a)) (length before) (omega (arith, size_is)) in
      let text : take n scratch ≡ image_of_agent a = w.image in
      let past : next ≡ length (image_of_agent a) = omega (arith, p.past, ap length text) in
      record {
        accepted = rw (formed, fits) refl;
        image =
            whole (omega (arith, room)) p ∙ ap (λ (t : List ℕ). t ++ drop next before) text
            ∙ ap (λ (k : ℕ). image_of_agent a ++ drop k before) past;
        size = sym size_is;
      }
