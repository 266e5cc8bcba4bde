-- Laws of reading the parts of an image: the library as far as it is there, and the state from its bodies.
use Prim.Native.Nat.{ℕ, ◌+◌, ◌-◌, ◌<◌, min}
use native.Mathlib.Omega.{arith}
use mathlib.Core.Path.{◌≡◌, ap, ap₂, sym, subst, ◌∙◌}
use mathlib.Core.List.{List, []}
use lib.Dec.{leb}
use lib.ListN.{length, take, drop, length-drop}
use Rattle.std.specs.List.{slice_range}
use Rattle.std.proofs.lemmas.List.{drop_all}
use lib.Seq.{take_all}
use borrow.Author.Tests.{leb-true, leb-false}
use Rattle.lists.proofs.BoolLaws.{by_cases}
use Rattle.belief.specs.Beliefs.{view}
use Rattle.library.specs.Bytes.{u16_at, items}
use Rattle.accepted.specs.Refusal.{most_bytes}
use Rattle.model.specs.State.{most_queued, most_stacks}
use Rattle.state.specs.declared.State.{State}
use Rattle.state.specs.View.{view_queue, view_stacks}
use Rattle.state.proofs.CountParts.{counts_whole}
use Rattle.load.specs.Load.{Holds}
use Rattle.image.specs.declared.form.Form.{Form}
use Rattle.image.specs.Form.{number_size}
use Rattle.image.specs.Words.{word_size, number_at}
use Rattle.image.specs.BeliefImage.{beliefs_at}
use Rattle.image.specs.EventImage.{event_size, event_at, events_at}
use Rattle.image.specs.StackImage.{stacks_at}
use Rattle.image.specs.Image.{contents_size, offset_in, length_in, library_as, state_as}
use Rattle.image.proofs.CodecLaws.{fewer_items}
use Rattle.image.specs.Reads.{ReadsStacks, ReadsState}

-- ---- The library

-- no more can be taken than there are
pub take-least : (n : ℕ) (l : List ℕ) → take (min n (length l)) l ≡ take n l
take-least n l =
    by_cases (leb n (length l)) (λ h. let e : min n (length l) ≡ n = omega (arith, leb-true n (length l) h) in ap (λ (k : ℕ). take k l) e)
    (λ h. let low : length l < n = leb-false n (length l) h in let e : min n (length l) ≡ length l = omega arith in ap
    (λ (k : ℕ). take k l) e ∙ take_all (length l) l (omega arith) ∙ sym (take_all n l (omega arith)))

-- what is taken of it
pub library_taken : (form : Form) (image rest : List ℕ) (from n : ℕ) → from ≡ contents_size form → rest ≡ slice_range image from (length image)
    → n ≡ min (min (length_in image 0) most_bytes) (length rest) → take n rest ≡ library_as form image
unfolding library_as
library_taken form image rest from n begins is e =
    let all_of : rest ≡ drop (contents_size form) image =
    is ∙ take_all (length image - from) (drop from image) (omega (arith, length-drop from image)) ∙ ap (λ (k : ℕ). drop k image) begins in
    ap (λ (k : ℕ). take k rest) e ∙ take-least (min (length_in image 0) most_bytes) rest ∙ ap (take (min (length_in image 0) most_bytes)) all_of

pub library_missing : (form : Form) (image : List ℕ) (from : ℕ) → from ≡ contents_size form → length image < from → [] ≡ library_as form image
unfolding library_as
library_missing form image from begins short =
    sym (ap (take (min (length_in image 0) most_bytes)) (drop_all (contents_size form) image (omega arith)) ∙ take_all (min (length_in image 0) most_bytes) [] (omega arith))

-- ---- The state

pub read-state : (form : Form) (image : List ℕ) (s : State) (b e k c : ℕ) → b ≡ offset_in image 1 → e ≡ offset_in image 2
    → k ≡ offset_in image 3 → c ≡ offset_in image 4
    → Holds (beliefs_at image b) s.beliefs
    → s.queued ≡ min (u16_at image e) most_queued
    → s.queue ≡ items (event_at form image) (event_size form) most_queued (e + word_size)
    → ReadsStacks form image k (record { items = s.stacks; count = s.stacked })
    → s.taken ≡ number_at form image c → s.made ≡ number_at form image (c + number_size form) → ReadsState form image s
unfolding state_as events_at
read-state form image s b e k c pb pe pk pc beliefs queued queue stacks taken made =
    let held : Holds (beliefs_at image (offset_in image 1)) s.beliefs =
    subst (λ (n : ℕ). Holds (beliefs_at image n) s.beliefs) pb beliefs in
    let vb : view s.beliefs ≡ beliefs_at image (offset_in image 1) = held.means in
    let low : min s.queued most_queued ≡ s.queued = omega (arith, queued) in
    let vq : view_queue s ≡ items (event_at form image) (event_size form) (min (u16_at image (offset_in image 2)) most_queued)
    (offset_in image 2 + word_size) =
    ap₂ take low queue ∙ fewer_items (event_at form image) (event_size form) s.queued most_queued (e + word_size) (omega arith) ∙ ap (λ (n : ℕ). items (event_at form image) (event_size form) n (e + word_size)) queued
    ∙ ap (λ (n : ℕ). items (event_at form image) (event_size form) (min (u16_at image n) most_queued) (n + word_size)) pe in
    let few : min s.stacked most_stacks ≡ s.stacked = omega (arith, stacks.few) in
    let vs : view_stacks s ≡ stacks_at form image (offset_in image 3) = rw few stacks.means ∙ ap (stacks_at form image) pk in
    let vt : s.taken ≡ number_at form image (offset_in image 4) = taken ∙ ap (number_at form image) pc in
    let vm : s.made ≡ number_at form image (offset_in image 4 + number_size form) =
    made ∙ ap (λ (n : ℕ). number_at form image (n + number_size form)) pc in
    record {
      means = λ i. record { beliefs = vb i; queue = vq i; stacks = vs i; taken = vt i; made = vm i };
      fit =
          counts_whole s (record {
            beliefs = beliefs.few;
            queued = omega (arith, queued);
            stacked = stacks.few;
            depths = rw few stacks.depths;
          });
      table = held;
    }
