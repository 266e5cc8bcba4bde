-- An event is read back where it was written.
use Prim.Native.Nat.{ℕ, ◌+◌, ◌*◌, ◌/◌, ◌<◌}
use native.Mathlib.Omega.{arith}
use mathlib.Core.Path.{◌≡◌, refl, ap, sym, ◌∙◌}
use mathlib.Core.Bool.{true}
use mathlib.Core.List.{List, ◌++◌, append_assoc}
use lib.Dec.{lit<}
use lib.ListN.{length, length-append, get_or}
use native.Mathlib.Nat.{add-zero}
use Rattle.lists.proofs.BoolLaws.{and_parts}
use Rattle.library.specs.Bytes.{u16_at}
use Rattle.model.specs.declared.Event.{Event}
use Rattle.model.specs.declared.Origin.{Origin}
use Rattle.model.specs.declared.Origin.TheVariants.{External, Goal}
use Rattle.image.specs.declared.form.Form.{Form}
use Rattle.image.specs.Words.{words_bytes, long_at, number_bytes, number_at, holds_number}
use Rattle.image.specs.EventImage.{origin_code, origin_state, origin_branch, origin_number, origin_of, kind_of, is_kind, is_event_storable}
use Rattle.image.specs.EventImage.{event_fields, event_size, event_words, event_bytes, event_at}
use Rattle.image.proofs.WordLaws.{word_at, number_at_lem, length-number}
use Rattle.image.proofs.CodecLaws.{Codec}

same_origin_lem : (origin : Origin) → origin_of (origin_code origin) (origin_state origin) (origin_branch origin) (origin_number origin) ≡ origin
same_origin_lem (External n) = refl
same_origin_lem (Goal i s b) = refl

module _ (form : Form) (before after : List ℕ) (e : Event) where
  abbrev number : List ℕ
  number = number_bytes form (origin_number e.origin)

  abbrev image : List ℕ
  image = before ++ ((words_bytes (event_words e) ++ number) ++ after)

  at_words : image ≡ before ++ (words_bytes (event_words e) ++ (number ++ after))
  at_words = simp append_assoc

  at_number : image ≡ (before ++ words_bytes (event_words e)) ++ (number ++ after)
  at_number = simp append_assoc

  word : (i : ℕ) → i < 10 → u16_at image (length before + 2 * i) ≡ get_or (event_words e) i 0
  word i h = ap (λ (l : List ℕ). u16_at l (length before + 2 * i)) at_words ∙ word_at before (event_words e) (number ++ after) i h

  pub event_back : is_event_storable form e ≡ true → event_at form (before ++ (event_bytes form e ++ after)) (length before) ≡ e
  unfolding event_bytes event_at
  event_back h =
      let goods = and_parts (is_kind e) (holds_number form (origin_number e.origin)) h in
      let code : u16_at image (length before) ≡ origin_code e.origin =
      ap (u16_at image) (sym (add-zero (length before))) ∙ word 0 (lit< tt) in
      let state = word 1 (lit< tt) in
      let branch = word 2 (lit< tt) in
      let there : length before + event_fields ≡ length (before ++ words_bytes (event_words e)) =
      sym (length-append before (words_bytes (event_words e))) in
      let own : number_at form image (length before + event_fields) ≡ origin_number e.origin =
      ap (number_at form image) there ∙ ap (λ (l : List ℕ). number_at form l (length (before ++ words_bytes (event_words e)))) at_number
      ∙ number_at_lem form (before ++ words_bytes (event_words e)) after (origin_number e.origin) goods.1 in
      let origin = (λ i. origin_of (code i) (state i) (branch i) (own i)) ∙ same_origin_lem e.origin in
      let kind : kind_of (u16_at image (length before + 6)) ≡ e.kind = ap kind_of (word 3 (lit< tt)) ∙ rw goods.0 in
      let head : u16_at image (length before + 8) ≡ e.literal.head = word 4 (lit< tt) in
      let first : u16_at image (length before + 8 + 2) ≡ e.literal.first = ap (u16_at image) (omega arith) ∙ word 5 (lit< tt) in
      let second : u16_at image (length before + 8 + 4) ≡ e.literal.second = ap (u16_at image) (omega arith) ∙ word 6 (lit< tt) in
      let third : u16_at image (length before + 8 + 6) ≡ e.literal.third = ap (u16_at image) (omega arith) ∙ word 7 (lit< tt) in
      let high : u16_at image (length before + 16 + 2) ≡ e.failed / 65536 = ap (u16_at image) (omega arith) ∙ word 9 (lit< tt) in
      let failed : long_at image (length before + 16) ≡ e.failed = rw (word 8 (lit< tt), high) (omega arith) in
      λ i. record {
        origin = origin i;
        kind = kind i;
        literal = record { head = head i; first = first i; second = second i; third = third i };
        failed = failed i;
      }

pub length_event : (form : Form) (e : Event) → length (event_bytes form e) ≡ event_size form
unfolding event_bytes
length_event form e =
    length-append (words_bytes (event_words e)) (number_bytes form (origin_number e.origin))
    ∙ ap (λ (n : ℕ). event_fields + n) (length-number form (origin_number e.origin))

pub event_codec : (form : Form) → Codec Event (event_bytes form) (event_at form) (λ bytes at. event_size form) (is_event_storable form)
event_codec form = record { back = event_back form; sized = λ before after e k. sym (length_event form e) }
