-- What is written of an agent is read back, and bytes that are accepted as an image are the image of what they say.
use Prim.Native.Nat.{ℕ, ◌+◌, ◌*◌, ◌<◌, ◌≤◌, min}
use native.Mathlib.Omega.{arith}
use mathlib.Core.Path.{◌≡◌, refl, ap, ap₂, sym, ◌∙◌}
use mathlib.Core.Bool.{Bool, true, cond}
use mathlib.Core.List.{List, [], ◌∷◌, ◌++◌, append_assoc}
use lib.Dec.{leb, eqb, lit<}
use lib.ListN.{length, length-append, get_or}
use lib.Seq.{take_at, drop_at}
use borrow.Author.Tests.{le-leb, leb-true}
use Rattle.lists.specs.Counts.{each}
use Rattle.std.specs.List.{list_all}
use Rattle.lists.proofs.BoolLaws.{and_parts, and_both}
use Rattle.literal.specs.declared.Literal.{Literal}
use Rattle.belief.specs.Beliefs.{most_beliefs}
use Rattle.library.specs.Bytes.{u16_at, literal_at}
use Rattle.accepted.specs.Refusal.{most_bytes}
use Rattle.model.specs.State.{most_queued, most_stacks, Intention, AgentState}
use Rattle.state.specs.View.{most_below}
use Rattle.image.specs.declared.form.Form.{Form}
use Rattle.image.specs.declared.form.Form.TheVariants.{Narrow, Wide}
use Rattle.image.specs.Form.{newest, number_size, body_count}
use Rattle.image.specs.Words.{word_size, words_bytes, number_bytes, number_at, holds_number}
use Rattle.image.specs.BeliefImage.{literal_size, most_beliefs_size, literal_words, literal_bytes, beliefs_bytes, beliefs_at}
use Rattle.image.specs.EventImage.{is_event_storable, event_size, most_events_size, event_bytes, events_bytes, events_at}
use Rattle.image.specs.StackImage.{is_stack_storable, stack_size, most_stacks_size, stack_bytes, stacks_bytes, stacks_at}
use Rattle.image.specs.Image.{contents_size, entries_from, counts_bytes, width_bodies, image_as, image_of, can_hold, most_image}
use Rattle.image.specs.Image.{offset_in, length_in, form_in, library_as, state_as, library_in, state_in, is_image}
use Rattle.image.proofs.WordLaws.{word_at, word_first, number_at_lem, length-number, length-bytes}
use Rattle.image.proofs.CodecLaws.{Codec, rows_back, list_back, list_few}
use Rattle.image.proofs.SameLaws.{same_equal, equal_same}
use Rattle.image.proofs.EventLaws.{length_event, event_codec}
use Rattle.image.proofs.StackLaws.{stack_codec, stack-length}

-- ---- Literals

literal_back : (before after : List ℕ) (l : Literal) → literal_at (before ++ (literal_bytes l ++ after)) (length before) ≡ l
literal_back before after l =
    let words = literal_words l in
    let head = word_first before words after (lit< tt) in
    let first = word_at before words after 1 (lit< tt) in
    let second = word_at before words after 2 (lit< tt) in
    let third = word_at before words after 3 (lit< tt) in
    λ i. record { head = head i; first = first i; second = second i; third = third i }

abbrev any : Literal → Bool
any l = true

literal_codec : Codec Literal literal_bytes literal_at (λ bytes at. literal_size) any
literal_codec = record { back = λ before after l k. literal_back before after l; sized = λ before after l k. refl }

all_any : (ls : List Literal) → list_all any ls ≡ true
all_any [] = refl
all_any (l ∷ ls) = all_any ls

-- ---- What an image can hold, part by part

pub record Storable (form : Form) (library : List ℕ) (s : AgentState) : Type 0 where
  pub size : length library ≤ most_bytes
  pub beliefs : length s.beliefs ≤ most_beliefs
  pub queued : length s.queue ≤ most_queued
  pub events : list_all (is_event_storable form) s.queue ≡ true
  pub stacked : length s.stacks ≤ most_stacks
  pub storable : list_all (is_stack_storable form) s.stacks ≡ true
  pub taken : holds_number form s.taken ≡ true
  pub made : holds_number form s.made ≡ true

module _ (form : Form) (library : List ℕ) (s : AgentState) where
  pub storable_holds : Storable form library s → can_hold form library s ≡ true
  unfolding can_hold
  storable_holds h =
      and_both (leb (length library) most_bytes) _ (le-leb _ _ h.size)
      (and_both (leb (length s.beliefs) most_beliefs) _ (le-leb _ _ h.beliefs)
      (and_both (leb (length s.queue) most_queued) _ (le-leb _ _ h.queued)
      (and_both (list_all (is_event_storable form) s.queue) _ h.events
      (and_both (leb (length s.stacks) most_stacks) _ (le-leb _ _ h.stacked)
      (and_both (list_all (is_stack_storable form) s.stacks) _ h.storable
      (and_both (holds_number form s.taken) (holds_number form s.made) h.taken h.made))))))

  pub holds_storable : can_hold form library s ≡ true → Storable form library s
  unfolding can_hold
  holds_storable e =
      let a = and_parts (leb (length library) most_bytes) _ e in
      let b = and_parts (leb (length s.beliefs) most_beliefs) _ a.1 in
      let c = and_parts (leb (length s.queue) most_queued) _ b.1 in
      let d = and_parts (list_all (is_event_storable form) s.queue) _ c.1 in
      let f = and_parts (leb (length s.stacks) most_stacks) _ d.1 in
      let g = and_parts (list_all (is_stack_storable form) s.stacks) _ f.1 in
      let k = and_parts (holds_number form s.taken) (holds_number form s.made) g.1 in
      record {
        size = leb-true _ _ a.0;
        beliefs = leb-true _ _ b.0;
        queued = leb-true _ _ c.0;
        events = d.0;
        stacked = leb-true _ _ f.0;
        storable = g.0;
        taken = k.0;
        made = k.1;
      }

-- ---- The whole

-- how many words the contents have
table_words : (form : Form) (at : ℕ) → 10 + length (entries_from at (width_bodies form)) ≡ word_size * body_count form
table_words Narrow at = refl
table_words Wide at = refl

-- the form by where the library begins
form_by : (form : Form) (offset : ℕ) → offset ≡ contents_size form → cond (eqb offset (contents_size Narrow)) Narrow Wide ≡ form
form_by Narrow offset e = rw e
form_by Wide offset e = rw e

module _ (form : Form) (library : List ℕ) (s : AgentState) where
  abbrev beliefs : List ℕ
  beliefs = beliefs_bytes s.beliefs

  abbrev events : List ℕ
  events = events_bytes form s.queue

  abbrev stacks : List ℕ
  stacks = stacks_bytes form s.stacks

  abbrev counts : List ℕ
  counts = counts_bytes form s.taken s.made

  abbrev width : List ℕ
  width = each (λ body. body) (width_bodies form)

  abbrev table : List ℕ
  table = entries_from (contents_size form) (library ∷ beliefs ∷ events ∷ stacks ∷ counts ∷ width_bodies form)

  abbrev bodies : List ℕ
  bodies = library ++ (beliefs ++ (events ++ (stacks ++ (counts ++ width))))

  abbrev image : List ℕ
  image = words_bytes table ++ bodies

  size-table : length (words_bytes table) ≡ contents_size form
  size-table =
      let past = contents_size form + length library + length beliefs + length events + length stacks + length counts in
      omega (arith, length-bytes table, table_words form past)

  entry_at : (i : ℕ) → i < 10 → u16_at image (2 * i) ≡ get_or table i 0
  entry_at i low = ap (u16_at image) (omega arith) ∙ word_at [] table bodies i (omega (arith, low))

  -- what stands before each body

  abbrev before_beliefs : List ℕ
  before_beliefs = words_bytes table ++ library

  abbrev before_events : List ℕ
  before_events = before_beliefs ++ beliefs

  abbrev before_stacks : List ℕ
  before_stacks = before_events ++ events

  abbrev before_counts : List ℕ
  before_counts = before_stacks ++ stacks

  abbrev before_made : List ℕ
  before_made = before_counts ++ number_bytes form s.taken

  -- and where it begins

  beliefs_here : offset_in image 1 ≡ length before_beliefs
  beliefs_here = entry_at 2 (lit< tt) ∙ sym (length-append (words_bytes table) library ∙ ap (λ (n : ℕ). n + length library) size-table)

  events_here : offset_in image 2 ≡ length before_events
  events_here =
      entry_at 4 (lit< tt) ∙ sym (length-append before_beliefs beliefs
      ∙ ap (λ (n : ℕ). n + length beliefs) (sym beliefs_here ∙ entry_at 2 (lit< tt)))

  stacks_here : offset_in image 3 ≡ length before_stacks
  stacks_here =
      entry_at 6 (lit< tt) ∙ sym (length-append before_events events
      ∙ ap (λ (n : ℕ). n + length events) (sym events_here ∙ entry_at 4 (lit< tt)))

  counts_here : offset_in image 4 ≡ length before_counts
  counts_here =
      entry_at 8 (lit< tt) ∙ sym (length-append before_stacks stacks
      ∙ ap (λ (n : ℕ). n + length stacks) (sym stacks_here ∙ entry_at 6 (lit< tt)))

  at_beliefs : image ≡ before_beliefs ++ (beliefs ++ (events ++ (stacks ++ (counts ++ width))))
  at_beliefs = sym (append_assoc (words_bytes table) library (beliefs ++ (events ++ (stacks ++ (counts ++ width)))))

  at_events : image ≡ before_events ++ (events ++ (stacks ++ (counts ++ width)))
  at_events = at_beliefs ∙ sym (append_assoc before_beliefs beliefs (events ++ (stacks ++ (counts ++ width))))

  at_stacks : image ≡ before_stacks ++ (stacks ++ (counts ++ width))
  at_stacks = at_events ∙ sym (append_assoc before_events events (stacks ++ (counts ++ width)))

  at_taken : image ≡ before_counts ++ (number_bytes form s.taken ++ (number_bytes form s.made ++ width))
  at_taken = simp append_assoc

  at_made : image ≡ before_made ++ (number_bytes form s.made ++ width)
  at_made = simp append_assoc

  form_back : form_in image ≡ form
  unfolding form_in
  form_back = form_by form (offset_in image 0) (entry_at 0 (lit< tt))

  module _ (h : Storable form library s) where
    taken_back : number_at form image (offset_in image 4) ≡ s.taken
    taken_back =
        ap₂ (number_at form) at_taken counts_here ∙ number_at_lem form before_counts (number_bytes form s.made ++ width) s.taken h.taken

    made_back : number_at form image (offset_in image 4 + number_size form) ≡ s.made
    made_back =
        let there : offset_in image 4 + number_size form ≡ length before_made =
        omega (arith, counts_here, length-append before_counts (number_bytes form s.taken), length-number form s.taken) in
        ap₂ (number_at form) at_made there ∙ number_at_lem form before_made width s.made h.made

    library_back : library_as form image ≡ library
    unfolding library_as
    library_back =
        let n : min (length_in image 0) most_bytes ≡ length library = omega (arith, entry_at 1 (lit< tt), h.size) in
        rw (n, drop_at (words_bytes table) bodies (contents_size form) size-table)
        (take_at library (beliefs ++ (events ++ (stacks ++ (counts ++ width)))) (length library) refl)

    beliefs_back : beliefs_at image (offset_in image 1) ≡ s.beliefs
    unfolding beliefs_at beliefs_bytes
    beliefs_back =
        ap (beliefs_at image) beliefs_here
        ∙ list_back literal_codec most_beliefs before_beliefs (events ++ (stacks ++ (counts ++ width))) s.beliefs h.beliefs
        (all_any s.beliefs) image at_beliefs

    events_back : events_at form image (offset_in image 2) ≡ s.queue
    unfolding events_at events_bytes
    events_back =
        ap (events_at form image) events_here
        ∙ list_back (event_codec form) most_queued before_events (stacks ++ (counts ++ width)) s.queue h.queued
        h.events image at_events

    stacks_back : stacks_at form image (offset_in image 3) ≡ s.stacks
    unfolding stacks_at stacks_bytes
    stacks_back =
        ap (stacks_at form image) stacks_here
        ∙ rows_back (stack_codec form) most_stacks before_stacks (counts ++ width) s.stacks h.stacked h.storable image at_stacks

    -- the form, the library and the state
    pub image_form : form_in (image_as form library s) ≡ form
    unfolding image_as
    image_form = form_back

    pub image_library : library_in (image_as form library s) ≡ library
    unfolding image_as
    image_library = ap (λ (f : Form). library_as f image) form_back ∙ library_back

    pub image-state : state_in (image_as form library s) ≡ s
    unfolding image_as state_as
    image-state =
        ap (λ (f : Form). state_as f image) form_back
        ∙ (λ i. record {
          beliefs = beliefs_back i;
          queue = events_back i;
          stacks = stacks_back i;
          taken = taken_back i;
          made =
              made_back i;
        })

-- ---- How many bytes an image of the newest form has

module _ (library : List ℕ) (s : AgentState) (h : Storable newest library s) where
  beliefs-few : length (beliefs_bytes s.beliefs) ≤ most_beliefs_size
  unfolding beliefs_bytes
  beliefs-few = list_few literal_bytes literal_size any (λ l k. omega arith) most_beliefs s.beliefs h.beliefs (all_any s.beliefs)

  events-few : length (events_bytes newest s.queue) ≤ most_events_size
  unfolding events_bytes
  events-few =
      list_few (event_bytes newest) (event_size newest) (is_event_storable newest) (λ e k. omega (arith, length_event newest e)) most_queued
      s.queue
      h.queued h.events

  stack-few : (stack : Intention) → is_stack_storable newest stack ≡ true → length (stack_bytes newest stack) ≤ stack_size newest most_below
  stack-few stack k =
      let few = leb-true (length stack.below) most_below (and_parts (leb (length stack.below) most_below) _ k).0 in
      omega (arith, stack-length newest [] [] stack k, few)

  stacks-few : length (stacks_bytes newest s.stacks) ≤ most_stacks_size
  unfolding stacks_bytes
  stacks-few =
      list_few (stack_bytes newest) (stack_size newest most_below) (is_stack_storable newest) stack-few most_stacks s.stacks h.stacked
      h.storable

  -- no image is larger than the largest
  pub image-few : length (image_of library s) ≤ most_image
  unfolding image_as
  image-few =
      let own-events = events_bytes newest s.queue in
      let own-stacks = stacks_bytes newest s.stacks in
      let Counts-of = counts_bytes newest s.taken s.made in
      let rest = Counts-of ++ each (λ body. body) (width_bodies newest) in
      let parts = library ∷ beliefs_bytes s.beliefs ∷ own-events ∷ own-stacks ∷ Counts-of ∷ width_bodies newest in
      let same : length (each (λ (body : List ℕ). body) parts) ≡ length (bodies newest library s) = refl in
      let rest-size : length rest ≡ number_size newest + number_size newest + word_size = omega (
        arith,
        length-append Counts-of (each (λ body. body) (width_bodies newest)),
        length-append (number_bytes newest s.taken) (number_bytes newest s.made),
        length-number newest s.taken,
        length-number newest s.made,
      ) in
      omega (
        arith,
        same,
        rest-size,
        length-append (words_bytes (table newest library s)) (bodies newest library s),
        size-table newest library s,
        length-append library (beliefs_bytes s.beliefs ++ (own-events ++ (own-stacks ++ rest))),
        length-append (beliefs_bytes s.beliefs) (own-events ++ (own-stacks ++ rest)),
        length-append own-events (own-stacks ++ rest),
        length-append own-stacks rest,
        h.size,
        beliefs-few,
        events-few,
        stacks-few,
      )

-- ---- Images

-- any bytes that are an image are the image of what they say, in their form
pub image_again : (image : List ℕ) → is_image image ≡ true → image_as (form_in image) (library_in image) (state_in image) ≡ image
unfolding is_image
image_again image h = sym (same_equal image (image_as (form_in image) (library_in image) (state_in image)) h)

-- what is written is an image
pub saved_image : (form : Form) (library : List ℕ) (s : AgentState) → Storable form library s → is_image (image_as form library s) ≡ true
unfolding is_image
saved_image form library s h =
    rw (image_library form library s h, image-state form library s h, image_form form library s h) (equal_same (image_as form library s))
