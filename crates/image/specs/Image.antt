-- An agent as bytes (docs/IMAGE-FORMAT.md, "Contents and bodies", "Restoring: 12, then 10"; document 02, requests 3 and 5).
use Rattle.std.specs.Prelude.{ℕ, ◌+◌, ◌*◌, min, Bool, cond, ◌&&◌, List, [], ◌∷◌, ◌++◌, eqb, leb, length, take, drop}
use Rattle.lists.specs.Counts.{each}
use Rattle.std.specs.List.{list_all}
use Rattle.std.specs.Str.{bytes_eq}
use Rattle.belief.specs.Beliefs.{most_beliefs}
use Rattle.library.specs.Bytes.{u16_at}
use Rattle.library.specs.Layout.{library_of}
use Rattle.accepted.specs.Refusal.{stage, refusal_of, most_bytes}
use Rattle.model.specs.State.{most_queued, most_stacks, AgentState}
use Rattle.model.specs.WellFormed.{is_well_formed}
use Rattle.image.specs.declared.form.Form.{Form}
use Rattle.image.specs.declared.form.Form.TheVariants.{Narrow, Wide}
use Rattle.image.specs.Form.{newest, number_size, body_count, number_width}
use Rattle.image.specs.Words.{word_size, word_bytes, words_bytes, number_bytes, number_at, holds_number}
use Rattle.image.specs.BeliefImage.{most_beliefs_size, beliefs_bytes, beliefs_at}
use Rattle.image.specs.EventImage.{is_event_storable, most_events_size, events_bytes, events_at}
use Rattle.image.specs.StackImage.{is_stack_storable, most_stacks_size, stacks_bytes, stacks_at}

-- ---- Contents and bodies

-- an entry of the contents: offset and length
abbrev pub entry_size : ℕ
entry_size = word_size + word_size

-- how many bytes the contents have: an entry for each body
abbrev pub contents_size : Form → ℕ
contents_size form = entry_size * body_count form

-- the entries of bodies that are packed from an offset on
abbrev pub entries_from : ℕ → List (List ℕ) → List ℕ
entries_from at [] = []
entries_from at (body ∷ bodies) = at ∷ length body ∷ entries_from (at + length body) bodies

-- the contents, then the bodies, each where the one before it ends
abbrev pub packed : ℕ → List (List ℕ) → List ℕ
packed from bodies = words_bytes (entries_from from bodies) ++ each (λ body. body) bodies

-- how many bytes the counts have at most
abbrev pub most_counts_size : ℕ
most_counts_size = number_size newest + number_size newest

-- how many external events were taken, and instances made
abbrev pub counts_bytes : Form → ℕ → ℕ → List ℕ
counts_bytes form taken made = number_bytes form taken ++ number_bytes form made

-- the body that the newest form has more
abbrev pub width_bodies : Form → List (List ℕ)
width_bodies Narrow = []
width_bodies Wide = word_bytes number_width ∷ []

-- the image of a library and a state, in a form
unfoldable pub image_as : Form → List ℕ → AgentState → List ℕ
image_as form library s =
    packed (contents_size form)
    (library ∷ beliefs_bytes s.beliefs ∷ events_bytes form s.queue ∷ stacks_bytes form s.stacks
    ∷ counts_bytes form s.taken s.made ∷ width_bodies form)

-- the one that is saved
abbrev pub image_of : List ℕ → AgentState → List ℕ
image_of = image_as newest

-- ---- Limits

-- a library and a state that an image of a form can hold: every list within its limit, every kind and every environment with a code,
-- every number of its width
unfoldable pub can_hold : Form → List ℕ → AgentState → Bool
can_hold form library s =
    leb (length library) most_bytes && (leb (length s.beliefs) most_beliefs
    && (leb (length s.queue) most_queued && (list_all (is_event_storable form) s.queue
    && (leb (length s.stacks) most_stacks && (list_all (is_stack_storable form) s.stacks
    && (holds_number form s.taken && holds_number form s.made))))))

-- how many bytes the largest image has
abbrev pub most_image : ℕ
most_image = contents_size newest + most_bytes + most_beliefs_size + most_events_size + most_stacks_size + most_counts_size + word_size

-- ---- Read back: where the contents say, lists within their limits

-- the offset of a body, the library being body 0
abbrev pub offset_in : List ℕ → ℕ → ℕ
offset_in image body = u16_at image (entry_size * body)

-- its length
abbrev pub length_in : List ℕ → ℕ → ℕ
length_in image body = u16_at image (entry_size * body + word_size)

-- the form, by the first number: where the library begins
unfoldable pub form_in : List ℕ → Form
form_in image = cond (eqb (offset_in image 0) (contents_size Narrow)) Narrow Wide

-- the library and the state of an image of a form

unfoldable pub library_as : Form → List ℕ → List ℕ
library_as form image = take (min (length_in image 0) most_bytes) (drop (contents_size form) image)

unfoldable pub state_as : Form → List ℕ → AgentState
state_as form image =
    record {
      beliefs = beliefs_at image (offset_in image 1);
      queue = events_at form image (offset_in image 2);
      stacks = stacks_at form image (offset_in image 3);
      taken = number_at form image (offset_in image 4);
      made = number_at form image (offset_in image 4 + number_size form);
    }

-- by the form that the image has

abbrev pub library_in : List ℕ → List ℕ
library_in image = library_as (form_in image) image

abbrev pub state_in : List ℕ → AgentState
state_in image = state_as (form_in image) image

-- ---- What is refused

-- the bytes are the image of what is read from them, in its form: each thing has one code, each body one place and one length
unfoldable pub is_image : List ℕ → Bool
is_image image = bytes_eq image (image_as (form_in image) (library_in image) (state_in image))

-- the library is accepted and the state keeps every rule
unfoldable pub is_formed_in : List ℕ → Bool
is_formed_in image = eqb (refusal_of (library_in image)) 0 && is_well_formed (library_of (library_in image)) (state_in image)

-- 12 where the bytes are no image, then 10; 0 where it is accepted
unfoldable pub image_refusal : List ℕ → ℕ
image_refusal image = stage 12 (is_image image) (stage 10 (is_formed_in image) 0)
