-- An event in an image (docs/IMAGE-FORMAT.md, "An event"; document 02, requests 3 and 5).
use Rattle.std.specs.Prelude.{ℕ, ◌+◌, ◌*◌, Bool, cond, ◌&&◌, List, ◌∷◌, ◌++◌, eqb, leb}
use Rattle.library.specs.Bytes.{u16_at, literal_at}
use Rattle.model.specs.declared.Event.{Event}
use Rattle.model.specs.declared.Origin.{Origin}
use Rattle.model.specs.declared.Origin.TheVariants.{External, Goal}
use Rattle.model.specs.State.{most_queued}
use Rattle.image.specs.declared.form.Form.{Form}
use Rattle.image.specs.Form.{newest, number_size}
use Rattle.image.specs.Words.{word_size, words_bytes, long_words, long_at, number_bytes, number_at, holds_number, list_bytes, list_at}
use Rattle.image.specs.BeliefImage.{literal_words}

-- ---- Origins: 0 external, 1 a goal; an external event has 0 for state and branch

abbrev pub origin_code : Origin → ℕ
origin_code (External n) = 0
origin_code (Goal i s b) = 1

abbrev pub origin_state : Origin → ℕ
origin_state (External n) = 0
origin_state (Goal i s b) = s

abbrev pub origin_branch : Origin → ℕ
origin_branch (External n) = 0
origin_branch (Goal i s b) = b

abbrev pub origin_number : Origin → ℕ
origin_number (External n) = n
origin_number (Goal i s b) = i

abbrev pub origin_of : ℕ → ℕ → ℕ → ℕ → Origin
origin_of code state branch number = cond (eqb code 1) (Goal number state branch) (External number)

-- ---- Kinds: 0 belief added, 1 belief removed, 2 told, 3 achieve, 4 query

abbrev pub last_kind : ℕ
last_kind = 4

-- the kind of a code; what has no kind is read as 0
abbrev pub kind_of : ℕ → ℕ
kind_of code = cond (leb code last_kind) code 0

-- its kind has a code
abbrev pub is_kind : Event → Bool
is_kind e = leb e.kind last_kind

-- ---- An event: origin, kind, literal, the plans that have failed for it; then its number

-- how many bytes stand before its number
abbrev pub event_fields : ℕ
event_fields = 20

abbrev pub event_size : Form → ℕ
event_size form = event_fields + number_size form

abbrev pub event_words : Event → List ℕ
event_words e =
    origin_code e.origin ∷ origin_state e.origin ∷ origin_branch e.origin ∷ e.kind
    ∷ (literal_words e.literal ++ long_words e.failed)

unfoldable pub event_bytes : Form → Event → List ℕ
event_bytes form e = words_bytes (event_words e) ++ number_bytes form (origin_number e.origin)

unfoldable pub event_at : Form → List ℕ → ℕ → Event
event_at form bytes at =
    record {
      origin = origin_of (u16_at bytes at) (u16_at bytes (at + 2)) (u16_at bytes (at + 4)) (number_at form bytes (at + event_fields));
      kind = kind_of (u16_at bytes (at + 6));
      literal = literal_at bytes (at + 8);
      failed = long_at bytes (at + 16);
    }

-- its kind has a code, and the form holds its number
abbrev pub is_event_storable : Form → Event → Bool
is_event_storable form e = is_kind e && holds_number form (origin_number e.origin)

-- ---- The queue

-- how many bytes it has at most
abbrev pub most_events_size : ℕ
most_events_size = word_size + event_size newest * most_queued

unfoldable pub events_bytes : Form → List Event → List ℕ
events_bytes form queue = list_bytes (event_bytes form) queue

unfoldable pub events_at : Form → List ℕ → ℕ → List Event
events_at form bytes at = list_at (event_at form) (event_size form) most_queued bytes at
