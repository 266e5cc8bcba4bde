-- Instances and stacks in an image (docs/IMAGE-FORMAT.md, "A stack", "An instance"; document 02, requests 3 and 5).
use Rattle.std.specs.Prelude.{ℕ, zero, suc, ◌+◌, ◌-◌, ◌*◌, min, Bool, cond, ◌&&◌, List, [], ◌∷◌, ◌++◌, reverse, eqb, leb, length}
use Rattle.lists.specs.Counts.{each}
use Rattle.std.specs.List.{list_all}
use Rattle.literal.specs.declared.Env.{Env}
use Rattle.literal.specs.Literal.{first_variable, is_constant}
use Rattle.literal.specs.Environment.{is_env}
use Rattle.library.specs.Bytes.{u16_at, items}
use Rattle.model.specs.declared.Instance.{Instance}
use Rattle.model.specs.declared.Status.{Status}
use Rattle.model.specs.declared.Status.TheVariants.{Active, Waiting, Suspended}
use Rattle.model.specs.State.{most_stacks, Intention}
use Rattle.model.specs.Turn.{height_of}
use Rattle.state.specs.View.{most_below}
use Rattle.image.specs.declared.form.Form.{Form}
use Rattle.image.specs.Form.{newest, number_size}
use Rattle.image.specs.Words.{word_size, word_bytes, words_bytes, number_bytes, number_at, holds_number, list_bytes}
use Rattle.image.specs.Rows.{row}

-- ---- Status: 0 active, 1 waiting, 2 suspended

abbrev pub status_code : Status → ℕ
status_code Active = 0
status_code Waiting = 1
status_code Suspended = 2

-- what has no status is read as active
abbrev pub status_of : ℕ → Status
status_of code = cond (eqb code 1) Waiting (cond (eqb code 2) Suspended Active)

-- ---- Environments: for each variable its constant, or the variable itself while it is unbound

abbrev pub entry_of : ℕ → ℕ → ℕ
entry_of variable term = cond (is_constant term) term variable

-- n entries from a variable on
unfoldable pub entries_at : List ℕ → ℕ → ℕ → ℕ → List ℕ
entries_at bytes variable zero at = []
entries_at bytes variable (suc n) at = entry_of variable (u16_at bytes at) ∷ entries_at bytes (suc variable) n (at + word_size)

unfoldable pub env_at : List ℕ → ℕ → Env
env_at bytes at = record { terms = entries_at bytes first_variable 8 at }

-- ---- An instance: plan, state, how many branches were tried there, status; the environment; then its id

-- how many bytes stand before its id
abbrev pub instance_fields : ℕ
instance_fields = 24

abbrev pub instance_size : Form → ℕ
instance_size form = instance_fields + number_size form

abbrev pub place_words : Instance → List ℕ
place_words x = x.plan ∷ x.state ∷ x.tried ∷ status_code x.status ∷ []

unfoldable pub instance_bytes : Form → Instance → List ℕ
instance_bytes form x = words_bytes (place_words x) ++ (words_bytes x.env.terms ++ number_bytes form x.id)

unfoldable pub instance_at : Form → List ℕ → ℕ → Instance
instance_at form bytes at =
    record {
      id = number_at form bytes (at + instance_fields);
      plan = u16_at bytes at;
      env = env_at bytes (at + 8);
      state = u16_at bytes (at + 2);
      tried = u16_at bytes (at + 4);
      status = status_of (u16_at bytes (at + 6));
    }

-- its environment has eight entries, each a constant or the variable itself, and the form holds its id
abbrev pub is_storable : Form → Instance → Bool
is_storable form x = is_env x.env && holds_number form x.id

-- ---- A stack: how many instances, the number of the external event, the instances with the lowest first

-- how many bytes stand before its instances
abbrev pub stack_fields : Form → ℕ
stack_fields form = word_size + number_size form

-- the instances with the lowest first
unfoldable pub upward : Intention → List Instance
upward stack = reverse stack.below ++ (stack.top ∷ [])

unfoldable pub stack_bytes : Form → Intention → List ℕ
stack_bytes form stack = word_bytes (height_of stack) ++ (number_bytes form stack.external ++ each (instance_bytes form) (upward stack))

-- at most 7 below the top, every instance storable, and the form holds the external event's number
abbrev pub is_stack_storable : Form → Intention → Bool
is_stack_storable form stack =
    leb (length stack.below) most_below && (list_all (is_storable form) (upward stack) && holds_number form stack.external)

-- how many are below the top
unfoldable pub depth_at : List ℕ → ℕ → ℕ
depth_at bytes at = min (u16_at bytes at - 1) most_below

unfoldable pub stack_at : Form → List ℕ → ℕ → Intention
stack_at form bytes at =
    record {
      external = number_at form bytes (at + word_size);
      top = instance_at form bytes (at + stack_fields form + instance_size form * depth_at bytes at);
      below = reverse (items (instance_at form bytes) (instance_size form) (depth_at bytes at) (at + stack_fields form));
    }

-- how many bytes a stack has with so many instances below its top
abbrev pub stack_size : Form → ℕ → ℕ
stack_size form depth = stack_fields form + instance_size form + instance_size form * depth

unfoldable pub stack_size_at : Form → List ℕ → ℕ → ℕ
stack_size_at form bytes at = stack_size form (depth_at bytes at)

-- ---- The stacks

-- how many bytes they have at most
abbrev pub most_stacks_size : ℕ
most_stacks_size = word_size + stack_size newest most_below * most_stacks

unfoldable pub stacks_bytes : Form → List Intention → List ℕ
stacks_bytes form stacks = list_bytes (stack_bytes form) stacks

unfoldable pub stacks_at : Form → List ℕ → ℕ → List Intention
stacks_at form bytes at = row (stack_at form bytes) (stack_size_at form bytes) (min (u16_at bytes at) most_stacks) (at + word_size)
