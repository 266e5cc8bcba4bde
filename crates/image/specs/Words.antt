-- Numbers and lists in an image (docs/IMAGE-FORMAT.md; document 02, requests 3 and 5). dMARS has no such schema.
use Rattle.std.specs.Prelude.{ℕ, ◌+◌, ◌*◌, ◌/◌, ◌%◌, min, Bool, true, List, [], ◌∷◌, ◌++◌, ltb, length}
use Rattle.lists.specs.Counts.{each}
use Rattle.library.specs.Bytes.{u16_at, items}
use Rattle.image.specs.declared.form.Form.{Form}
use Rattle.image.specs.declared.form.Form.TheVariants.{Narrow, Wide}

-- ---- Numbers of 16 bits, the low byte first

-- how many bytes one has
abbrev pub word_size : ℕ
word_size = 2

abbrev pub word_bytes : ℕ → List ℕ
word_bytes n = n % 256 ∷ n / 256 ∷ []

-- the bytes of a list of them
abbrev pub words_bytes : List ℕ → List ℕ
words_bytes words = each word_bytes words

-- how many bytes they have
abbrev pub words_size : List ℕ → ℕ
words_size words = word_size * length words

-- ---- Numbers of 32 bits, as two of 16 bits, the low one first

abbrev pub long_words : ℕ → List ℕ
long_words n = n % 65536 ∷ n / 65536 ∷ []

abbrev pub long_at : List ℕ → ℕ → ℕ
long_at bytes at = u16_at bytes at + 65536 * u16_at bytes (at + word_size)

-- ---- The number of an external event or of an instance, and how many there were

-- as numbers of 16 bits
abbrev pub number_words : Form → ℕ → List ℕ
number_words Narrow n = n % 65536 ∷ []
number_words Wide n = long_words n

unfoldable pub number_bytes : Form → ℕ → List ℕ
number_bytes form n = words_bytes (number_words form n)

unfoldable pub number_at : Form → List ℕ → ℕ → ℕ
number_at Narrow bytes at = u16_at bytes at % 65536
number_at Wide bytes at = long_at bytes at

-- whether a form holds a number: the older one those of 16 bits, the newest every one that there is
abbrev pub holds_number : Form → ℕ → Bool
holds_number Narrow n = ltb n 65536
holds_number Wide n = true

-- ---- Offsets

-- what is read of an image stands before this offset: a body begins at 65,535 at most
abbrev pub farthest : ℕ
farthest = 100000

-- ---- Lists: how many items, then them

module _ {A : Type 0} where
  abbrev pub list_bytes : (A → List ℕ) → List A → List ℕ
  list_bytes write xs = word_bytes (length xs) ++ each write xs

  -- items of one size, at most so many
  abbrev pub list_at : (List ℕ → ℕ → A) → ℕ → ℕ → List ℕ → ℕ → List A
  list_at read size most bytes at = items (read bytes) size (min (u16_at bytes at) most) (at + word_size)
