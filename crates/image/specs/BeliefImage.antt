-- The belief table in an image: a list of literals (docs/IMAGE-FORMAT.md, "Contents and bodies"; document 02, request 3).
use Rattle.std.specs.Prelude.{ℕ, ◌+◌, ◌*◌, List, [], ◌∷◌}
use Rattle.literal.specs.declared.Literal.{Literal}
use Rattle.belief.specs.Beliefs.{most_beliefs}
use Rattle.library.specs.Bytes.{literal_at}
use Rattle.image.specs.Words.{word_size, words_bytes, list_bytes, list_at}

-- how many bytes a literal has
abbrev pub literal_size : ℕ
literal_size = 4 * word_size

-- its head and its three terms
abbrev pub literal_words : Literal → List ℕ
literal_words l = l.head ∷ l.first ∷ l.second ∷ l.third ∷ []

abbrev pub literal_bytes : Literal → List ℕ
literal_bytes l = words_bytes (literal_words l)

-- how many bytes the beliefs have at most
abbrev pub most_beliefs_size : ℕ
most_beliefs_size = word_size + literal_size * most_beliefs

unfoldable pub beliefs_bytes : List Literal → List ℕ
beliefs_bytes beliefs = list_bytes literal_bytes beliefs

unfoldable pub beliefs_at : List ℕ → ℕ → List Literal
beliefs_at bytes at = list_at literal_at literal_size most_beliefs bytes at
