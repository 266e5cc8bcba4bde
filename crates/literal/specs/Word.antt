-- A literal's eight bytes as one number.
-- Private vocabulary: no public contract rests on this file.
use Rattle.std.specs.Prelude.{ℕ, ◌+◌, ◌*◌}
use Rattle.literal.specs.declared.Literal.{Literal}

-- the head lowest, then its terms in order
unfoldable pub word : Literal → ℕ
word l = ((l.third * 65536 + l.second) * 65536 + l.first) * 65536 + l.head
