-- The forms of an image (docs/IMAGE-FORMAT.md, "Forms"; document 02, request 5): the older has numbers of 16 bits, the newest of 32.
use Rattle.std.specs.Prelude.{ℕ}
use Rattle.image.specs.declared.form.Form.{Form}
use Rattle.image.specs.declared.form.Form.TheVariants.{Narrow, Wide}

-- the form that is saved
abbrev pub newest : Form
newest = Wide

-- how many bytes the number of an external event or of an instance has
abbrev pub number_size : Form → ℕ
number_size Narrow = 2
number_size Wide = 4

-- how many bodies there are: in the newest form one more, the number width
abbrev pub body_count : Form → ℕ
body_count Narrow = 5
body_count Wide = 6

-- the number width, in bits
abbrev pub number_width : ℕ
number_width = 32
