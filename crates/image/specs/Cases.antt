-- The page's example, byte by byte, in both forms, and images with the refusal that each gets (docs/IMAGE-FORMAT.md, "An example",
-- "The older form", "Restoring: 12, then 10"; document 02, requests 3 and 5).
use Rattle.std.specs.Prelude.{ℕ, Bool, List, [], ◌∷◌, ◌++◌, eqb, take, set}
use Rattle.literal.specs.declared.Literal.{Literal}
use Rattle.library.specs.Layout.{library_of}
use Rattle.accepted.specs.Cases.{journal_library}
use Rattle.model.specs.State.{AgentState, report, cycle}
use Rattle.model.specs.Calls.{loaded}
use Rattle.model.specs.Run.{run, final_of}
use Rattle.image.specs.Image.{image_refusal}

-- ---- The agent of the library of 58 bytes after P 0 +1 5 0 0, C, C

abbrev reported : Literal
reported = record { head = 1; first = 5; second = 0; third = 0 }

abbrev start : AgentState
start = loaded (library_of journal_library)

unfoldable pub page_state : AgentState
page_state = final_of start (run (library_of journal_library) start (report 0 reported ∷ cycle ∷ cycle ∷ []))

-- ---- Its image, as the page has it: library, beliefs, events, stacks, counts, and the number width

abbrev page_contents : List ℕ
page_contents =
    24 ∷ 0 ∷ 58 ∷ 0 ∷ 82 ∷ 0 ∷ 10 ∷ 0 ∷ 92 ∷ 0 ∷ 26 ∷ 0
    ∷ 118 ∷ 0 ∷ 36 ∷ 0 ∷ 154 ∷ 0 ∷ 8 ∷ 0 ∷ 162 ∷ 0 ∷ 2 ∷ 0 ∷ []

abbrev page_beliefs : List ℕ
page_beliefs = 1 ∷ 0 ∷ 1 ∷ 0 ∷ 5 ∷ 0 ∷ 0 ∷ 0 ∷ 0 ∷ 0 ∷ []

-- the events before the number of the one that is there
abbrev page_event : List ℕ
page_event =
    1 ∷ 0 ∷ 0 ∷ 0 ∷ 0 ∷ 0 ∷ 0 ∷ 0 ∷ 0 ∷ 0
    ∷ 1 ∷ 0 ∷ 5 ∷ 0 ∷ 0 ∷ 0 ∷ 0 ∷ 0 ∷ 0 ∷ 0 ∷ 0 ∷ 0 ∷ []

-- the instance before its id
abbrev page_instance : List ℕ
page_instance =
    0 ∷ 0 ∷ 0 ∷ 0 ∷ 1 ∷ 0 ∷ 1 ∷ 0
    ∷ 5 ∷ 0 ∷ 249 ∷ 255 ∷ 250 ∷ 255 ∷ 251 ∷ 255 ∷ 252 ∷ 255 ∷ 253 ∷ 255 ∷ 254 ∷ 255 ∷ 255 ∷ 255 ∷ []

-- the number 1
abbrev one : List ℕ
one = 1 ∷ 0 ∷ 0 ∷ 0 ∷ []

abbrev page_stacks : List ℕ
page_stacks = 1 ∷ 0 ∷ 1 ∷ 0 ∷ (one ++ (page_instance ++ one))

unfoldable pub page_image : List ℕ
page_image =
    page_contents
    ++ (journal_library ++ (page_beliefs ++ (page_event ++ (one ++ (page_stacks ++ (one ++ (one ++ (32 ∷ 0 ∷ []))))))))

-- ---- Its image of the older form

abbrev older_contents : List ℕ
older_contents =
    20 ∷ 0 ∷ 58 ∷ 0 ∷ 78 ∷ 0 ∷ 10 ∷ 0 ∷ 88 ∷ 0 ∷ 24 ∷ 0
    ∷ 112 ∷ 0 ∷ 32 ∷ 0 ∷ 144 ∷ 0 ∷ 4 ∷ 0 ∷ []

abbrev short_one : List ℕ
short_one = 1 ∷ 0 ∷ []

abbrev older_stacks : List ℕ
older_stacks = 1 ∷ 0 ∷ 1 ∷ 0 ∷ (short_one ++ (page_instance ++ short_one))

unfoldable pub older_image : List ℕ
older_image =
    older_contents ++ (journal_library ++ (page_beliefs ++ (page_event ++ (short_one ++ (older_stacks ++ (short_one ++ short_one))))))

-- ---- Images and their refusals

pub record ImageCase : Type 0 where
  pub bytes : List ℕ
  pub refused : ℕ

abbrev refused_with : ℕ → List ℕ → ImageCase
refused_with refused bytes = record { bytes = bytes; refused = refused }

-- the page's image with another byte at an offset
abbrev changed : ℕ → ℕ → List ℕ
changed at byte = set page_image at byte

-- that of the older form
abbrev older : ℕ → ℕ → List ℕ
older at byte = set older_image at byte

unfoldable pub image_cases : List ImageCase
image_cases =
    refused_with 0 page_image
    -- the page's two examples
    ∷ refused_with 12 (set (changed 12 4) 126 3)
    ∷ refused_with 10 (changed 126 3)
    -- an empty image, one of 23 bytes, a byte too few, a byte too many
    ∷ refused_with 12 []
    ∷ refused_with 12 (take 23 page_image)
    ∷ refused_with 12 (take 163 page_image)
    ∷ refused_with 12 (page_image ++ (0 ∷ []))
    -- an offset and a length off by one
    ∷ refused_with 12 (changed 4 83)
    ∷ refused_with 12 (changed 6 11)
    -- a body that does not fill its length: two beliefs, no events, two stacks
    ∷ refused_with 12 (changed 82 2)
    ∷ refused_with 12 (changed 92 0)
    ∷ refused_with 12 (changed 118 2)
    -- codes: an origin of 2, an external event with a state, a kind of 5, a height of 0, a status of 3, V1 in the place of V2
    ∷ refused_with 12 (changed 94 2)
    ∷ refused_with 12 (changed 96 1)
    ∷ refused_with 12 (changed 100 5)
    ∷ refused_with 12 (changed 120 0)
    ∷ refused_with 12 (changed 132 3)
    ∷ refused_with 12 (changed 138 249)
    -- other widths: 16, 33, 256 + 32
    ∷ refused_with 12 (changed 162 16)
    ∷ refused_with 12 (changed 162 33)
    ∷ refused_with 12 (changed 163 1)
    -- a library that load refuses, a failed plan that is not there, an id that was not made, one that is so by its high bits alone
    ∷ refused_with 10 (changed 24 2)
    ∷ refused_with 10 (changed 110 2)
    ∷ refused_with 10 (changed 150 2)
    ∷ refused_with 10 (changed 152 1)
    -- the older form, just as strictly: a byte too few, a height of 0, V1 in the place of V2; a plan that is not there, an id that was
    -- not made
    ∷ refused_with 0 older_image
    ∷ refused_with 12 (take 19 older_image)
    ∷ refused_with 12 (take 147 older_image)
    ∷ refused_with 12 (older 114 0)
    ∷ refused_with 12 (older 130 249)
    ∷ refused_with 10 (older 118 3)
    ∷ refused_with 10 (older 142 2)
    -- one form with the other's first number, and a first number of neither
    ∷ refused_with 12 (changed 0 20)
    ∷ refused_with 12 (older 0 24)
    ∷ refused_with 12 (older 0 22)
    ∷ []

unfoldable pub is_refused_so : ImageCase → Bool
is_refused_so c = eqb (image_refusal c.bytes) c.refused
