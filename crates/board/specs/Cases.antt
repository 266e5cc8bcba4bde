-- Boards with their text (document 02, request 9): one line, two stacks with an instance of each status, and none.
use Rattle.std.specs.Prelude.{ℕ, List, [], ◌∷◌}
use Prim.Native.String as Text
use Prim.Native.String.{String}
use Rattle.model.specs.declared.Instance.{Instance}
use Rattle.model.specs.declared.Status.{Status}
use Rattle.model.specs.declared.Status.TheVariants.{Active, Waiting, Suspended}
use Rattle.model.specs.State.{Intention}

-- stacks in turn order, and their board
pub record Case : Type 0 where
  pub stacks : List Intention
  pub text : String

abbrev instance : ℕ → ℕ → ℕ → ℕ → Status → List ℕ → Instance
instance id plan state tried status terms =
    record { id = id; plan = plan; env = record { terms = terms }; state = state; tried = tried; status = status }

abbrev stack : Instance → List Instance → Intention
stack top below = record { external = 1; top = top; below = below }

-- it waits for the outcome of its first branch; V0 is 5
abbrev waiting : Instance
waiting = instance 1 0 0 1 Waiting (5 ∷ 65529 ∷ 65530 ∷ 65531 ∷ 65532 ∷ 65533 ∷ 65534 ∷ 65535 ∷ [])

-- a poster, with the least constant and the largest, and the instance that serves its goal
abbrev poster : Instance
poster = instance 7 3 15 4 Suspended (0 ∷ 65527 ∷ 65530 ∷ 65531 ∷ 65532 ∷ 65533 ∷ 65534 ∷ 65535 ∷ [])

abbrev server : Instance
server = instance 12 31 2 1 Waiting (40 ∷ 65529 ∷ 300 ∷ 65531 ∷ 65532 ∷ 65533 ∷ 65534 ∷ 9 ∷ [])

-- the longest id, and nothing bound
abbrev newest : Instance
newest = instance 4294967295 0 0 0 Active (65528 ∷ 65529 ∷ 65530 ∷ 65531 ∷ 65532 ∷ 65533 ∷ 65534 ∷ 65535 ∷ [])

abbrev pub table : List Case
table =
    record { stacks = []; text = "" }
    ∷ record {
      stacks = stack waiting [] ∷ [];
      text = "1 1          1  0  0 1 W     5     -     -     -     -     -     -     -\n";
    }
    ∷ record {
      stacks = stack server (poster ∷ []) ∷ stack newest [] ∷ [];
      text = Text.◌++◌ "1 1          7  3 15 4 S     0 65527     -     -     -     -     -     -\n"
          (Text.◌++◌ "1 2         12 31  2 1 W    40     -   300     -     -     -     -     9\n"
          "2 1 4294967295  0  0 0 A     -     -     -     -     -     -     -     -\n");
    }
    ∷ []
