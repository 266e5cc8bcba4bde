-- What is read of a file: a count of bytes stays within the buffer.
use Rattle.std.specs.Prelude.{ℕ, ◌≤◌, ◌<◌, List, length, take, Option, Result, IfOk, IfSome}
use Rattle.std.specs.Io.KnownBytes.{Consumes, IsAtEnd}
use Rattle.std.specs.declared.io.Error.{Error}

abbrev pub Holds : Result (Option ℕ) Error → List ℕ → Type 0
Holds read buf = IfOk read (λ found. IfSome found (λ n. n ≤ length buf))

-- of a file that has these bytes left before it is read, and these after: all of them are read, or as many as the buffer holds
abbrev pub HoldsAll : Result (Option ℕ) Error → Option (List ℕ) → Option (List ℕ) → List ℕ → Type 0
HoldsAll read old new buf = IfOk read (λ found. IfSome found (λ n. Consumes old new (take n buf) × (n < length buf → IsAtEnd new)))
