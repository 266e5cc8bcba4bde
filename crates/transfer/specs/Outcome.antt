-- What comes of a read or a write (POSIX's read, write and errno, with the numbers that Linux gives EINTR and EAGAIN).
-- 0 bytes read are the input's end, and nothing else is: a call that failed has moved nothing and ended nothing.
use Rattle.std.specs.Prelude.{◌≡◌, ◌<◌, ℕ, ℤ, pos, negsuc, cond, eqb, ⊤, Option, None, Some, Result, Ok, Err}
use Rattle.std.specs.IoError.{raw_os_error}
use Rattle.std.specs.declared.io.Error.{Error}
use Rattle.std.specs.declared.io.ErrorKind.{ErrorKind}
use Rattle.std.specs.declared.io.ErrorKind.TheVariants as kind
use Rattle.transfer.specs.declared.outcome.Retry.{Retry}
use Rattle.transfer.specs.declared.outcome.Retry.TheVariants.{AtOnce, AfterPause}

abbrev pub interrupted : ℕ
interrupted = 4

abbrev pub would_block : ℕ
would_block = 11

-- whether a call that failed with an error of this number is made again
unfoldable pub again_after : ℤ → Option Retry
again_after (pos error) = cond (eqb error interrupted) (Some AtOnce) (cond (eqb error would_block) (Some AfterPause) None)
again_after (negsuc error) = None

-- nothing where the call is made again, else its error
abbrev pub settled_by : Option Retry → Error → Result ⊤ Error
settled_by (Some retry) error = Ok tt
settled_by None error = Err error

-- ---- What std answers, as the numbers above

-- the system's number, or 0 of an error that the library made itself
abbrev pub number_or_0 : Option ℤ → ℤ
number_or_0 None = pos 0
number_or_0 (Some number) = number

abbrev pub error_number : Error → ℤ
error_number error = number_or_0 (raw_os_error error)

-- what a write answered, and what it counts as: one that takes nothing counts as one that would block
abbrev pub OrWouldBlock : Result ℕ Error → Result ℕ Error → Type 0
OrWouldBlock (Ok n) (Ok m) = (m ≡ n) × (0 < n)
OrWouldBlock (Ok n) (Err error) = (n ≡ 0) × (error_number error ≡ pos would_block)
OrWouldBlock (Err error) (Ok m) = ⊥
OrWouldBlock (Err error) (Err same) = same ≡ error

-- ---- The kinds that std gives these numbers

-- whether they ask for the call to be made again
abbrev pub again_at : ErrorKind → Option Retry
again_at kind.Interrupted = Some AtOnce
again_at kind.WouldBlock = Some AfterPause
again_at _ = None
