-- What comes of opening a file (POSIX's open and errno, with the number that Linux gives ENOENT).
-- Only that error says that there is no file: one that is there and cannot be opened is never taken for missing.
use Rattle.std.specs.Prelude.{ℕ, ℤ, pos, negsuc, cond, eqb, Option, None, Some, Result, Ok, Err}
use Rattle.std.specs.declared.io.Error.{Error}
use Rattle.std.specs.declared.io.ErrorKind.{ErrorKind}
use Rattle.std.specs.declared.io.ErrorKind.TheVariants as kind
use Rattle.transfer.specs.Outcome.{error_number}

abbrev pub no_such_file : ℕ
no_such_file = 2

-- by the error's number, and the error
unfoldable pub not_opened : {F : Type 0} → ℤ → Error → Result (Option F) Error
not_opened (pos number) error = cond (eqb number no_such_file) (Ok None) (Err error)
not_opened (negsuc number) error = Err error

abbrev pub opened_by : {F : Type 0} → Result F Error → Result (Option F) Error
opened_by (Ok file) = Ok (Some file)
opened_by (Err error) = not_opened (error_number error) error

-- ---- By the kind that std gives ENOENT

abbrev pub not_opened_at : {F : Type 0} → ErrorKind → Error → Result (Option F) Error
not_opened_at kind.NotFound error = Ok None
not_opened_at _ error = Err error
