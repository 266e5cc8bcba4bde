-- `reading::read_call` meets its contract: a line that begins with no letter and space is no call.
use Rattle.std.proofs.Common.{rules, sym}
use Rattle.reading.proofs.LetterLaws.{call_else}
use Rattle.reading.proofs.read_call.Goals as goal

pub returns-in_default-5 : goal.returns-in_default-5
returns-in_default-5 c = sym (call_else c.args.line.now c.in_default.len_at_least (search rules) (search rules))
