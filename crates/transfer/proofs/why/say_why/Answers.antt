use Rattle.std.proofs.KnownBytes.{Appends-trans}
use Rattle.transfer.proofs.why.say_why.Goals as goal

pub returns : goal.returns
returns g c =
    let words = c.write_at_once in
    let colon = c.write_at_once-2 in
    let text = c.write_at_once-3 in
    let end = c.write_at_once-4 in
    let behind_colon = Appends-trans _ _ _ _ _ text.ensures.bytes end.ensures.bytes in
    let behind_words = Appends-trans _ _ _ _ _ colon.ensures.bytes behind_colon in
    (_, words.result, colon.result, text.result, end.result, Appends-trans _ _ _ _ _ words.ensures.bytes behind_words)
