-- `image::form::Form::put_event` meets its contract: its parts, one after the other.
use mathlib.Core.List.{[], ◌∷◌, ◌++◌}
use Rattle.writing.proofs.WritingLaws.{then, written}
use Rattle.image.specs.Words.{words_bytes, long_words, number_bytes}
use Rattle.image.specs.BeliefImage.{literal_bytes}
use Rattle.image.specs.EventImage.{event_bytes}
use Rattle.image.proofs.form.Form.put_event.Goals as goal

pub returns : goal.returns
unfolding event_bytes
returns c =
    let origin = c.origin_fields-code.ensures in
    let e = c.args.event.now in
    written
    (λ i. words_bytes ((origin i).0 ∷ (origin i).1 ∷ (origin i).2 ∷ e.kind ∷ [])
    ++ (literal_bytes e.literal ++ (words_bytes (long_words e.failed) ++ number_bytes c.args.self (origin i).3)))
    (then c.put_words-a.ensures (then c.put_literal-b.ensures (then c.put_long-c.ensures c.put_number.ensures)))
