-- `image::form::Form::put_instance` meets its contract: its parts, one after the other.
use native.Mathlib.Omega.{arith}
use mathlib.Core.List.{[], ◌∷◌, ◌++◌}
use Rattle.writing.proofs.WritingLaws.{then, widen, written}
use Rattle.image.specs.Words.{words_bytes, number_bytes}
use Rattle.image.specs.StackImage.{instance_bytes}
use Rattle.image.proofs.form.Form.put_instance.Goals as goal

pub returns : goal.returns
unfolding instance_bytes
returns c =
    let x = c.args.x.now in
    let code = c.status_code.ensures in
    written (λ i. words_bytes (x.plan ∷ x.state ∷ x.tried ∷ code i ∷ []) ++ (words_bytes x.env.terms ++ number_bytes c.args.self x.id))
    (widen (omega arith) (then c.put_words-a.ensures (then c.put_words-b.ensures c.put_number.ensures)))
