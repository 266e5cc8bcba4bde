-- `literal::Literal::is_same` meets its contract: words of 16-bit numbers tell the literals.
use native.Mathlib.Omega.{arith}
use mathlib.Core.Path.{ap₂, ◌∙◌}
use lib.Dec.{eqb}
use Rattle.literal.proofs.WordLaws.{words_decide}
use Rattle.literal.proofs.Literal.is_same.Goals as goal

pub returns : goal.returns
returns c =
    let a = c.args in
    ap₂ eqb c.word.ensures c.word-2.ensures
    ∙ words_decide a.self a.other
    (record { head = omega arith; first = omega arith; second = omega arith; third = omega arith })
    (record { head = omega arith; first = omega arith; second = omega arith; third = omega arith })
