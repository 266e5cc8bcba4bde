-- `stream::next_line` meets its contract: no newline is left, the line stands in the chunk alone, or it began before.
use native.Mathlib.Omega.{arith}
use borrow.Author.Rules.{rules}
use borrow.Author.Tests.{tests}
use mathlib.Core.Path.{◌≡◌, sym, ap, ◌∙◌}
use Rattle.std.specs.List as std
use Rattle.std.proofs.lemmas.Iterator.{YieldsList-from_slice}
use Rattle.std.proofs.lemmas.Iterator.Search.{position_from_yields_List}
use Rattle.stream.specs.Lines.{is_newline}
use Rattle.stream.specs.Carried.{begun, said}
use Rattle.stream.proofs.CarryLaws.{in_place_lem}
use Rattle.stream.proofs.ChunkLaws.{next_past, next_nothing, next_answer}
use Rattle.stream.proofs.next_line.Goals as goal
use Rattle.stream.proofs.next_line.Goals.{then-carry-eq0, else-carry-eq0}

pub returns-in_err-rest : goal.returns-in_err-rest
returns-in_err-rest c =
    let a = c.args in
    rw c.from_residual.ensures (sym (next_past a.chunk.now a.at (begun a.carry) (omega (arith, c.in_err-rest.ensures.lookup.0))))

pub returns-in_err-size : goal.returns-in_err-size
returns-in_err-size c =
    let a = c.args in
    let rest = c.in_ok-rest.rest.now in
    let found : c.position.result ≡ std.position is_newline rest
    = position_from_yields_List is_newline _ _ c.position.result c.position.ensures.ran (YieldsList-from_slice rest cc) (λ x b q k. search (rules, tests)) in
    rw c.from_residual-in_err-size.ensures (next_nothing a.chunk.now a.at (begun a.carry) rest c.in_ok-rest.ensures.lookup.0.2 (sym c.in_err-size.was ∙ found))

pub returns : goal.returns
returns c =
    let a = c.args in
    let rest = c.in_ok-rest.rest.now in
    let found : c.position.result ≡ std.position is_newline rest
    = position_from_yields_List is_newline _ _ c.position.result c.position.ensures.ran (YieldsList-from_slice rest cc) (λ x b q k. search (rules, tests)) in
    next_answer a.chunk.now a.at (begun a.carry) rest c.in_ok-rest.ensures.lookup.0.2 c.in_ok-size.size _ (sym c.in_ok-size.was ∙ found)
    (elim c.if-carry-eq0.branch [
      | then-carry-eq0 w ↦ rw w.call-is (w.read_call-call.ensures ∙ in_place_lem a.carry _ w.if-carry-eq0.true)
      | else-carry-eq0 w ↦ rw w.call-is (w.call_of-call.ensures ∙ ap said w.extended.ensures)
    ])
