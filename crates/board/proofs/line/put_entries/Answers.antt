-- `board::line::put_entries` meets its contract. one entry more, and all of them at the end.
use borrow.Author.Rules.{rules}
use native.Mathlib.Omega.{arith}
use mathlib.Core.Path.{◌≡◌, refl, ap}
use mathlib.Core.List.{map}
use lib.ListN.{length}
use lib.Seq.{take_all}
use Rattle.lists.specs.Counts.{each}
use Rattle.lists.proofs.ArrayLaws.{length-mapped}
use Rattle.writing.proofs.WritingLaws.{nothing, widen, written}
use Rattle.board.specs.Page.{entry, after}
use Rattle.board.proofs.LineLaws.{next_entry}
use Rattle.board.proofs.line.put_entries.Goals as goal

pub loop-term-init : goal.loop-term-init
loop-term-init c = record { kept = refl; written = nothing }

pub loop-term-preserved : goal.loop-term-preserved
loop-term-preserved c =
    let terms = c.args.terms in
    let long : length terms ≡ 8 = search (rules, length-mapped) in
    record {
      kept = search rules;
      written = next_entry terms c.loop-term.term-index (omega (arith, long)) c.loop-term.invariant.written c.put_entry-o.ensures;
    }

pub returns : goal.returns
returns c =
    let terms = c.args.terms in
    let long : length terms ≡ 8 = search (rules, length-mapped) in
    let all = take_all c.loop-term.term-index terms (omega arith) in
    written (ap (λ l. each after (map entry l)) all) (widen (omega (arith, long)) c.loop-term.invariant.written)
