-- `situation::ask` meets its contract: the first match among the beliefs from a place on is the first of all, and the one found is that.
use native.Mathlib.Omega.{arith}
use mathlib.Core.Path.{sym, ◌∙◌}
use Rattle.std.specs.Prelude.{None, Some}
use Rattle.belief.specs.Beliefs.{view}
use Rattle.situation.proofs.AskLaws.{ask-first, ask_turn, ask-end}
use Rattle.situation.proofs.ask.Goals as goal

pub returns-in-Some : goal.returns-in-Some
returns-in-Some c =
    let a = c.args in
    let l = c.loop-belief in
    sym (ask_turn a.l a.env c.as_slice-belief-items.result.now _ l.belief-index (omega arith) (Some c.in-Some.next) c.in-Some.ensures) ∙ l.invariant
    ∙ rw c.as_slice-belief-items.ensures (sym (ask-first (view a.beliefs) a.l a.env))

pub loop-belief-preserved : goal.loop-belief-preserved
loop-belief-preserved c =
    let a = c.args in
    let l = c.loop-belief in
    sym (ask_turn a.l a.env c.as_slice-belief-items.result.now _ l.belief-index (omega arith) None c.in_default.ensures) ∙ l.invariant

pub returns : goal.returns
returns c =
    let a = c.args in
    let l = c.loop-belief in
    sym (ask-end a.l a.env c.as_slice-belief-items.result.now l.belief-index (omega arith)) ∙ l.invariant
    ∙ rw c.as_slice-belief-items.ensures (sym (ask-first (view a.beliefs) a.l a.env))
