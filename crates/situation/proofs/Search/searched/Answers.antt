-- `situation::Search::searched` meets its contract: each turn folds in an alternative, and what is left, folded from what is kept, stays the same.
-- The bound on p: an alternative takes at most 2 + 8 * 65535 bytes.
use native.Mathlib.Nat.{sub-zero}
use native.Mathlib.Omega.{arith}
use Prim.Native.Nat.{◌+◌, ◌-◌, ◌<◌, ◌≤◌}
use mathlib.Core.Path.{◌≡◌, sym, ◌∙◌}
use Rattle.std.specs.Prelude.{None}
use Rattle.library.specs.Bytes.{literal_at, rows}
use Rattle.library.specs.Layout.{situation_at}
use Rattle.situation.specs.Solutions.{solutions}
use Rattle.situation.specs.Search.{consider, best_of}
use Rattle.situation.proofs.KeepLaws.{settled_stays}
use Rattle.situation.proofs.PassLaws.{alternative_more, alternative_none, alternative_past}
use Rattle.situation.proofs.Search.searched.Goals as goal

pub returns-then-self-at : goal.returns-then-self-at
unfolding best_of
returns-then-self-at c =
    let a = c.args in
    let s = a.self.now in
    sym (alternative_past (consider s.rule) None s.beliefs.now a.env s.bytes.now a.at c.if-self-at.true)

pub loop-i-init : goal.loop-i-init
unfolding situation_at best_of
loop-i-init c = (omega arith, rw (sub-zero, c.u16_at-i-end.ensures))

pub returns-then-is_settled : goal.returns-then-is_settled
returns-then-is_settled c =
    let a = c.args in
    let s = a.self.now in
    let l = c.loop-i in
    let left = solutions s.beliefs.now (rows (literal_at s.bytes.now) s.bytes.now 8 (c.u16_at-i-end.result - l._i) l.p) a.env in
    sym (settled_stays s.rule l.best left (sym c.is_settled.ensures ∙ c.if-is_settled.true)) ∙ l.invariant.1

pub loop-i-preserved : goal.loop-i-preserved
loop-i-preserved c =
    let a = c.args in
    let s = a.self.now in
    let l = c.loop-i in
    let left = c.u16_at-i-end.result - l._i in
    let one-less : c.u16_at-i-end.result - (l._i + 1) ≡ c.u16_at-i-end.result - l._i - 1 = omega arith in
    let more : 0 < left = omega arith in (
      omega arith,
      rw (one-less, c.solved-best.ensures, c.u16_at-n.ensures) (alternative_more (consider s.rule) l.best s.beliefs.now a.env s.bytes.now l.p left more) ∙ l.invariant.1,
    )

pub returns : goal.returns
returns c =
    let a = c.args in
    let s = a.self.now in
    let l = c.loop-i in
    let done : c.u16_at-i-end.result - l._i ≤ 0 = omega arith in
    sym (alternative_none (consider s.rule) l.best s.beliefs.now a.env s.bytes.now l.p (c.u16_at-i-end.result - l._i) done) ∙ l.invariant.1
