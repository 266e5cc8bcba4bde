-- `library::plan::rows_end` meets its contract. The loop's invariant: past the rows left is past them all, and a row has at most 786,422 bytes.
use Prim.Native.Nat.{ℕ, ◌≤◌}
use mathlib.Core.Path.{ap, ◌∙◌}
use native.Mathlib.Omega.{arith}
use Rattle.library.specs.Bytes.{rows_end}
use Rattle.library.proofs.RowLaws.{all_left, end_step, end_done, row-bytes}
use Rattle.library.proofs.plan.rows_end.Goals as goal

pub loop-init : goal.loop-init
loop-init c = let a = c.args in (omega arith, ap (λ (n : ℕ). rows_end a.bytes.now a.width n a.from) (all_left a.n))

pub overflow_add-at-in-loop : goal.overflow_add-at-in-loop
overflow_add-at-in-loop c =
    let count : c.u16_at.result ≤ 65535 = omega arith in
    omega (arith, row-bytes c.requires.1.1 count)

pub loop-preserved : goal.loop-preserved
loop-preserved c =
    let l = c.loop in
    let count : c.u16_at.result ≤ 65535 = omega arith in
    (omega (arith, row-bytes c.requires.1.1 count), end_step _ _ c.args.n l.counter l.at _ c.u16_at.ensures (omega arith) ∙ l.invariant.1)

pub returns-clause-value : goal.returns-clause-value
returns-clause-value c = let l = c.loop in end_done _ _ c.args.n l.counter l.at (omega arith) ∙ l.invariant.1

pub returns-clause-small : goal.returns-clause-small
returns-clause-small c = omega (arith, c.loop.invariant.0)
