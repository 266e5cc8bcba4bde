-- `reading::read_numeral` meets its contract: byte by byte, by what the bytes passed say and by what follows them.
use borrow.Author.Rules.{rules}
use native.Mathlib.Nat.{pow-suc}
use native.Mathlib.Numerals.{add-one}
use native.Mathlib.Omega.{arith}
use mathlib.Core.Path.{sym}
use Rattle.reading.proofs.NumberLaws.{digit_next, digit_missing, digits_over, digits_said}
use Rattle.reading.proofs.read_numeral.Goals as goal

pub returns-then-not-is_ascii_digit-clause-said : goal.returns-then-not-is_ascii_digit-clause-said
returns-then-not-is_ascii_digit-clause-said c =
    let l = c.loop-b in
    sym (digit_missing c.args.digits c.args.most c.args.field.now l.b-index l.value l.invariant.said c.loop-b-test.true (search rules))

pub loop-b-preserved : goal.loop-b-preserved
loop-b-preserved c =
    let l = c.loop-b in
    let digit = c.if-not-is_ascii_digit.ensures.cases in
    record {
      small = rw (add-one, pow-suc) (omega arith);
      said = rw c.from.ensures (digit_next c.args.digits c.args.most c.args.field.now l.b-index l.value l.invariant.said c.loop-b-test.true digit.0 digit.1);
    }

pub returns-then-from-value-clause-said : goal.returns-then-from-value-clause-said
returns-then-from-value-clause-said c =
    let l = c.loop-b in
    sym (digits_over c.args.digits c.args.most c.args.field.now l.b-index l.value l.invariant.said c.loop-b-test.false (grind arith) (omega arith) (omega arith))

pub returns-clause-said : goal.returns-clause-said
returns-clause-said c =
    let l = c.loop-b in
    sym (digits_said c.args.digits c.args.most c.args.field.now l.b-index l.value l.invariant.said c.loop-b-test.false (grind arith) (omega arith) (omega arith))
