-- `numeral` of the fields of a line meets its contract: by the byte that ends the digits, and by what they say.
use borrow.Author.Rules.{rules}
use borrow.Author.Tests.{ne_eqb}
use native.Mathlib.Nat.{pow-suc}
use native.Mathlib.Numerals.{add-one}
use native.Mathlib.Omega.{arith}
use mathlib.Core.Path.{ap, ◌∙◌}
use Rattle.std.proofs.lemmas.List.{take_rest}
use Rattle.reading.specs.Call.{numeral, field}
use Rattle.reading.specs.Fields.{fields_of}
use Rattle.reading.proofs.NumberLaws.{digit_next}
use Rattle.reading.proofs.ScanLaws.{empty_reads, other_reads, long_reads, space_missing, space_over, space_said, end_over, end_said}
use Rattle.reading.proofs.fields.Fields.numeral.Goals as goal

pub returns-then-b-ne32-clause-said : goal.returns-then-b-ne32-clause-said
returns-then-b-ne32-clause-said c next =
    let l = c.loop-i in
    ap (λ left. field (numeral c.args.digits c.args.most) (fields_of left) next) c.in_ok-rest.was
    ∙ other_reads c.args.digits c.args.most c.in_ok-rest.rest.now l.i l.value l.invariant.said next c.loop-i-test.true (search rules) (ne_eqb _ 32 c.if-b-ne32.true)

pub returns-then-i-eq0-clause-said : goal.returns-then-i-eq0-clause-said
returns-then-i-eq0-clause-said c next =
    let l = c.loop-i in
    ap (λ left. field (numeral c.args.digits c.args.most) (fields_of left) next) c.in_ok-rest.was
    ∙ space_missing c.args.digits c.args.most c.in_ok-rest.rest.now l.i l.value l.invariant.said next c.loop-i-test.true c.if-b-ne32.false c.if-i-eq0.true

pub returns-then-from-value-clause-said : goal.returns-then-from-value-clause-said
returns-then-from-value-clause-said c next =
    let l = c.loop-i in
    ap (λ left. field (numeral c.args.digits c.args.most) (fields_of left) next) c.in_ok-rest.was
    ∙ space_over c.args.digits c.args.most c.in_ok-rest.rest.now l.i l.value l.invariant.said next c.loop-i-test.true c.if-b-ne32.false (omega (arith, c.if-i-eq0.false)) l.invariant.few (grind arith)

pub returns-then-not-is_ascii_digit-clause-said : goal.returns-then-not-is_ascii_digit-clause-said
returns-then-not-is_ascii_digit-clause-said c next =
    let l = c.loop-i in
    ap (λ left. field (numeral c.args.digits c.args.most) (fields_of left) next) c.in_ok-rest.was
    ∙ space_said c.args.digits c.args.most c.in_ok-rest.rest.now l.i l.value l.invariant.said next c.loop-i-test.true c.if-b-ne32.false (omega (arith, c.if-i-eq0.false)) l.invariant.few (grind arith)
    ∙ simp (take_rest, add-one)

pub returns-then-digits-i-clause-said : goal.returns-then-digits-i-clause-said
returns-then-digits-i-clause-said c next =
    let l = c.loop-i in
    let digit = c.if-not-is_ascii_digit.ensures.cases in
    ap (λ left. field (numeral c.args.digits c.args.most) (fields_of left) next) c.in_ok-rest.was
    ∙ long_reads c.args.digits c.args.most c.in_ok-rest.rest.now l.i l.value l.invariant.said next c.loop-i-test.true c.if-digits-i.true (ne_eqb _ 32 (λ e. omega (arith, digit.0, e)))

pub loop-i-preserved : goal.loop-i-preserved
loop-i-preserved c =
    let l = c.loop-i in
    let digit = c.if-not-is_ascii_digit.ensures.cases in
    record {
      few = omega (arith, c.if-digits-i.false);
      small = rw (add-one, pow-suc) (omega arith);
      said = rw c.from-in-loop-i.ensures (digit_next c.args.digits c.args.most c.in_ok-rest.rest.now l.i l.value l.invariant.said c.loop-i-test.true digit.0 digit.1);
    }

pub returns-then-is_empty-clause-said : goal.returns-then-is_empty-clause-said
returns-then-is_empty-clause-said c next =
    ap (λ left. field (numeral c.args.digits c.args.most) (fields_of left) next) c.in_ok-rest.was
    ∙ empty_reads c.args.digits c.args.most c.in_ok-rest.rest.now next (grind arith)

pub returns-then-from-value-2-clause-said : goal.returns-then-from-value-2-clause-said
returns-then-from-value-2-clause-said c next =
    let l = c.loop-i in
    ap (λ left. field (numeral c.args.digits c.args.most) (fields_of left) next) c.in_ok-rest.was
    ∙ end_over c.args.digits c.args.most c.in_ok-rest.rest.now l.i l.value l.invariant.said next (omega (arith, c.loop-i-test.false)) (grind arith) (omega arith) (grind arith)

pub returns-clause-said : goal.returns-clause-said
returns-clause-said c next =
    let l = c.loop-i in
    ap (λ left. field (numeral c.args.digits c.args.most) (fields_of left) next) c.in_ok-rest.was
    ∙ end_said c.args.digits c.args.most c.in_ok-rest.rest.now l.i l.value l.invariant.said next (omega (arith, c.loop-i-test.false)) (grind arith) (omega arith) (grind arith)
