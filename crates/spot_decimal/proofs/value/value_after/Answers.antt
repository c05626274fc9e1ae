use Rattle.std.proofs.Common.{◌^◌, arith}
use Rattle.spot_decimal.proofs.Values.{after_past, after_more, digit_here}
use Rattle.spot_decimal.proofs.value.value_after.Goals as goal

pub returns-then-value-gt-MOST-clause-none : goal.returns-then-value-gt-MOST-clause-none
returns-then-value-gt-MOST-clause-none c = after_past c.args.start c.loop-b.b-index (10 ^ 18) c.args.digits.now (omega arith) (omega (arith, c.loop-b.invariant.value))

pub loop-b-preserved : goal.loop-b-preserved
loop-b-preserved c =
    let ds = c.args.digits.now in
    let i = c.loop-b.b-index in
    let digit = digit_here ds i c.requires.digits (omega arith) in
    record {
      value = omega (arith, after_more c.args.start ds i (omega arith), digit.0, c.loop-b.invariant.value);
      small = omega (arith, digit.1);
    }
