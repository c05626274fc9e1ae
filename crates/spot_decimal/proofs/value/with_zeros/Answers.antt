use Rattle.std.proofs.Common.{◌^◌, arith}
use Rattle.spot_decimal.proofs.Fronts.{zeros_past, zeros_next}
use Rattle.spot_decimal.proofs.value.with_zeros.Goals as goal

pub returns-then-value-gt-MOST-clause-none : goal.returns-then-value-gt-MOST-clause-none
returns-then-value-gt-MOST-clause-none c = zeros_past c.args.start c.loop.value c.loop.counter c.args.zeros (10 ^ 18) c.loop.invariant.value (omega arith) (omega arith)

pub loop-preserved : goal.loop-preserved
loop-preserved c = record {
  value = zeros_next c.args.start c.loop.value c.loop.counter c.loop.invariant.value;
  small = omega arith;
}
