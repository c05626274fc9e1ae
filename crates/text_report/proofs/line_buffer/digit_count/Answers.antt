use Rattle.std.proofs.Common.{arith}
use Rattle.std.proofs.lemmas.Fmt.{length-decimal-le}
use Rattle.itoa.proofs.Decimal.{length_four}
use Rattle.text_report.proofs.line_buffer.digit_count.Goals as goal

pub overflow_add-count : goal.overflow_add-count
overflow_add-count c =
    let few = length-decimal-le 20 c.args.n (omega arith) (grind arith) (grind arith) in
    let all = c.loop-rest.invariant.all in
    grind (arith, few, all)

pub loop-rest-preserved : goal.loop-rest-preserved
loop-rest-preserved c =
    let four = length_four c.loop-rest.rest (grind arith) (grind arith) in
    record {
      all = omega (arith, four, c.loop-rest.invariant.all);
      within = omega (arith, c.loop-rest.invariant.within);
    }

pub overflow_add-result : goal.overflow_add-result
overflow_add-result c =
    let few = length-decimal-le 20 c.args.n (omega arith) (grind arith) (grind arith) in
    let all = c.loop-rest.invariant.all in
    grind (arith, few, all)
