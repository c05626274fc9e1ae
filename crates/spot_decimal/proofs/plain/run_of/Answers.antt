use Rattle.std.proofs.Common.{◌+◌, ◌-◌, get_or, length, arith}
use Rattle.std.specs.Int.{IsInRange}
use Rattle.std.proofs.lemmas.Str.{digit_value_digit}
use Rattle.spot_decimal.proofs.DigitLemmas.{more_digits}
use Rattle.spot_decimal.proofs.PlainParts.{small_more, small_end}
use Rattle.spot_decimal.proofs.Values.{after_more}
use Rattle.spot_decimal.proofs.plain.run_of.Goals as goal

pub overflow_mul-value : goal.overflow_mul-value
overflow_mul-value c =
    let more = small_more c.args.start c.loop-count.value c.loop-count.count 0 c.loop-count.invariant.small (omega arith) in
    let end = small_end c.args.start (c.loop-count.count + 1) (length c.args.text.now) (omega arith) in
    omega (arith, more, end, c.requires)

pub overflow_add-value : goal.overflow_add-value
overflow_add-value c =
    let digit : IsInRange 48 57 (get_or c.args.text.now c.loop-count.count 0) = c.if-not-is_ascii_digit.ensures.cases in
    let more = small_more c.args.start c.loop-count.value c.loop-count.count 9 c.loop-count.invariant.small (omega arith) in
    let end = small_end c.args.start (c.loop-count.count + 1) (length c.args.text.now) (omega arith) in
    omega (arith, digit.1, more, end, c.requires)

pub loop-count-preserved : goal.loop-count-preserved
loop-count-preserved c =
    let ds = c.args.text.now in
    let i = c.loop-count.count in
    let digit : IsInRange 48 57 (get_or ds i 0) = c.if-not-is_ascii_digit.ensures.cases in
    record {
      digits = more_digits ds i (omega arith) c.loop-count.invariant.digits digit;
      value = omega (arith, digit.0, after_more c.args.start ds i (omega arith), digit_value_digit (get_or ds i 0) digit, c.loop-count.invariant.value);
      small = omega (arith, digit.0, small_more c.args.start c.loop-count.value i (get_or ds i 0 - 48) c.loop-count.invariant.small (omega (arith, digit.1)));
    }
