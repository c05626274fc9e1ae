use Rattle.std.proofs.Common.{get_or, take, length-take, arith, refl}
use Rattle.std.proofs.lemmas.Int.Digits.{digits_value_more}
use Rattle.std.proofs.lemmas.List.Folds.{list_all_at}
use Rattle.std.proofs.lemmas.Str.{digit_value_digit}
use Rattle.std.specs.Int.{IsInRange}
use Rattle.std.specs.Char.{is_ascii_digit}
use Rattle.spot_decimal.proofs.DigitLemmas.{few_value, more_digits, other_test}
use Rattle.spot_decimal.proofs.digits.read_digits.Goals as goal

pub returns-then-not-is_ascii_digit : goal.returns-then-not-is_ascii_digit
returns-then-not-is_ascii_digit c = rw (list_all_at is_ascii_digit c.args.text.now c.loop-b.b-index 0 (omega arith) (other_test (get_or c.args.text.now c.loop-b.b-index 0) c.if-not-is_ascii_digit.ensures.cases)) refl

pub overflow_mul-value : goal.overflow_mul-value
overflow_mul-value c = omega (arith, few_value (take c.loop-b.b-index c.args.text.now) c.loop-b.invariant.digits (omega (arith, c.requires, length-take c.loop-b.b-index c.args.text.now)))

pub overflow_add-value : goal.overflow_add-value
overflow_add-value c =
    let digit : IsInRange 48 57 (get_or c.args.text.now c.loop-b.b-index 0) = c.if-not-is_ascii_digit.ensures.cases in
    omega (arith, digit.1, few_value (take c.loop-b.b-index c.args.text.now) c.loop-b.invariant.digits (omega (arith, c.requires, length-take c.loop-b.b-index c.args.text.now)))

pub loop-b-preserved : goal.loop-b-preserved
loop-b-preserved c =
    let digit : IsInRange 48 57 (get_or c.args.text.now c.loop-b.b-index 0) = c.if-not-is_ascii_digit.ensures.cases in
    record {
      digits = more_digits c.args.text.now c.loop-b.b-index (omega arith) c.loop-b.invariant.digits digit;
      value = omega (arith, digit.0, digits_value_more 10 c.args.text.now c.loop-b.b-index (omega arith), digit_value_digit (get_or c.args.text.now c.loop-b.b-index 0) digit);
    }
