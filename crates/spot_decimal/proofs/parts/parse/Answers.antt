use Rattle.std.proofs.Common.{◌∙◌, ◌++◌, Bool, Some, ap, sym, arith, length}
use Rattle.std.specs.Option.{option_copied}
use Rattle.std.specs.Str.Parse.{digits_value}
use Rattle.spot_terms.specs.Decimal.{scaled}
use Rattle.spot_decimal.proofs.Texts.{IsParted, without_digits, without_power, with_parts, head_short}
use Rattle.spot_decimal.proofs.parts.parse.Goals as goal

pub returns-in_err-digits : goal.returns-in_err-digits
returns-in_err-digits c = let p : IsParted c.args.text.now c.take_sign-signed.result.rest.now c.cut_at_exponent-cut.result.head.now (option_copied c.cut_at_exponent-cut.result.tail) = record { rest_is = c.take_sign-signed.ensures.rest; head_is = c.cut_at_exponent-cut.ensures.head; tail_is = c.cut_at_exponent-cut.ensures.tail } in
    rw c.from_residual.ensures (without_digits _ _ _ _ p c.in_err-digits.ensures.value)

pub returns-in_err-exponent : goal.returns-in_err-exponent
returns-in_err-exponent c = let p : IsParted c.args.text.now c.take_sign-signed.result.rest.now c.cut_at_exponent-cut.result.head.now (option_copied c.cut_at_exponent-cut.result.tail) = record { rest_is = c.take_sign-signed.ensures.rest; head_is = c.cut_at_exponent-cut.ensures.head; tail_is = c.cut_at_exponent-cut.ensures.tail } in
    rw c.from_residual-in_err-exponent.ensures (without_power _ _ _ _ _ p c.in_ok-digits.ensures.value c.in_err-exponent.ensures)

pub returns : goal.returns
returns c = let p : IsParted c.args.text.now c.take_sign-signed.result.rest.now c.cut_at_exponent-cut.result.head.now (option_copied c.cut_at_exponent-cut.result.tail) = record { rest_is = c.take_sign-signed.ensures.rest; head_is = c.cut_at_exponent-cut.ensures.head; tail_is = c.cut_at_exponent-cut.ensures.tail } in
    let k = c.in_ok-exponent.ensures in
    let d = c.in_ok-digits.digits in
    record {
      exponent = k.exponent;
      is = with_parts _ _ _ _ _ _ p c.in_ok-digits.ensures.value k.is ∙ ap (λ (b : Bool). Some (scaled b (digits_value 10 (d.whole.now ++ d.part.now)) (length d.part.now) (c.in_ok-exponent.exponent.minus, k.exponent))) (sym c.take_sign-signed.ensures.minus);
      least = k.least;
      whole_digits = c.in_ok-digits.ensures.digits.0;
      part_digits = c.in_ok-digits.ensures.digits.1;
      short = omega (arith, c.in_ok-digits.ensures.short, head_short _ _ _ _ p);
    }
