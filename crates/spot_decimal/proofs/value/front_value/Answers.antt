use Rattle.std.proofs.Common.{◌+◌, ◌^◌, take, refl}
use Rattle.spot_decimal.proofs.Values.{digits_front}
use Rattle.spot_decimal.proofs.Fronts.{IsCut, front_by, past_first, past_second}
use Rattle.spot_decimal.proofs.value.front_value.Goals as goal

pub value_after-requires-clause-digits : goal.value_after-requires-clause-digits
value_after-requires-clause-digits c = rw c.first_digits.ensures (digits_front c.args.places c.args.digits.now.whole.now c.requires.whole)

pub value_after-requires-2-clause-digits : goal.value_after-requires-2-clause-digits
value_after-requires-2-clause-digits c = rw c.first_digits-2.ensures (digits_front c.saturating_sub-behind.result c.args.digits.now.part.now c.requires.part)

pub returns-in_err-value-clause-none : goal.returns-in_err-value-clause-none
returns-in_err-value-clause-none c =
    let ds = c.args.digits.now in
    let k : IsCut ds.whole.now ds.part.now c.first_digits.result.now (take c.saturating_sub-behind.result ds.part.now) c.args.places c.saturating_sub-behind.result = record { behind_is = c.saturating_sub-behind.ensures; first_is = c.first_digits.ensures; second_is = refl } in
    rw c.from_residual.ensures (past_first _ _ _ _ _ _ (10 ^ 19 + 10) k c.in_err-value.ensures.none)

pub returns-in_err-value-2-clause-none : goal.returns-in_err-value-2-clause-none
returns-in_err-value-2-clause-none c =
    let ds = c.args.digits.now in
    let k : IsCut ds.whole.now ds.part.now c.first_digits.result.now c.first_digits-2.result.now c.args.places c.saturating_sub-behind.result = record { behind_is = c.saturating_sub-behind.ensures; first_is = c.first_digits.ensures; second_is = c.first_digits-2.ensures } in
    rw c.from_residual-in_err-value-2.ensures (past_second _ _ _ _ _ _ _ (10 ^ 19 + 10) k c.in_ok-value.ensures.some.0 c.in_err-value-2.ensures.none)

pub returns-clause-some : goal.returns-clause-some
returns-clause-some c =
    let ds = c.args.digits.now in
    let k : IsCut ds.whole.now ds.part.now c.first_digits.result.now c.first_digits-2.result.now c.args.places c.saturating_sub-behind.result = record { behind_is = c.saturating_sub-behind.ensures; first_is = c.first_digits.ensures; second_is = c.first_digits-2.ensures } in
    rw (front_by _ _ _ _ _ _ _ _ _ k c.saturating_sub.ensures c.in_ok-value.ensures.some.0 c.in_ok-value-2.ensures.some.0) c.with_zeros.ensures.some

pub returns-clause-none : goal.returns-clause-none
returns-clause-none c =
    let ds = c.args.digits.now in
    let k : IsCut ds.whole.now ds.part.now c.first_digits.result.now c.first_digits-2.result.now c.args.places c.saturating_sub-behind.result = record { behind_is = c.saturating_sub-behind.ensures; first_is = c.first_digits.ensures; second_is = c.first_digits-2.ensures } in
    rw (front_by _ _ _ _ _ _ _ _ _ k c.saturating_sub.ensures c.in_ok-value.ensures.some.0 c.in_ok-value-2.ensures.some.0) c.with_zeros.ensures.none
