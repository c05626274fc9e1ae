use Rattle.std.proofs.Common.{◌≡◌, ◌<◌, ◌+◌, ◌*◌, ◌^◌}
use Rattle.spot_decimal.proofs.value.with_zeros.Given as goal

abbrev pub invariant-loop : goal.invariant-loop
invariant-loop l = record { value : l.value ≡ l.start * 10 ^ l.counter; small : l.value < 10 ^ 19 + 10 }
