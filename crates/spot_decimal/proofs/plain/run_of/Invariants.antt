use Rattle.std.proofs.Common.{◌≡◌, ◌+◌, ◌*◌, ◌^◌, ◌≤◌, take, true}
use Rattle.std.specs.Str.Parse.{digits_value_after}
use Rattle.spot_terms.specs.Decimal.{are_digits}
use Rattle.spot_decimal.proofs.plain.run_of.Given as goal

abbrev pub invariant-loop-count : goal.invariant-loop-count
invariant-loop-count l = record {
  digits : are_digits (take l.count l.text) ≡ true;
  value : l.value ≡ digits_value_after 10 l.start (take l.count l.text);
  small : l.value + 1 ≤ (l.start + 1) * 10 ^ l.count;
}
