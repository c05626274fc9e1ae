use Rattle.std.proofs.Common.{◌≡◌, length, map}
use Rattle.std.specs.List.{AllByRecursion}
use Rattle.spot_terms.specs.Lists.{numbers_below}
use Rattle.spot_terms.specs.Reach.{interval_numbers}
use Rattle.participants.specs.Predictions.{IsSmall}
use Rattle.participants.proofs.participant.octagons.Given as goal

-- the octagons of the intervals so far, and the run stands before the next
abbrev pub invariant-loop : goal.invariant-loop
invariant-loop l = record {
  octagons : map (λ o. o.n) l.items.items ≡ map (interval_numbers l.s l.fn.h.k) (numbers_below l.counter);
  run : l.run ≡ record { start = l.s; ticks = l.fn.h.k; interval = l.counter };
  small : AllByRecursion IsSmall l.items.items;
  long : length l.items.items ≡ l.counter;
}
