use Rattle.std.proofs.Common.{◌≡◌, length}
use Rattle.area_run.proofs.strip.Strip.open.Given as goal

abbrev pub invariant-loop : goal.invariant-loop
invariant-loop l = length l.items.items ≡ l.counter
