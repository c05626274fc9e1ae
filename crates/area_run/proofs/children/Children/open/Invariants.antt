use Rattle.std.proofs.Common.{◌≡◌, length}
use Rattle.area_run.proofs.children.Children.open.Given as goal

abbrev pub invariant-loop : goal.invariant-loop
invariant-loop l = length l.kept.items ≡ l.counter
