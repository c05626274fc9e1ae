use Rattle.std.specs.Prelude.{◌≡◌, [], length}
use Rattle.lanelets.specs.Levels.{IsUnderWay}
use Rattle.lanelets.proofs.levels.settle.Given as goal

abbrev pub invariant-loop-c : goal.invariant-loop-c
invariant-loop-c l = (length l.numbers ≡ l.count) × (l.noted.items ≡ []) × IsUnderWay l.pairs l.initial.numbers l.c l.numbers l.noted.items
