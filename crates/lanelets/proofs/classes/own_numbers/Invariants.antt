use Rattle.lanelets.specs.Levels.{AreOwn}
use Rattle.lanelets.proofs.classes.own_numbers.Given as goal

abbrev pub invariant-loop-c : goal.invariant-loop-c
invariant-loop-c l = AreOwn l.c l.numbers.items
