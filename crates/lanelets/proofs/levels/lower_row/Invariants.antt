use Rattle.std.specs.Prelude.{take}
use Rattle.lanelets.specs.Levels.{Lowers}
use Rattle.lanelets.proofs.levels.lower_row.Given as goal

abbrev pub invariant-loop-d : goal.invariant-loop-d
invariant-loop-d l = Lowers (take l.d-index l.row) l.n l.initial.numbers l.initial.noted.items l.numbers l.noted.items
