use Rattle.std.proofs.Common.{◌≡◌, take, map, length}
use Rattle.acc_occupancy.specs.Lines.{line_number}
use Rattle.acc_occupancy.proofs.reach.octagon.Given as goal

abbrev pub invariant-loop-normal : goal.invariant-loop-normal
invariant-loop-normal l = record {
  eight : length l.n ≡ 8;
  done : take l.normal l.n ≡ map (line_number l.k l.i) (take l.normal l.lines);
}
