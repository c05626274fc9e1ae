use Rattle.std.proofs.Common.{◌≡◌, ◌+◌, ◌≤◌, length, take}
use Rattle.carve.specs.Cuts.{IsCutBy}
use Rattle.carve.specs.Parts.{parts_of}
use Rattle.carve.proofs.sets.cut_parts.Given as goal

-- the runs so far
abbrev pub invariant-loop-run : goal.invariant-loop-run
invariant-loop-run l = record {
  cut : IsCutBy (parts_of l.b) (take l.run-index l.runs) l.fn.out.sets l.out.sets;
  few : length l.out.sets ≤ length l.fn.out.sets + l.run-index;
  room : l.out.room ≡ l.fn.out.room;
}
