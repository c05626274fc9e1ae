use Rattle.std.proofs.Common.{◌≡◌, ◌≤◌, ◌*◌}
use Rattle.carve.proofs.BoxSums.{rows_of}
use Rattle.carve.proofs.occupied.Occupied.rows.Given as goal

-- the rows of the pieces so far
abbrev pub invariant-loop-piece : goal.invariant-loop-piece
invariant-loop-piece g l = record {
  sum : l.rows ≡ rows_of l.g (l.b.ylo, l.b.yhi) (g.Self.Occupied.range l.self l.step) l.piece;
  few : l.rows ≤ l.piece * 1_000_000_000;
}
