use Rattle.std.proofs.Common.{◌≡◌, ◌+◌, ◌≤◌, length, vec_capacity}
use Rattle.spot_terms.specs.Grid.{slot}
use Rattle.carve.specs.Ranges.{HitsAmong}
use Rattle.carve.proofs.Linking.{AreRowsUpTo}
use Rattle.carve.proofs.linked.put_piece.Given as goal

-- the rows so far have linked what the piece takes away
abbrev pub invariant-loop-j : goal.invariant-loop-j
invariant-loop-j g l = record {
  rows : AreRowsUpTo (HitsAmong l.columns.first l.columns.last (g.O.Occupied.hits l.o l.step)) (g.O.Occupied.range l.o l.step) l.grid.g (slot l.grid.g l.b.ylo) l.heads l.links.items l.piece l.j;
  count : length l.heads ≡ length l.fn.heads;
  from : l.before ≤ l.j;
  few : length l.links.items + l.before ≤ length l.fn.links.items + l.j;
  capacity : vec_capacity l.fn.links ≤ vec_capacity l.links;
}
