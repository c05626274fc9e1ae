use Rattle.std.proofs.Common.{◌≡◌, ◌-◌, ◌≤◌, length, sum_by, vec_capacity}
use Rattle.spot_terms.specs.Grid.{slot}
use Rattle.spot_terms.specs.Lists.{numbers_below}
use Rattle.spot_terms.specs.RowBoxes.{slots_shared}
use Rattle.carve.specs.Linked.{AreRowsTaken}
use Rattle.carve.specs.Ranges.{HitsAmong}
use Rattle.carve.proofs.linked.put_pieces.Given as goal

-- what the pieces so far take away is linked
abbrev pub invariant-loop-piece : goal.invariant-loop-piece
invariant-loop-piece g l = record {
  taken : AreRowsTaken (HitsAmong l.columns.first l.columns.last (g.O.Occupied.hits l.o l.step)) (g.O.Occupied.range l.o l.step) l.grid.g (slot l.grid.g l.b.ylo) l.heads l.links.items l.piece;
  within : l.piece ≤ g.O.Occupied.count l.o l.step;
  count : length l.heads ≡ length l.fn.heads;
  few : length l.links.items ≤ sum_by (λ p. slots_shared l.grid.g (g.O.Occupied.range l.o l.step p) (l.b.ylo, l.b.yhi)) (numbers_below l.piece);
  capacity : vec_capacity l.fn.links ≤ vec_capacity l.links;
}

abbrev pub decreases-loop-piece : goal.decreases-loop-piece
decreases-loop-piece g l = g.O.Occupied.count l.o l.step - l.piece
