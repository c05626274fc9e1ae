use Rattle.std.proofs.Common.{◌≡◌, pos, ◌+ℤ◌}
use Rattle.spot_terms.specs.Grid.{slot}
use Rattle.area_run.specs.Stages.{Advances}
use Rattle.area_run.proofs.put.put_column.Given as goal

-- the sets of the rows so far
abbrev pub invariant-loop-j : goal.invariant-loop-j
invariant-loop-j g l = record {
  advances : Advances l.at.plan l.at.step (g.O.Occupied.count l.at.o.now l.at.step) (g.O.Occupied.hits l.at.o.now l.at.step) (g.O.Occupied.range l.at.o.now l.at.step) l.table
      l.fn.col (slot l.at.plan.grid.g l.at.b.ylo) l.fn.out.sets l.fn.col (slot l.at.plan.grid.g l.at.b.ylo +ℤ pos l.j) l.out.sets;
  ticks : l.planes.k ≡ l.fn.planes.k;
  planes : l.planes.rows ≡ l.fn.planes.rows;
  room : l.out.room ≡ l.fn.out.room;
}
