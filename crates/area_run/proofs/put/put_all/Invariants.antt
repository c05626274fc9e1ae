use Rattle.std.proofs.Common.{◌≡◌, pos, ◌+ℤ◌}
use Rattle.spot_terms.specs.Grid.{slot}
use Rattle.area_run.specs.Stages.{Advances}
use Rattle.area_run.proofs.put.put_all.Given as goal

-- the sets of the columns so far
abbrev pub invariant-loop-i : goal.invariant-loop-i
invariant-loop-i g l = record {
  advances : Advances l.at.plan l.at.step (g.O.Occupied.count l.at.o.now l.at.step) (g.O.Occupied.hits l.at.o.now l.at.step) (g.O.Occupied.range l.at.o.now l.at.step) l.table
      (slot l.at.plan.grid.w l.at.b.xlo) (slot l.at.plan.grid.g l.at.b.ylo) l.fn.out.sets (slot l.at.plan.grid.w l.at.b.xlo +ℤ pos l.i) (slot l.at.plan.grid.g l.at.b.ylo) l.out.sets;
  ticks : l.planes.k ≡ l.fn.planes.k;
  planes : l.planes.rows ≡ l.fn.planes.rows;
  room : l.out.room ≡ l.fn.out.room;
}
