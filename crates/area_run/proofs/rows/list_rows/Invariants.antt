use Rattle.std.proofs.Common.{◌≡◌, ◌≤◌, vec_capacity}
use Rattle.area_run.specs.Plans.{course_of}
use Rattle.area_run.specs.Rows.{AreRowsIn}
use Rattle.area_run.proofs.rows.list_rows.Given as goal

-- the rows so far
abbrev pub invariant-loop-j : goal.invariant-loop-j
invariant-loop-j g l = record {
  rows : AreRowsIn (course_of l.plan) l.step (g.O.Occupied.count l.o l.step) (g.O.Occupied.hits l.o l.step) (g.O.Occupied.range l.o l.step) l.free.items l.ends.items l.j;
  room : l.runs.room ≡ l.fn.runs.room;
  capacity : vec_capacity l.fn.free ≤ vec_capacity l.free;
  ends_capacity : vec_capacity l.fn.ends ≤ vec_capacity l.ends;
}
