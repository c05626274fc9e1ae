use Rattle.std.proofs.Common.{◌≤◌, ◌+◌}
use Rattle.area_run.specs.Greatest.{IsRoomBelow}
use Rattle.area_run.specs.Plans.{course_of}
use Rattle.area_run.proofs.rooms.Rooms.up_to.Given as goal

-- the greatest of the steps so far
abbrev pub invariant-loop-step : goal.invariant-loop-step
invariant-loop-step g l = record {
  greatest : IsRoomBelow (course_of l.plan) (g.O.Occupied.count l.o) (g.O.Occupied.range l.o) l.step l.rooms;
  within : l.step ≤ l.fn.steps + 1;
}
