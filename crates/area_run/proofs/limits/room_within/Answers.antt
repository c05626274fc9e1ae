use Rattle.std.proofs.Common.{◌≤◌, arith, refl}
use Rattle.area_run.proofs.limits.room_within.Goals as goal

-- the greatest number of row boxes is no more than the limit, and no step has more than it
pub returns-then-rooms-le-MOST_ROW_BOXES-clause-within : goal.returns-then-rooms-le-MOST_ROW_BOXES-clause-within
returns-then-rooms-le-MOST_ROW_BOXES-clause-within g c = record {
  narrow = c.in_default.ensures.none refl;
  few = λ i l. let k = c.up_to-rooms.ensures.boxes.bound i (omega (arith, l)) in omega (arith, k, c.if-rooms-le-MOST_ROW_BOXES.true);
}

pub returns-in-Some-too_many_boxes-clause-err : goal.returns-in-Some-too_many_boxes-clause-err
returns-in-Some-too_many_boxes-clause-err g c = (c.in_default.ensures.none refl, c.in-Some-too_many_boxes.ensures.some)
