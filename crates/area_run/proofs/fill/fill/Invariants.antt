use Rattle.std.proofs.Common.{◌≡◌, ℕ, ◌≤◌, Some, length, map, take}
use Rattle.spot_terms.specs.Courses.{box_at}
use Rattle.base_sets.specs.Values.{rect_of_box, value_of}
use Rattle.area_laws.specs.Filling.{IsFilledFrom}
use Rattle.area_run.specs.Plans.{course_of}
use Rattle.area_run.specs.Strips.{AreKept, IsEmptyStrip}
use Rattle.area_run.proofs.GroupSets.{AreSameFrom}
use Rattle.area_run.proofs.fill.fill.Given as goal

-- the children of the sets before the last neighbours are in the table, and these have one polygon along x
abbrev pub invariant-loop-i : goal.invariant-loop-i
invariant-loop-i l = record {
  step : l.table.step ≡ Some (l.b, l.plan.grid, l.plan.k);
  most : l.table.most ≡ l.fn.table.most;
  same : AreSameFrom l.sets l.from l.i;
  kept : AreKept l.plan l.b l.children.kept.items;
  empty : IsEmptyStrip l.plan l.b l.strip.rows.items l.strip.from l.strip.to;
  room : length l.strip.rows.items ≡ length l.fn.strip.rows.items;
  filled : (i : ℕ) → rect_of_box l.b ≡ box_at (course_of l.plan) i → IsFilledFrom (course_of l.plan) i (map value_of (take l.from l.sets)) l.table;
}
