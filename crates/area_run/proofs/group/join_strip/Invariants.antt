use Rattle.std.proofs.Common.{◌≡◌, List, Some}
use Rattle.spot_terms.specs.BaseSets.{least_place}
use Rattle.spot_terms.specs.Grid.{slot}
use Rattle.spot_terms.specs.declared.plain.Pt.{Pt}
use Rattle.area_laws.specs.Groups.{HasGroup}
use Rattle.area_run.specs.Strips.{IsStripOf}
use Rattle.area_run.proofs.group.join_strip.Given as goal

-- the columns so far have the group
abbrev pub invariant-loop-i : goal.invariant-loop-i
invariant-loop-i l = record {
  step : l.table.step ≡ Some (l.b, l.plan.grid, l.plan.k);
  most : l.table.most ≡ l.fn.table.most;
  group : (ys : List (List Pt)) → IsStripOf l.plan l.b ys l.strip.rows.items → HasGroup l.plan.grid.w l.plan.grid.g l.plan.k l.x ys (slot l.plan.grid.w (least_place l.x)) l.i l.fn.table l.table;
}
