use Rattle.std.proofs.Common.{◌≡◌, List, length, map, take}
use Rattle.spot_terms.specs.declared.plain.Pt.{Pt}
use Rattle.base_sets.specs.Values.{value_of}
use Rattle.area_run.specs.Strips.{AreAlongY, AreKept, FitsBox, IsStripOf}
use Rattle.area_run.proofs.group.join_children.Given as goal

-- the children of the sets so far came to the strip
abbrev pub invariant-loop-set : goal.invariant-loop-set
invariant-loop-set l = record {
  strip : (ys : List (List Pt)) × AreAlongY l.plan l.b (map value_of (take l.set-index l.sets)) ys × IsStripOf l.plan l.b ys l.strip.rows.items;
  kept : AreKept l.plan l.b l.children.kept.items;
  fits : FitsBox l.plan l.b l.strip.rows.items l.strip.from l.strip.to;
  room : length l.strip.rows.items ≡ length l.fn.strip.rows.items;
}
