use Rattle.std.proofs.Common.{◌≡◌, map, take}
use Rattle.std.specs.List.{AllByRecursion}
use Rattle.spot_terms.specs.Drawings.{shape_of}
use Rattle.participants.specs.Pieces.{pieces_at}
use Rattle.svg_report.specs.Shapes.{drawn_of, IsNearShape}
use Rattle.spot_run.proofs.draw.shapes_of.Given as goal

-- the pieces so far have their shapes
abbrev pub invariant-loop-piece : goal.invariant-loop-piece
invariant-loop-piece l = record {
  drawn : map drawn_of l.shapes.items ≡ map shape_of (take l.piece (pieces_at l.prediction l.step));
  near : AllByRecursion IsNearShape l.shapes.items;
}
