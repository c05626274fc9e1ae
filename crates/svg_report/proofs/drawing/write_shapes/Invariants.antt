use Rattle.std.proofs.Common.{drop}
use Rattle.std.specs.List.{flat_map}
use Rattle.spot_terms.specs.Drawings.{shape_line}
use Rattle.spot_io.proofs.Writing.{WritesUpTo}
use Rattle.svg_report.specs.Shapes.{drawn_of}
use Rattle.svg_report.proofs.drawing.write_shapes.Given as goal

-- the shapes so far are written
abbrev pub invariant-loop-shape : goal.invariant-loop-shape
invariant-loop-shape g l =
    WritesUpTo g.K.Sink l.fn.sink l.sink (flat_map (λ shape. shape_line (drawn_of shape)) l.shapes) (flat_map (λ shape. shape_line (drawn_of shape)) (drop l.shape-index l.shapes))
