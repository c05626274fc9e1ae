use Rattle.std.proofs.Common.{◌+◌, drop, length, subst, sym, ℕ, List}
use Rattle.std.specs.List.{flat_map}
use Rattle.spot_terms.specs.Drawings.{shape_line}
use Rattle.svg_report.specs.Shapes.{drawn_of}
use Rattle.spot_io.proofs.Writing.{nothing_yet, next_written, fault_next, takes_next, all_written, text_is}
use Rattle.svg_report.proofs.Parts.{next_of, none_left}
use Rattle.svg_report.proofs.drawing.write_shapes.Goals as goal

pub loop-shape-init : goal.loop-shape-init
loop-shape-init g c = nothing_yet _ _

pub returns-in_err-write : goal.returns-in_err-write
returns-in_err-write g c =
    fault_next _ c.from_residual.result c.loop-shape.invariant (next_of (λ shape. shape_line (drawn_of shape)) c.args.shapes.now c.loop-shape.shape-index c.shape-item.result c.loop-shape-test.true c.shape-item.is)
    (text_is c.put_shape.ensures c.in_err-write.ensures) c.from_residual.ensures.0

pub loop-shape-preserved : goal.loop-shape-preserved
loop-shape-preserved g c =
    next_written c.loop-shape.invariant (next_of (λ shape. shape_line (drawn_of shape)) c.args.shapes.now c.loop-shape.shape-index c.shape-item.result c.loop-shape-test.true c.shape-item.is)
    (text_is c.put_shape.ensures c.in_ok-write.ensures)

pub write-requires : goal.write-requires
write-requires g c =
    let room = takes_next (shape_line (drawn_of c.shape-item.result)) (flat_map (λ shape. shape_line (drawn_of shape)) (drop (c.loop-shape.shape-index + 1) c.args.shapes.now)) c.loop-shape.invariant (next_of (λ shape. shape_line (drawn_of shape)) c.args.shapes.now c.loop-shape.shape-index c.shape-item.result c.loop-shape-test.true c.shape-item.is) (g.met.K.Sink.fewer c.loop-shape.sink) c.requires.room in
    subst (λ (t : List ℕ). g.K.Sink.takes c.loop-shape.sink (length t)) (sym c.put_shape.ensures) room

pub returns : goal.returns
returns g c = all_written tt c.loop-shape.invariant (none_left (λ shape. shape_line (drawn_of shape)) c.args.shapes.now c.loop-shape.shape-index c.loop-shape-test.false)
