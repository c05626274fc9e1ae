use Rattle.std.proofs.Common.{◌++◌, ◌∙◌, ap, refl, ℕ, List}
use Rattle.std.specs.List.{flat_map}
use Rattle.std.specs.Prelude.{codes}
use Rattle.spot_terms.specs.Drawings.{first_line, shape_line, set_line}
use Rattle.spot_io.proofs.Writing.{nothing_yet, next_written, last_written, fault_next, takes_next, takes_rest}
use Rattle.base_sets.specs.Values.{rect_of_box, value_of}
use Rattle.svg_report.specs.Shapes.{drawn_of}
use Rattle.svg_report.proofs.Parts.{parts}
use Rattle.svg_report.proofs.drawing.draw.Goals as goal

pub write_first-requires-clause-room : goal.write_first-requires-clause-room
write_first-requires-clause-room g c =
    takes_next {sink = g.K.Sink} (first_line (rect_of_box c.args.o.now)) _ (nothing_yet c.args.sink.now _) (parts (rect_of_box c.args.o.now) c.args.shapes.now c.args.sets.now) (g.met.K.Sink.fewer c.args.sink.now) c.requires.room

pub returns-in_err-write_first : goal.returns-in_err-write_first
returns-in_err-write_first g c =
    fault_next _ c.from_residual.result (nothing_yet _ _) (parts (rect_of_box c.args.o.now) c.args.shapes.now c.args.sets.now) c.in_err-write_first.ensures c.from_residual.ensures.0

pub write_shapes-requires-clause-room : goal.write_shapes-requires-clause-room
write_shapes-requires-clause-room g c =
    takes_next (flat_map (λ shape. shape_line (drawn_of shape)) c.args.shapes.now) _ (next_written (nothing_yet _ _) (parts (rect_of_box c.args.o.now) c.args.shapes.now c.args.sets.now) c.in_ok-write_first.ensures) refl
    (g.met.K.Sink.fewer c.write_first.new.sink) c.requires.room

pub returns-in_err-write_shapes : goal.returns-in_err-write_shapes
returns-in_err-write_shapes g c =
    fault_next _ c.from_residual-in_err-write_shapes.result (next_written (nothing_yet _ _) (parts (rect_of_box c.args.o.now) c.args.shapes.now c.args.sets.now) c.in_ok-write_first.ensures) refl
    c.in_err-write_shapes.ensures c.from_residual-in_err-write_shapes.ensures.0

pub write_sets-requires : goal.write_sets-requires
write_sets-requires g c =
    takes_next (flat_map (λ b. set_line (value_of b)) c.args.sets.now) _
    (next_written (next_written (nothing_yet _ _) (parts (rect_of_box c.args.o.now) c.args.shapes.now c.args.sets.now) c.in_ok-write_first.ensures) refl c.in_ok-write_shapes.ensures) refl
    (g.met.K.Sink.fewer c.write_shapes.new.sink) c.requires.room

pub returns-in_err-write_sets : goal.returns-in_err-write_sets
returns-in_err-write_sets g c =
    fault_next _ c.from_residual-in_err-write_sets.result
    (next_written (next_written (nothing_yet _ _) (parts (rect_of_box c.args.o.now) c.args.shapes.now c.args.sets.now) c.in_ok-write_first.ensures) refl c.in_ok-write_shapes.ensures) refl
    c.in_err-write_sets.ensures c.from_residual-in_err-write_sets.ensures.0

pub write_last-requires : goal.write_last-requires
write_last-requires g c =
    takes_rest
    (next_written (next_written (next_written (nothing_yet _ _) (parts (rect_of_box c.args.o.now) c.args.shapes.now c.args.sets.now) c.in_ok-write_first.ensures) refl c.in_ok-write_shapes.ensures) refl c.in_ok-write_sets.ensures)
    c.requires.room

pub returns : goal.returns
returns g c =
    last_written
    (next_written (next_written (next_written (nothing_yet _ _) (parts (rect_of_box c.args.o.now) c.args.shapes.now c.args.sets.now) c.in_ok-write_first.ensures) refl c.in_ok-write_shapes.ensures) refl c.in_ok-write_sets.ensures)
    c.write_last.ensures
