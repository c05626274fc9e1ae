use Rattle.std.proofs.Common.{◌+◌, drop, length, subst, sym, ℕ, List}
use Rattle.std.specs.List.{flat_map}
use Rattle.spot_terms.specs.Drawings.{set_line}
use Rattle.base_sets.specs.Values.{value_of}
use Rattle.spot_io.proofs.Writing.{nothing_yet, next_written, fault_next, takes_next, all_written, text_is}
use Rattle.svg_report.proofs.Parts.{next_of, none_left}
use Rattle.svg_report.proofs.drawing.write_sets.Goals as goal

pub loop-b-init : goal.loop-b-init
loop-b-init g c = nothing_yet _ _

pub returns-in_err-write : goal.returns-in_err-write
returns-in_err-write g c =
    fault_next _ c.from_residual.result c.loop-b.invariant (next_of (λ b. set_line (value_of b)) c.args.sets.now c.loop-b.b-index c.b-item.result c.loop-b-test.true c.b-item.is)
    (text_is c.put_set.ensures c.in_err-write.ensures) c.from_residual.ensures.0

pub loop-b-preserved : goal.loop-b-preserved
loop-b-preserved g c =
    next_written c.loop-b.invariant (next_of (λ b. set_line (value_of b)) c.args.sets.now c.loop-b.b-index c.b-item.result c.loop-b-test.true c.b-item.is)
    (text_is c.put_set.ensures c.in_ok-write.ensures)

pub write-requires : goal.write-requires
write-requires g c =
    let room = takes_next (set_line (value_of c.b-item.result)) (flat_map (λ b. set_line (value_of b)) (drop (c.loop-b.b-index + 1) c.args.sets.now)) c.loop-b.invariant (next_of (λ b. set_line (value_of b)) c.args.sets.now c.loop-b.b-index c.b-item.result c.loop-b-test.true c.b-item.is) (g.met.K.Sink.fewer c.loop-b.sink) c.requires in
    subst (λ (t : List ℕ). g.K.Sink.takes c.loop-b.sink (length t)) (sym c.put_set.ensures) room

pub returns : goal.returns
returns g c = all_written tt c.loop-b.invariant (none_left (λ b. set_line (value_of b)) c.args.sets.now c.loop-b.b-index c.loop-b-test.false)
