use Rattle.std.proofs.Common.{map}
use Rattle.spot_terms.specs.Report.{report_text}
use Rattle.spot_io.proofs.Writing.{nothing_yet, next_written, last_written, fault_next, takes_next, takes_rest}
use Rattle.base_sets.specs.Values.{value_of}
use Rattle.area_report.specs.Areas.{disc_lines}
use Rattle.area_report.proofs.StepTexts.{text_parts}
use Rattle.area_report.proofs.area.write_step.Goals as goal

pub write_discs-requires : goal.write_discs-requires
write_discs-requires g c =
    takes_next {sink = g.K.Sink} (report_text (disc_lines c.args.step c.args.discs.now)) _ (nothing_yet c.args.sink.now _)
    (text_parts c.args.step c.args.discs.now (map value_of c.args.sets.now)) (g.met.K.Sink.fewer c.args.sink.now) c.requires

pub returns-in_err-write_discs : goal.returns-in_err-write_discs
returns-in_err-write_discs g c =
    fault_next _ c.from_residual.result (nothing_yet _ _) (text_parts c.args.step c.args.discs.now (map value_of c.args.sets.now)) c.in_err-write_discs.ensures c.from_residual.ensures.0

pub write_sets-requires : goal.write_sets-requires
write_sets-requires g c = takes_rest (next_written (nothing_yet _ _) (text_parts c.args.step c.args.discs.now (map value_of c.args.sets.now)) c.in_ok-write_discs.ensures) c.requires

pub returns : goal.returns
returns g c = last_written (next_written (nothing_yet _ _) (text_parts c.args.step c.args.discs.now (map value_of c.args.sets.now)) c.in_ok-write_discs.ensures) c.write_sets.ensures
