use Rattle.std.proofs.Common.{◌∙◌, arith, ℕ, List, Option}
use Rattle.spot_terms.specs.declared.status.Status.{Status}
use Rattle.spot_claims.specs.Runs.{Run}
use Rattle.spot_run.specs.RunOf.{run_of}
use Rattle.spot_cli.proofs.Endings.{IsSentOn, stays_written, not_done, output_still, headline_still, source_read_still, known_still, bad_words_still, read_fault_still, too_long_still, not_json_still, not_tree_still, refused_still, no_problem_still, late_problem_still, ego_too_fast_still, too_many_cells_still, lane_too_wide_still, too_many_lane_polygons_still, area_too_wide_still, too_many_boxes_still, write_fault_still, complete_still}
use Rattle.spot_cli.proofs.run.Goals as goal

pub returns : goal.returns
returns g c =
    let was = c.run_spot-status.ensures in
    let is = c.flushed.ensures in
    let run : Run = run_of c.args.words.now.items g.S.Source c.args.source.now c.run_spot-status.new.source g.K.Sink c.args.sink.now c.run_spot-status.new.sink c.run_spot-status.result in
    let after : Option (List ℕ) = g.K.Sink.written c.flushed.new.sink in
    let faults : ℕ = g.K.Sink.faults c.flushed.new.sink in
    let status : Status = c.flushed.result in
    let sent : IsSentOn run after faults status = record { ends = is.ends; kept = is.kept; earlier = was.sink_later; later = is.later; cause = is.cause } in
    record {
      headline = headline_still run after faults status sent was.output was.headline;
      output = output_still run after faults status sent was.output;
      kept = λ unwritten. is.untouched (not_done run.status status is.ends unwritten) ∙ was.kept (λ written. unwritten (stays_written run.status status is.ends written));
      source_read = source_read_still run after faults status sent was.source_read;
      source_kept = was.source_kept;
      source_later = was.source_later;
      sink_later = omega arith;
      known = known_still run after faults status sent was.known;
      bad_words = bad_words_still run after faults status sent was.bad_words;
      read_fault = read_fault_still run after faults status sent was.read_fault;
      too_long = too_long_still run after faults status sent was.too_long;
      not_json = not_json_still run after faults status sent was.not_json;
      not_tree = not_tree_still run after faults status sent was.not_tree;
      refused = refused_still run after faults status sent was.refused;
      no_problem = no_problem_still run after faults status sent was.no_problem;
      late_problem = late_problem_still run after faults status sent was.late_problem;
      ego_too_fast = ego_too_fast_still run after faults status sent was.ego_too_fast;
      too_many_cells = too_many_cells_still run after faults status sent was.too_many_cells;
      lane_too_wide = lane_too_wide_still run after faults status sent was.lane_too_wide;
      too_many_lane_polygons = too_many_lane_polygons_still run after faults status sent was.too_many_lane_polygons;
      area_too_wide = area_too_wide_still run after faults status sent was.area_too_wide;
      too_many_boxes = too_many_boxes_still run after faults status sent was.too_many_boxes;
      write_fault = write_fault_still run after faults status sent was.write_fault;
      complete = complete_still run after faults status sent was.write_fault was.complete;
      emptied = is.emptied;
    }
