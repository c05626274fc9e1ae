use Rattle.spot_cli.specs.Programs.{IsSound}
use Rattle.spot_run.specs.RunOf.{run_of}
use Rattle.spot_cli.proofs.program.Goals as goal

pub returns-in-Ok : goal.returns-in-Ok
returns-in-Ok g c =
    let was = c.run-status.ensures in
    let sound : IsSound (run_of c.in-Ok.words.items g.S.Source c.args.source.now c.run-status.new.source g.K.Sink c.args.sink.now c.run-status.new.sink c.run-status.result) = record {
      headline = was.headline;
      output = was.output;
      source_read = was.source_read;
      known = was.known;
      bad_words = was.bad_words;
      read_fault = was.read_fault;
      too_long = was.too_long;
      not_json = was.not_json;
      not_tree = was.not_tree;
      refused = was.refused;
      no_problem = was.no_problem;
      late_problem = was.late_problem;
      ego_too_fast = was.ego_too_fast;
      too_many_cells = was.too_many_cells;
      lane_too_wide = was.lane_too_wide;
      too_many_lane_polygons = was.too_many_lane_polygons;
      area_too_wide = was.area_too_wide;
      too_many_boxes = was.too_many_boxes;
      write_fault = was.write_fault;
      complete = was.complete;
    } in
    record { ends = (c.run-status.result, c.finish.ensures.exit, c.finish.ensures.said, rw c.in-Ok.is (sound, was.kept, was.source_kept, was.emptied)) }
