use Rattle.std.proofs.Common.{Err, refl, ap}
use Rattle.spot_terms.specs.declared.command.Command.{Command}
use Rattle.spot_terms.specs.declared.status.Status.TheVariants.{BadWords, Refused, Memory}
use Rattle.spot_words.specs.Words.{StandsFor}
use Rattle.spot_run.specs.RunOf.{run_of}
use Rattle.spot_run.proofs.Causes.{loaded, failed, no_command_holds}
use Rattle.spot_run.proofs.Runs.{for_command, for_reading, only_sample, read_none, room}
use Rattle.spot_run.proofs.Sampled.{sampled, sample_room}
use Rattle.spot_terms.proofs.Orders.{true_not_false}
use Rattle.spot_run.proofs.run.run_spot.Goals as goal

pub write_output-requires-clause-command : goal.write_output-requires-clause-command
write_output-requires-clause-command g c = (for_command (run_of c.args.words.now.items g.S.Source c.args.source.now c.load.new.source g.K.Sink c.args.sink.now c.args.sink.now Memory) c.in-Ok-Some.field-0 c.in-Ok-Some.command c.in-Ok-Some.field-0-is c.in-Ok-Some.ensures.some c.in-Ok-Some.ensures.only c.in-Ok-Some.ensures.ranges).range

pub write_output-requires-clause-room : goal.write_output-requires-clause-room
write_output-requires-clause-room g c = room (run_of c.args.words.now.items g.S.Source c.args.source.now c.load.new.source g.K.Sink c.args.sink.now c.args.sink.now Memory) (λ n. g.K.Sink.takes c.args.sink.now n) c.in-Ok.scenario c.in-Ok-Some.command c.in-Ok.ensures.scenario.0 c.requires (for_command (run_of c.args.words.now.items g.S.Source c.args.source.now c.load.new.source g.K.Sink c.args.sink.now c.args.sink.now Memory) c.in-Ok-Some.field-0 c.in-Ok-Some.command c.in-Ok-Some.field-0-is c.in-Ok-Some.ensures.some c.in-Ok-Some.ensures.only c.in-Ok-Some.ensures.ranges) (c.reads_input.ensures.0 c.if-not-reads_input.false) (λ bytes is. (c.in-Ok.ensures.told bytes is).1) c.in-Ok.ensures.scenario.1

pub returns-in-Ok-clause-headline : goal.returns-in-Ok-clause-headline
returns-in-Ok-clause-headline g c = (loaded (run_of c.args.words.now.items g.S.Source c.args.source.now c.load.new.source g.K.Sink c.args.sink.now c.write_output.new.sink c.write_output.result) c.in-Ok-Some.command c.in-Ok.scenario (for_command (run_of c.args.words.now.items g.S.Source c.args.source.now c.load.new.source g.K.Sink c.args.sink.now c.write_output.new.sink c.write_output.result) c.in-Ok-Some.field-0 c.in-Ok-Some.command c.in-Ok-Some.field-0-is c.in-Ok-Some.ensures.some c.in-Ok-Some.ensures.only c.in-Ok-Some.ensures.ranges) (c.reads_input.ensures.0 c.if-not-reads_input.false) c.in-Ok.ensures.told c.write_output.ensures.tells c.write_output.ensures.cause).headline

pub returns-in-Ok-clause-output : goal.returns-in-Ok-clause-output
returns-in-Ok-clause-output g c = (loaded (run_of c.args.words.now.items g.S.Source c.args.source.now c.load.new.source g.K.Sink c.args.sink.now c.write_output.new.sink c.write_output.result) c.in-Ok-Some.command c.in-Ok.scenario (for_command (run_of c.args.words.now.items g.S.Source c.args.source.now c.load.new.source g.K.Sink c.args.sink.now c.write_output.new.sink c.write_output.result) c.in-Ok-Some.field-0 c.in-Ok-Some.command c.in-Ok-Some.field-0-is c.in-Ok-Some.ensures.some c.in-Ok-Some.ensures.only c.in-Ok-Some.ensures.ranges) (c.reads_input.ensures.0 c.if-not-reads_input.false) c.in-Ok.ensures.told c.write_output.ensures.tells c.write_output.ensures.cause).output

pub returns-in-Ok-clause-tight : goal.returns-in-Ok-clause-tight
returns-in-Ok-clause-tight g c = (loaded (run_of c.args.words.now.items g.S.Source c.args.source.now c.load.new.source g.K.Sink c.args.sink.now c.write_output.new.sink c.write_output.result) c.in-Ok-Some.command c.in-Ok.scenario (for_command (run_of c.args.words.now.items g.S.Source c.args.source.now c.load.new.source g.K.Sink c.args.sink.now c.write_output.new.sink c.write_output.result) c.in-Ok-Some.field-0 c.in-Ok-Some.command c.in-Ok-Some.field-0-is c.in-Ok-Some.ensures.some c.in-Ok-Some.ensures.only c.in-Ok-Some.ensures.ranges) (c.reads_input.ensures.0 c.if-not-reads_input.false) c.in-Ok.ensures.told c.write_output.ensures.tells c.write_output.ensures.cause).tight

pub returns-in-Ok-clause-source_read : goal.returns-in-Ok-clause-source_read
returns-in-Ok-clause-source_read g c = (loaded (run_of c.args.words.now.items g.S.Source c.args.source.now c.load.new.source g.K.Sink c.args.sink.now c.write_output.new.sink c.write_output.result) c.in-Ok-Some.command c.in-Ok.scenario (for_command (run_of c.args.words.now.items g.S.Source c.args.source.now c.load.new.source g.K.Sink c.args.sink.now c.write_output.new.sink c.write_output.result) c.in-Ok-Some.field-0 c.in-Ok-Some.command c.in-Ok-Some.field-0-is c.in-Ok-Some.ensures.some c.in-Ok-Some.ensures.only c.in-Ok-Some.ensures.ranges) (c.reads_input.ensures.0 c.if-not-reads_input.false) c.in-Ok.ensures.told c.write_output.ensures.tells c.write_output.ensures.cause).source_read

pub returns-in-Ok-clause-known : goal.returns-in-Ok-clause-known
returns-in-Ok-clause-known g c = (loaded (run_of c.args.words.now.items g.S.Source c.args.source.now c.load.new.source g.K.Sink c.args.sink.now c.write_output.new.sink c.write_output.result) c.in-Ok-Some.command c.in-Ok.scenario (for_command (run_of c.args.words.now.items g.S.Source c.args.source.now c.load.new.source g.K.Sink c.args.sink.now c.write_output.new.sink c.write_output.result) c.in-Ok-Some.field-0 c.in-Ok-Some.command c.in-Ok-Some.field-0-is c.in-Ok-Some.ensures.some c.in-Ok-Some.ensures.only c.in-Ok-Some.ensures.ranges) (c.reads_input.ensures.0 c.if-not-reads_input.false) c.in-Ok.ensures.told c.write_output.ensures.tells c.write_output.ensures.cause).known

pub returns-in-Ok-clause-bad_words : goal.returns-in-Ok-clause-bad_words
returns-in-Ok-clause-bad_words g c = (loaded (run_of c.args.words.now.items g.S.Source c.args.source.now c.load.new.source g.K.Sink c.args.sink.now c.write_output.new.sink c.write_output.result) c.in-Ok-Some.command c.in-Ok.scenario (for_command (run_of c.args.words.now.items g.S.Source c.args.source.now c.load.new.source g.K.Sink c.args.sink.now c.write_output.new.sink c.write_output.result) c.in-Ok-Some.field-0 c.in-Ok-Some.command c.in-Ok-Some.field-0-is c.in-Ok-Some.ensures.some c.in-Ok-Some.ensures.only c.in-Ok-Some.ensures.ranges) (c.reads_input.ensures.0 c.if-not-reads_input.false) c.in-Ok.ensures.told c.write_output.ensures.tells c.write_output.ensures.cause).bad_words

pub returns-in-Ok-clause-read_fault : goal.returns-in-Ok-clause-read_fault
returns-in-Ok-clause-read_fault g c = (loaded (run_of c.args.words.now.items g.S.Source c.args.source.now c.load.new.source g.K.Sink c.args.sink.now c.write_output.new.sink c.write_output.result) c.in-Ok-Some.command c.in-Ok.scenario (for_command (run_of c.args.words.now.items g.S.Source c.args.source.now c.load.new.source g.K.Sink c.args.sink.now c.write_output.new.sink c.write_output.result) c.in-Ok-Some.field-0 c.in-Ok-Some.command c.in-Ok-Some.field-0-is c.in-Ok-Some.ensures.some c.in-Ok-Some.ensures.only c.in-Ok-Some.ensures.ranges) (c.reads_input.ensures.0 c.if-not-reads_input.false) c.in-Ok.ensures.told c.write_output.ensures.tells c.write_output.ensures.cause).read_fault

pub returns-in-Ok-clause-too_long : goal.returns-in-Ok-clause-too_long
returns-in-Ok-clause-too_long g c = (loaded (run_of c.args.words.now.items g.S.Source c.args.source.now c.load.new.source g.K.Sink c.args.sink.now c.write_output.new.sink c.write_output.result) c.in-Ok-Some.command c.in-Ok.scenario (for_command (run_of c.args.words.now.items g.S.Source c.args.source.now c.load.new.source g.K.Sink c.args.sink.now c.write_output.new.sink c.write_output.result) c.in-Ok-Some.field-0 c.in-Ok-Some.command c.in-Ok-Some.field-0-is c.in-Ok-Some.ensures.some c.in-Ok-Some.ensures.only c.in-Ok-Some.ensures.ranges) (c.reads_input.ensures.0 c.if-not-reads_input.false) c.in-Ok.ensures.told c.write_output.ensures.tells c.write_output.ensures.cause).too_long

pub returns-in-Ok-clause-not_json : goal.returns-in-Ok-clause-not_json
returns-in-Ok-clause-not_json g c = (loaded (run_of c.args.words.now.items g.S.Source c.args.source.now c.load.new.source g.K.Sink c.args.sink.now c.write_output.new.sink c.write_output.result) c.in-Ok-Some.command c.in-Ok.scenario (for_command (run_of c.args.words.now.items g.S.Source c.args.source.now c.load.new.source g.K.Sink c.args.sink.now c.write_output.new.sink c.write_output.result) c.in-Ok-Some.field-0 c.in-Ok-Some.command c.in-Ok-Some.field-0-is c.in-Ok-Some.ensures.some c.in-Ok-Some.ensures.only c.in-Ok-Some.ensures.ranges) (c.reads_input.ensures.0 c.if-not-reads_input.false) c.in-Ok.ensures.told c.write_output.ensures.tells c.write_output.ensures.cause).not_json

pub returns-in-Ok-clause-not_tree : goal.returns-in-Ok-clause-not_tree
returns-in-Ok-clause-not_tree g c = (loaded (run_of c.args.words.now.items g.S.Source c.args.source.now c.load.new.source g.K.Sink c.args.sink.now c.write_output.new.sink c.write_output.result) c.in-Ok-Some.command c.in-Ok.scenario (for_command (run_of c.args.words.now.items g.S.Source c.args.source.now c.load.new.source g.K.Sink c.args.sink.now c.write_output.new.sink c.write_output.result) c.in-Ok-Some.field-0 c.in-Ok-Some.command c.in-Ok-Some.field-0-is c.in-Ok-Some.ensures.some c.in-Ok-Some.ensures.only c.in-Ok-Some.ensures.ranges) (c.reads_input.ensures.0 c.if-not-reads_input.false) c.in-Ok.ensures.told c.write_output.ensures.tells c.write_output.ensures.cause).not_tree

pub returns-in-Ok-clause-refused : goal.returns-in-Ok-clause-refused
returns-in-Ok-clause-refused g c = (loaded (run_of c.args.words.now.items g.S.Source c.args.source.now c.load.new.source g.K.Sink c.args.sink.now c.write_output.new.sink c.write_output.result) c.in-Ok-Some.command c.in-Ok.scenario (for_command (run_of c.args.words.now.items g.S.Source c.args.source.now c.load.new.source g.K.Sink c.args.sink.now c.write_output.new.sink c.write_output.result) c.in-Ok-Some.field-0 c.in-Ok-Some.command c.in-Ok-Some.field-0-is c.in-Ok-Some.ensures.some c.in-Ok-Some.ensures.only c.in-Ok-Some.ensures.ranges) (c.reads_input.ensures.0 c.if-not-reads_input.false) c.in-Ok.ensures.told c.write_output.ensures.tells c.write_output.ensures.cause).refused

pub returns-in-Ok-clause-no_problem : goal.returns-in-Ok-clause-no_problem
returns-in-Ok-clause-no_problem g c = (loaded (run_of c.args.words.now.items g.S.Source c.args.source.now c.load.new.source g.K.Sink c.args.sink.now c.write_output.new.sink c.write_output.result) c.in-Ok-Some.command c.in-Ok.scenario (for_command (run_of c.args.words.now.items g.S.Source c.args.source.now c.load.new.source g.K.Sink c.args.sink.now c.write_output.new.sink c.write_output.result) c.in-Ok-Some.field-0 c.in-Ok-Some.command c.in-Ok-Some.field-0-is c.in-Ok-Some.ensures.some c.in-Ok-Some.ensures.only c.in-Ok-Some.ensures.ranges) (c.reads_input.ensures.0 c.if-not-reads_input.false) c.in-Ok.ensures.told c.write_output.ensures.tells c.write_output.ensures.cause).no_problem

pub returns-in-Ok-clause-late_problem : goal.returns-in-Ok-clause-late_problem
returns-in-Ok-clause-late_problem g c = (loaded (run_of c.args.words.now.items g.S.Source c.args.source.now c.load.new.source g.K.Sink c.args.sink.now c.write_output.new.sink c.write_output.result) c.in-Ok-Some.command c.in-Ok.scenario (for_command (run_of c.args.words.now.items g.S.Source c.args.source.now c.load.new.source g.K.Sink c.args.sink.now c.write_output.new.sink c.write_output.result) c.in-Ok-Some.field-0 c.in-Ok-Some.command c.in-Ok-Some.field-0-is c.in-Ok-Some.ensures.some c.in-Ok-Some.ensures.only c.in-Ok-Some.ensures.ranges) (c.reads_input.ensures.0 c.if-not-reads_input.false) c.in-Ok.ensures.told c.write_output.ensures.tells c.write_output.ensures.cause).late_problem

pub returns-in-Ok-clause-ego_too_fast : goal.returns-in-Ok-clause-ego_too_fast
returns-in-Ok-clause-ego_too_fast g c = (loaded (run_of c.args.words.now.items g.S.Source c.args.source.now c.load.new.source g.K.Sink c.args.sink.now c.write_output.new.sink c.write_output.result) c.in-Ok-Some.command c.in-Ok.scenario (for_command (run_of c.args.words.now.items g.S.Source c.args.source.now c.load.new.source g.K.Sink c.args.sink.now c.write_output.new.sink c.write_output.result) c.in-Ok-Some.field-0 c.in-Ok-Some.command c.in-Ok-Some.field-0-is c.in-Ok-Some.ensures.some c.in-Ok-Some.ensures.only c.in-Ok-Some.ensures.ranges) (c.reads_input.ensures.0 c.if-not-reads_input.false) c.in-Ok.ensures.told c.write_output.ensures.tells c.write_output.ensures.cause).ego_too_fast

pub returns-in-Ok-clause-too_many_cells : goal.returns-in-Ok-clause-too_many_cells
returns-in-Ok-clause-too_many_cells g c = (loaded (run_of c.args.words.now.items g.S.Source c.args.source.now c.load.new.source g.K.Sink c.args.sink.now c.write_output.new.sink c.write_output.result) c.in-Ok-Some.command c.in-Ok.scenario (for_command (run_of c.args.words.now.items g.S.Source c.args.source.now c.load.new.source g.K.Sink c.args.sink.now c.write_output.new.sink c.write_output.result) c.in-Ok-Some.field-0 c.in-Ok-Some.command c.in-Ok-Some.field-0-is c.in-Ok-Some.ensures.some c.in-Ok-Some.ensures.only c.in-Ok-Some.ensures.ranges) (c.reads_input.ensures.0 c.if-not-reads_input.false) c.in-Ok.ensures.told c.write_output.ensures.tells c.write_output.ensures.cause).too_many_cells

pub returns-in-Ok-clause-lane_too_wide : goal.returns-in-Ok-clause-lane_too_wide
returns-in-Ok-clause-lane_too_wide g c = (loaded (run_of c.args.words.now.items g.S.Source c.args.source.now c.load.new.source g.K.Sink c.args.sink.now c.write_output.new.sink c.write_output.result) c.in-Ok-Some.command c.in-Ok.scenario (for_command (run_of c.args.words.now.items g.S.Source c.args.source.now c.load.new.source g.K.Sink c.args.sink.now c.write_output.new.sink c.write_output.result) c.in-Ok-Some.field-0 c.in-Ok-Some.command c.in-Ok-Some.field-0-is c.in-Ok-Some.ensures.some c.in-Ok-Some.ensures.only c.in-Ok-Some.ensures.ranges) (c.reads_input.ensures.0 c.if-not-reads_input.false) c.in-Ok.ensures.told c.write_output.ensures.tells c.write_output.ensures.cause).lane_too_wide

pub returns-in-Ok-clause-too_many_lane_polygons : goal.returns-in-Ok-clause-too_many_lane_polygons
returns-in-Ok-clause-too_many_lane_polygons g c = (loaded (run_of c.args.words.now.items g.S.Source c.args.source.now c.load.new.source g.K.Sink c.args.sink.now c.write_output.new.sink c.write_output.result) c.in-Ok-Some.command c.in-Ok.scenario (for_command (run_of c.args.words.now.items g.S.Source c.args.source.now c.load.new.source g.K.Sink c.args.sink.now c.write_output.new.sink c.write_output.result) c.in-Ok-Some.field-0 c.in-Ok-Some.command c.in-Ok-Some.field-0-is c.in-Ok-Some.ensures.some c.in-Ok-Some.ensures.only c.in-Ok-Some.ensures.ranges) (c.reads_input.ensures.0 c.if-not-reads_input.false) c.in-Ok.ensures.told c.write_output.ensures.tells c.write_output.ensures.cause).too_many_lane_polygons

pub returns-in-Ok-clause-area_too_wide : goal.returns-in-Ok-clause-area_too_wide
returns-in-Ok-clause-area_too_wide g c = (loaded (run_of c.args.words.now.items g.S.Source c.args.source.now c.load.new.source g.K.Sink c.args.sink.now c.write_output.new.sink c.write_output.result) c.in-Ok-Some.command c.in-Ok.scenario (for_command (run_of c.args.words.now.items g.S.Source c.args.source.now c.load.new.source g.K.Sink c.args.sink.now c.write_output.new.sink c.write_output.result) c.in-Ok-Some.field-0 c.in-Ok-Some.command c.in-Ok-Some.field-0-is c.in-Ok-Some.ensures.some c.in-Ok-Some.ensures.only c.in-Ok-Some.ensures.ranges) (c.reads_input.ensures.0 c.if-not-reads_input.false) c.in-Ok.ensures.told c.write_output.ensures.tells c.write_output.ensures.cause).area_too_wide

pub returns-in-Ok-clause-too_many_boxes : goal.returns-in-Ok-clause-too_many_boxes
returns-in-Ok-clause-too_many_boxes g c = (loaded (run_of c.args.words.now.items g.S.Source c.args.source.now c.load.new.source g.K.Sink c.args.sink.now c.write_output.new.sink c.write_output.result) c.in-Ok-Some.command c.in-Ok.scenario (for_command (run_of c.args.words.now.items g.S.Source c.args.source.now c.load.new.source g.K.Sink c.args.sink.now c.write_output.new.sink c.write_output.result) c.in-Ok-Some.field-0 c.in-Ok-Some.command c.in-Ok-Some.field-0-is c.in-Ok-Some.ensures.some c.in-Ok-Some.ensures.only c.in-Ok-Some.ensures.ranges) (c.reads_input.ensures.0 c.if-not-reads_input.false) c.in-Ok.ensures.told c.write_output.ensures.tells c.write_output.ensures.cause).too_many_boxes

pub returns-in-Ok-clause-write_fault : goal.returns-in-Ok-clause-write_fault
returns-in-Ok-clause-write_fault g c = (loaded (run_of c.args.words.now.items g.S.Source c.args.source.now c.load.new.source g.K.Sink c.args.sink.now c.write_output.new.sink c.write_output.result) c.in-Ok-Some.command c.in-Ok.scenario (for_command (run_of c.args.words.now.items g.S.Source c.args.source.now c.load.new.source g.K.Sink c.args.sink.now c.write_output.new.sink c.write_output.result) c.in-Ok-Some.field-0 c.in-Ok-Some.command c.in-Ok-Some.field-0-is c.in-Ok-Some.ensures.some c.in-Ok-Some.ensures.only c.in-Ok-Some.ensures.ranges) (c.reads_input.ensures.0 c.if-not-reads_input.false) c.in-Ok.ensures.told c.write_output.ensures.tells c.write_output.ensures.cause).write_fault

pub returns-in-Ok-clause-complete : goal.returns-in-Ok-clause-complete
returns-in-Ok-clause-complete g c = (loaded (run_of c.args.words.now.items g.S.Source c.args.source.now c.load.new.source g.K.Sink c.args.sink.now c.write_output.new.sink c.write_output.result) c.in-Ok-Some.command c.in-Ok.scenario (for_command (run_of c.args.words.now.items g.S.Source c.args.source.now c.load.new.source g.K.Sink c.args.sink.now c.write_output.new.sink c.write_output.result) c.in-Ok-Some.field-0 c.in-Ok-Some.command c.in-Ok-Some.field-0-is c.in-Ok-Some.ensures.some c.in-Ok-Some.ensures.only c.in-Ok-Some.ensures.ranges) (c.reads_input.ensures.0 c.if-not-reads_input.false) c.in-Ok.ensures.told c.write_output.ensures.tells c.write_output.ensures.cause).complete

pub returns-in-Err-load-clause-headline : goal.returns-in-Err-load-clause-headline
returns-in-Err-load-clause-headline g c = (failed (run_of c.args.words.now.items g.S.Source c.args.source.now c.load.new.source g.K.Sink c.args.sink.now c.args.sink.now c.in-Err-load.status) c.in-Ok-Some.command (for_command (run_of c.args.words.now.items g.S.Source c.args.source.now c.load.new.source g.K.Sink c.args.sink.now c.args.sink.now c.in-Err-load.status) c.in-Ok-Some.field-0 c.in-Ok-Some.command c.in-Ok-Some.field-0-is c.in-Ok-Some.ensures.some c.in-Ok-Some.ensures.only c.in-Ok-Some.ensures.ranges) (c.reads_input.ensures.0 c.if-not-reads_input.false) c.in-Err-load.ensures.told c.in-Err-load.ensures.answers (λ e. c.in-Err-load.ensures.fault (ap Err e))).headline

pub returns-in-Err-load-clause-output : goal.returns-in-Err-load-clause-output
returns-in-Err-load-clause-output g c = (failed (run_of c.args.words.now.items g.S.Source c.args.source.now c.load.new.source g.K.Sink c.args.sink.now c.args.sink.now c.in-Err-load.status) c.in-Ok-Some.command (for_command (run_of c.args.words.now.items g.S.Source c.args.source.now c.load.new.source g.K.Sink c.args.sink.now c.args.sink.now c.in-Err-load.status) c.in-Ok-Some.field-0 c.in-Ok-Some.command c.in-Ok-Some.field-0-is c.in-Ok-Some.ensures.some c.in-Ok-Some.ensures.only c.in-Ok-Some.ensures.ranges) (c.reads_input.ensures.0 c.if-not-reads_input.false) c.in-Err-load.ensures.told c.in-Err-load.ensures.answers (λ e. c.in-Err-load.ensures.fault (ap Err e))).output

pub returns-in-Err-load-clause-tight : goal.returns-in-Err-load-clause-tight
returns-in-Err-load-clause-tight g c = (failed (run_of c.args.words.now.items g.S.Source c.args.source.now c.load.new.source g.K.Sink c.args.sink.now c.args.sink.now c.in-Err-load.status) c.in-Ok-Some.command (for_command (run_of c.args.words.now.items g.S.Source c.args.source.now c.load.new.source g.K.Sink c.args.sink.now c.args.sink.now c.in-Err-load.status) c.in-Ok-Some.field-0 c.in-Ok-Some.command c.in-Ok-Some.field-0-is c.in-Ok-Some.ensures.some c.in-Ok-Some.ensures.only c.in-Ok-Some.ensures.ranges) (c.reads_input.ensures.0 c.if-not-reads_input.false) c.in-Err-load.ensures.told c.in-Err-load.ensures.answers (λ e. c.in-Err-load.ensures.fault (ap Err e))).tight

pub returns-in-Err-load-clause-source_read : goal.returns-in-Err-load-clause-source_read
returns-in-Err-load-clause-source_read g c = (failed (run_of c.args.words.now.items g.S.Source c.args.source.now c.load.new.source g.K.Sink c.args.sink.now c.args.sink.now c.in-Err-load.status) c.in-Ok-Some.command (for_command (run_of c.args.words.now.items g.S.Source c.args.source.now c.load.new.source g.K.Sink c.args.sink.now c.args.sink.now c.in-Err-load.status) c.in-Ok-Some.field-0 c.in-Ok-Some.command c.in-Ok-Some.field-0-is c.in-Ok-Some.ensures.some c.in-Ok-Some.ensures.only c.in-Ok-Some.ensures.ranges) (c.reads_input.ensures.0 c.if-not-reads_input.false) c.in-Err-load.ensures.told c.in-Err-load.ensures.answers (λ e. c.in-Err-load.ensures.fault (ap Err e))).source_read

pub returns-in-Err-load-clause-known : goal.returns-in-Err-load-clause-known
returns-in-Err-load-clause-known g c = (failed (run_of c.args.words.now.items g.S.Source c.args.source.now c.load.new.source g.K.Sink c.args.sink.now c.args.sink.now c.in-Err-load.status) c.in-Ok-Some.command (for_command (run_of c.args.words.now.items g.S.Source c.args.source.now c.load.new.source g.K.Sink c.args.sink.now c.args.sink.now c.in-Err-load.status) c.in-Ok-Some.field-0 c.in-Ok-Some.command c.in-Ok-Some.field-0-is c.in-Ok-Some.ensures.some c.in-Ok-Some.ensures.only c.in-Ok-Some.ensures.ranges) (c.reads_input.ensures.0 c.if-not-reads_input.false) c.in-Err-load.ensures.told c.in-Err-load.ensures.answers (λ e. c.in-Err-load.ensures.fault (ap Err e))).known

pub returns-in-Err-load-clause-bad_words : goal.returns-in-Err-load-clause-bad_words
returns-in-Err-load-clause-bad_words g c = (failed (run_of c.args.words.now.items g.S.Source c.args.source.now c.load.new.source g.K.Sink c.args.sink.now c.args.sink.now c.in-Err-load.status) c.in-Ok-Some.command (for_command (run_of c.args.words.now.items g.S.Source c.args.source.now c.load.new.source g.K.Sink c.args.sink.now c.args.sink.now c.in-Err-load.status) c.in-Ok-Some.field-0 c.in-Ok-Some.command c.in-Ok-Some.field-0-is c.in-Ok-Some.ensures.some c.in-Ok-Some.ensures.only c.in-Ok-Some.ensures.ranges) (c.reads_input.ensures.0 c.if-not-reads_input.false) c.in-Err-load.ensures.told c.in-Err-load.ensures.answers (λ e. c.in-Err-load.ensures.fault (ap Err e))).bad_words

pub returns-in-Err-load-clause-read_fault : goal.returns-in-Err-load-clause-read_fault
returns-in-Err-load-clause-read_fault g c = (failed (run_of c.args.words.now.items g.S.Source c.args.source.now c.load.new.source g.K.Sink c.args.sink.now c.args.sink.now c.in-Err-load.status) c.in-Ok-Some.command (for_command (run_of c.args.words.now.items g.S.Source c.args.source.now c.load.new.source g.K.Sink c.args.sink.now c.args.sink.now c.in-Err-load.status) c.in-Ok-Some.field-0 c.in-Ok-Some.command c.in-Ok-Some.field-0-is c.in-Ok-Some.ensures.some c.in-Ok-Some.ensures.only c.in-Ok-Some.ensures.ranges) (c.reads_input.ensures.0 c.if-not-reads_input.false) c.in-Err-load.ensures.told c.in-Err-load.ensures.answers (λ e. c.in-Err-load.ensures.fault (ap Err e))).read_fault

pub returns-in-Err-load-clause-too_long : goal.returns-in-Err-load-clause-too_long
returns-in-Err-load-clause-too_long g c = (failed (run_of c.args.words.now.items g.S.Source c.args.source.now c.load.new.source g.K.Sink c.args.sink.now c.args.sink.now c.in-Err-load.status) c.in-Ok-Some.command (for_command (run_of c.args.words.now.items g.S.Source c.args.source.now c.load.new.source g.K.Sink c.args.sink.now c.args.sink.now c.in-Err-load.status) c.in-Ok-Some.field-0 c.in-Ok-Some.command c.in-Ok-Some.field-0-is c.in-Ok-Some.ensures.some c.in-Ok-Some.ensures.only c.in-Ok-Some.ensures.ranges) (c.reads_input.ensures.0 c.if-not-reads_input.false) c.in-Err-load.ensures.told c.in-Err-load.ensures.answers (λ e. c.in-Err-load.ensures.fault (ap Err e))).too_long

pub returns-in-Err-load-clause-not_json : goal.returns-in-Err-load-clause-not_json
returns-in-Err-load-clause-not_json g c = (failed (run_of c.args.words.now.items g.S.Source c.args.source.now c.load.new.source g.K.Sink c.args.sink.now c.args.sink.now c.in-Err-load.status) c.in-Ok-Some.command (for_command (run_of c.args.words.now.items g.S.Source c.args.source.now c.load.new.source g.K.Sink c.args.sink.now c.args.sink.now c.in-Err-load.status) c.in-Ok-Some.field-0 c.in-Ok-Some.command c.in-Ok-Some.field-0-is c.in-Ok-Some.ensures.some c.in-Ok-Some.ensures.only c.in-Ok-Some.ensures.ranges) (c.reads_input.ensures.0 c.if-not-reads_input.false) c.in-Err-load.ensures.told c.in-Err-load.ensures.answers (λ e. c.in-Err-load.ensures.fault (ap Err e))).not_json

pub returns-in-Err-load-clause-not_tree : goal.returns-in-Err-load-clause-not_tree
returns-in-Err-load-clause-not_tree g c = (failed (run_of c.args.words.now.items g.S.Source c.args.source.now c.load.new.source g.K.Sink c.args.sink.now c.args.sink.now c.in-Err-load.status) c.in-Ok-Some.command (for_command (run_of c.args.words.now.items g.S.Source c.args.source.now c.load.new.source g.K.Sink c.args.sink.now c.args.sink.now c.in-Err-load.status) c.in-Ok-Some.field-0 c.in-Ok-Some.command c.in-Ok-Some.field-0-is c.in-Ok-Some.ensures.some c.in-Ok-Some.ensures.only c.in-Ok-Some.ensures.ranges) (c.reads_input.ensures.0 c.if-not-reads_input.false) c.in-Err-load.ensures.told c.in-Err-load.ensures.answers (λ e. c.in-Err-load.ensures.fault (ap Err e))).not_tree

pub returns-in-Err-load-clause-refused : goal.returns-in-Err-load-clause-refused
returns-in-Err-load-clause-refused g c = (failed (run_of c.args.words.now.items g.S.Source c.args.source.now c.load.new.source g.K.Sink c.args.sink.now c.args.sink.now c.in-Err-load.status) c.in-Ok-Some.command (for_command (run_of c.args.words.now.items g.S.Source c.args.source.now c.load.new.source g.K.Sink c.args.sink.now c.args.sink.now c.in-Err-load.status) c.in-Ok-Some.field-0 c.in-Ok-Some.command c.in-Ok-Some.field-0-is c.in-Ok-Some.ensures.some c.in-Ok-Some.ensures.only c.in-Ok-Some.ensures.ranges) (c.reads_input.ensures.0 c.if-not-reads_input.false) c.in-Err-load.ensures.told c.in-Err-load.ensures.answers (λ e. c.in-Err-load.ensures.fault (ap Err e))).refused

pub returns-in-Err-load-clause-no_problem : goal.returns-in-Err-load-clause-no_problem
returns-in-Err-load-clause-no_problem g c = (failed (run_of c.args.words.now.items g.S.Source c.args.source.now c.load.new.source g.K.Sink c.args.sink.now c.args.sink.now c.in-Err-load.status) c.in-Ok-Some.command (for_command (run_of c.args.words.now.items g.S.Source c.args.source.now c.load.new.source g.K.Sink c.args.sink.now c.args.sink.now c.in-Err-load.status) c.in-Ok-Some.field-0 c.in-Ok-Some.command c.in-Ok-Some.field-0-is c.in-Ok-Some.ensures.some c.in-Ok-Some.ensures.only c.in-Ok-Some.ensures.ranges) (c.reads_input.ensures.0 c.if-not-reads_input.false) c.in-Err-load.ensures.told c.in-Err-load.ensures.answers (λ e. c.in-Err-load.ensures.fault (ap Err e))).no_problem

pub returns-in-Err-load-clause-late_problem : goal.returns-in-Err-load-clause-late_problem
returns-in-Err-load-clause-late_problem g c = (failed (run_of c.args.words.now.items g.S.Source c.args.source.now c.load.new.source g.K.Sink c.args.sink.now c.args.sink.now c.in-Err-load.status) c.in-Ok-Some.command (for_command (run_of c.args.words.now.items g.S.Source c.args.source.now c.load.new.source g.K.Sink c.args.sink.now c.args.sink.now c.in-Err-load.status) c.in-Ok-Some.field-0 c.in-Ok-Some.command c.in-Ok-Some.field-0-is c.in-Ok-Some.ensures.some c.in-Ok-Some.ensures.only c.in-Ok-Some.ensures.ranges) (c.reads_input.ensures.0 c.if-not-reads_input.false) c.in-Err-load.ensures.told c.in-Err-load.ensures.answers (λ e. c.in-Err-load.ensures.fault (ap Err e))).late_problem

pub returns-in-Err-load-clause-ego_too_fast : goal.returns-in-Err-load-clause-ego_too_fast
returns-in-Err-load-clause-ego_too_fast g c = (failed (run_of c.args.words.now.items g.S.Source c.args.source.now c.load.new.source g.K.Sink c.args.sink.now c.args.sink.now c.in-Err-load.status) c.in-Ok-Some.command (for_command (run_of c.args.words.now.items g.S.Source c.args.source.now c.load.new.source g.K.Sink c.args.sink.now c.args.sink.now c.in-Err-load.status) c.in-Ok-Some.field-0 c.in-Ok-Some.command c.in-Ok-Some.field-0-is c.in-Ok-Some.ensures.some c.in-Ok-Some.ensures.only c.in-Ok-Some.ensures.ranges) (c.reads_input.ensures.0 c.if-not-reads_input.false) c.in-Err-load.ensures.told c.in-Err-load.ensures.answers (λ e. c.in-Err-load.ensures.fault (ap Err e))).ego_too_fast

pub returns-in-Err-load-clause-too_many_cells : goal.returns-in-Err-load-clause-too_many_cells
returns-in-Err-load-clause-too_many_cells g c = (failed (run_of c.args.words.now.items g.S.Source c.args.source.now c.load.new.source g.K.Sink c.args.sink.now c.args.sink.now c.in-Err-load.status) c.in-Ok-Some.command (for_command (run_of c.args.words.now.items g.S.Source c.args.source.now c.load.new.source g.K.Sink c.args.sink.now c.args.sink.now c.in-Err-load.status) c.in-Ok-Some.field-0 c.in-Ok-Some.command c.in-Ok-Some.field-0-is c.in-Ok-Some.ensures.some c.in-Ok-Some.ensures.only c.in-Ok-Some.ensures.ranges) (c.reads_input.ensures.0 c.if-not-reads_input.false) c.in-Err-load.ensures.told c.in-Err-load.ensures.answers (λ e. c.in-Err-load.ensures.fault (ap Err e))).too_many_cells

pub returns-in-Err-load-clause-lane_too_wide : goal.returns-in-Err-load-clause-lane_too_wide
returns-in-Err-load-clause-lane_too_wide g c = (failed (run_of c.args.words.now.items g.S.Source c.args.source.now c.load.new.source g.K.Sink c.args.sink.now c.args.sink.now c.in-Err-load.status) c.in-Ok-Some.command (for_command (run_of c.args.words.now.items g.S.Source c.args.source.now c.load.new.source g.K.Sink c.args.sink.now c.args.sink.now c.in-Err-load.status) c.in-Ok-Some.field-0 c.in-Ok-Some.command c.in-Ok-Some.field-0-is c.in-Ok-Some.ensures.some c.in-Ok-Some.ensures.only c.in-Ok-Some.ensures.ranges) (c.reads_input.ensures.0 c.if-not-reads_input.false) c.in-Err-load.ensures.told c.in-Err-load.ensures.answers (λ e. c.in-Err-load.ensures.fault (ap Err e))).lane_too_wide

pub returns-in-Err-load-clause-too_many_lane_polygons : goal.returns-in-Err-load-clause-too_many_lane_polygons
returns-in-Err-load-clause-too_many_lane_polygons g c = (failed (run_of c.args.words.now.items g.S.Source c.args.source.now c.load.new.source g.K.Sink c.args.sink.now c.args.sink.now c.in-Err-load.status) c.in-Ok-Some.command (for_command (run_of c.args.words.now.items g.S.Source c.args.source.now c.load.new.source g.K.Sink c.args.sink.now c.args.sink.now c.in-Err-load.status) c.in-Ok-Some.field-0 c.in-Ok-Some.command c.in-Ok-Some.field-0-is c.in-Ok-Some.ensures.some c.in-Ok-Some.ensures.only c.in-Ok-Some.ensures.ranges) (c.reads_input.ensures.0 c.if-not-reads_input.false) c.in-Err-load.ensures.told c.in-Err-load.ensures.answers (λ e. c.in-Err-load.ensures.fault (ap Err e))).too_many_lane_polygons

pub returns-in-Err-load-clause-area_too_wide : goal.returns-in-Err-load-clause-area_too_wide
returns-in-Err-load-clause-area_too_wide g c = (failed (run_of c.args.words.now.items g.S.Source c.args.source.now c.load.new.source g.K.Sink c.args.sink.now c.args.sink.now c.in-Err-load.status) c.in-Ok-Some.command (for_command (run_of c.args.words.now.items g.S.Source c.args.source.now c.load.new.source g.K.Sink c.args.sink.now c.args.sink.now c.in-Err-load.status) c.in-Ok-Some.field-0 c.in-Ok-Some.command c.in-Ok-Some.field-0-is c.in-Ok-Some.ensures.some c.in-Ok-Some.ensures.only c.in-Ok-Some.ensures.ranges) (c.reads_input.ensures.0 c.if-not-reads_input.false) c.in-Err-load.ensures.told c.in-Err-load.ensures.answers (λ e. c.in-Err-load.ensures.fault (ap Err e))).area_too_wide

pub returns-in-Err-load-clause-too_many_boxes : goal.returns-in-Err-load-clause-too_many_boxes
returns-in-Err-load-clause-too_many_boxes g c = (failed (run_of c.args.words.now.items g.S.Source c.args.source.now c.load.new.source g.K.Sink c.args.sink.now c.args.sink.now c.in-Err-load.status) c.in-Ok-Some.command (for_command (run_of c.args.words.now.items g.S.Source c.args.source.now c.load.new.source g.K.Sink c.args.sink.now c.args.sink.now c.in-Err-load.status) c.in-Ok-Some.field-0 c.in-Ok-Some.command c.in-Ok-Some.field-0-is c.in-Ok-Some.ensures.some c.in-Ok-Some.ensures.only c.in-Ok-Some.ensures.ranges) (c.reads_input.ensures.0 c.if-not-reads_input.false) c.in-Err-load.ensures.told c.in-Err-load.ensures.answers (λ e. c.in-Err-load.ensures.fault (ap Err e))).too_many_boxes

pub returns-in-Err-load-clause-write_fault : goal.returns-in-Err-load-clause-write_fault
returns-in-Err-load-clause-write_fault g c = (failed (run_of c.args.words.now.items g.S.Source c.args.source.now c.load.new.source g.K.Sink c.args.sink.now c.args.sink.now c.in-Err-load.status) c.in-Ok-Some.command (for_command (run_of c.args.words.now.items g.S.Source c.args.source.now c.load.new.source g.K.Sink c.args.sink.now c.args.sink.now c.in-Err-load.status) c.in-Ok-Some.field-0 c.in-Ok-Some.command c.in-Ok-Some.field-0-is c.in-Ok-Some.ensures.some c.in-Ok-Some.ensures.only c.in-Ok-Some.ensures.ranges) (c.reads_input.ensures.0 c.if-not-reads_input.false) c.in-Err-load.ensures.told c.in-Err-load.ensures.answers (λ e. c.in-Err-load.ensures.fault (ap Err e))).write_fault

pub returns-in-Err-load-clause-complete : goal.returns-in-Err-load-clause-complete
returns-in-Err-load-clause-complete g c = (failed (run_of c.args.words.now.items g.S.Source c.args.source.now c.load.new.source g.K.Sink c.args.sink.now c.args.sink.now c.in-Err-load.status) c.in-Ok-Some.command (for_command (run_of c.args.words.now.items g.S.Source c.args.source.now c.load.new.source g.K.Sink c.args.sink.now c.args.sink.now c.in-Err-load.status) c.in-Ok-Some.field-0 c.in-Ok-Some.command c.in-Ok-Some.field-0-is c.in-Ok-Some.ensures.some c.in-Ok-Some.ensures.only c.in-Ok-Some.ensures.ranges) (c.reads_input.ensures.0 c.if-not-reads_input.false) c.in-Err-load.ensures.told c.in-Err-load.ensures.answers (λ e. c.in-Err-load.ensures.fault (ap Err e))).complete

pub returns-in-Ok-None-clause-headline : goal.returns-in-Ok-None-clause-headline
returns-in-Ok-None-clause-headline g c = (no_command_holds (run_of c.args.words.now.items g.S.Source c.args.source.now c.args.source.now g.K.Sink c.args.sink.now c.args.sink.now BadWords) refl (read_none ((d : Command) → StandsFor c.args.words.now.items d → ⊥) c.in-Ok-None.field-0 c.in-Ok-None.field-0-is c.in-Ok-None.ensures.none)).headline

pub returns-in-Ok-None-clause-output : goal.returns-in-Ok-None-clause-output
returns-in-Ok-None-clause-output g c = (no_command_holds (run_of c.args.words.now.items g.S.Source c.args.source.now c.args.source.now g.K.Sink c.args.sink.now c.args.sink.now BadWords) refl (read_none ((d : Command) → StandsFor c.args.words.now.items d → ⊥) c.in-Ok-None.field-0 c.in-Ok-None.field-0-is c.in-Ok-None.ensures.none)).output

pub returns-in-Ok-None-clause-tight : goal.returns-in-Ok-None-clause-tight
returns-in-Ok-None-clause-tight g c = (no_command_holds (run_of c.args.words.now.items g.S.Source c.args.source.now c.args.source.now g.K.Sink c.args.sink.now c.args.sink.now BadWords) refl (read_none ((d : Command) → StandsFor c.args.words.now.items d → ⊥) c.in-Ok-None.field-0 c.in-Ok-None.field-0-is c.in-Ok-None.ensures.none)).tight

pub returns-in-Ok-None-clause-source_read : goal.returns-in-Ok-None-clause-source_read
returns-in-Ok-None-clause-source_read g c = (no_command_holds (run_of c.args.words.now.items g.S.Source c.args.source.now c.args.source.now g.K.Sink c.args.sink.now c.args.sink.now BadWords) refl (read_none ((d : Command) → StandsFor c.args.words.now.items d → ⊥) c.in-Ok-None.field-0 c.in-Ok-None.field-0-is c.in-Ok-None.ensures.none)).source_read

pub returns-in-Ok-None-clause-known : goal.returns-in-Ok-None-clause-known
returns-in-Ok-None-clause-known g c = (no_command_holds (run_of c.args.words.now.items g.S.Source c.args.source.now c.args.source.now g.K.Sink c.args.sink.now c.args.sink.now BadWords) refl (read_none ((d : Command) → StandsFor c.args.words.now.items d → ⊥) c.in-Ok-None.field-0 c.in-Ok-None.field-0-is c.in-Ok-None.ensures.none)).known

pub returns-in-Ok-None-clause-bad_words : goal.returns-in-Ok-None-clause-bad_words
returns-in-Ok-None-clause-bad_words g c = (no_command_holds (run_of c.args.words.now.items g.S.Source c.args.source.now c.args.source.now g.K.Sink c.args.sink.now c.args.sink.now BadWords) refl (read_none ((d : Command) → StandsFor c.args.words.now.items d → ⊥) c.in-Ok-None.field-0 c.in-Ok-None.field-0-is c.in-Ok-None.ensures.none)).bad_words

pub returns-in-Ok-None-clause-read_fault : goal.returns-in-Ok-None-clause-read_fault
returns-in-Ok-None-clause-read_fault g c = (no_command_holds (run_of c.args.words.now.items g.S.Source c.args.source.now c.args.source.now g.K.Sink c.args.sink.now c.args.sink.now BadWords) refl (read_none ((d : Command) → StandsFor c.args.words.now.items d → ⊥) c.in-Ok-None.field-0 c.in-Ok-None.field-0-is c.in-Ok-None.ensures.none)).read_fault

pub returns-in-Ok-None-clause-too_long : goal.returns-in-Ok-None-clause-too_long
returns-in-Ok-None-clause-too_long g c = (no_command_holds (run_of c.args.words.now.items g.S.Source c.args.source.now c.args.source.now g.K.Sink c.args.sink.now c.args.sink.now BadWords) refl (read_none ((d : Command) → StandsFor c.args.words.now.items d → ⊥) c.in-Ok-None.field-0 c.in-Ok-None.field-0-is c.in-Ok-None.ensures.none)).too_long

pub returns-in-Ok-None-clause-not_json : goal.returns-in-Ok-None-clause-not_json
returns-in-Ok-None-clause-not_json g c = (no_command_holds (run_of c.args.words.now.items g.S.Source c.args.source.now c.args.source.now g.K.Sink c.args.sink.now c.args.sink.now BadWords) refl (read_none ((d : Command) → StandsFor c.args.words.now.items d → ⊥) c.in-Ok-None.field-0 c.in-Ok-None.field-0-is c.in-Ok-None.ensures.none)).not_json

pub returns-in-Ok-None-clause-not_tree : goal.returns-in-Ok-None-clause-not_tree
returns-in-Ok-None-clause-not_tree g c = (no_command_holds (run_of c.args.words.now.items g.S.Source c.args.source.now c.args.source.now g.K.Sink c.args.sink.now c.args.sink.now BadWords) refl (read_none ((d : Command) → StandsFor c.args.words.now.items d → ⊥) c.in-Ok-None.field-0 c.in-Ok-None.field-0-is c.in-Ok-None.ensures.none)).not_tree

pub returns-in-Ok-None-clause-refused : goal.returns-in-Ok-None-clause-refused
returns-in-Ok-None-clause-refused g c = (no_command_holds (run_of c.args.words.now.items g.S.Source c.args.source.now c.args.source.now g.K.Sink c.args.sink.now c.args.sink.now BadWords) refl (read_none ((d : Command) → StandsFor c.args.words.now.items d → ⊥) c.in-Ok-None.field-0 c.in-Ok-None.field-0-is c.in-Ok-None.ensures.none)).refused

pub returns-in-Ok-None-clause-no_problem : goal.returns-in-Ok-None-clause-no_problem
returns-in-Ok-None-clause-no_problem g c = (no_command_holds (run_of c.args.words.now.items g.S.Source c.args.source.now c.args.source.now g.K.Sink c.args.sink.now c.args.sink.now BadWords) refl (read_none ((d : Command) → StandsFor c.args.words.now.items d → ⊥) c.in-Ok-None.field-0 c.in-Ok-None.field-0-is c.in-Ok-None.ensures.none)).no_problem

pub returns-in-Ok-None-clause-late_problem : goal.returns-in-Ok-None-clause-late_problem
returns-in-Ok-None-clause-late_problem g c = (no_command_holds (run_of c.args.words.now.items g.S.Source c.args.source.now c.args.source.now g.K.Sink c.args.sink.now c.args.sink.now BadWords) refl (read_none ((d : Command) → StandsFor c.args.words.now.items d → ⊥) c.in-Ok-None.field-0 c.in-Ok-None.field-0-is c.in-Ok-None.ensures.none)).late_problem

pub returns-in-Ok-None-clause-ego_too_fast : goal.returns-in-Ok-None-clause-ego_too_fast
returns-in-Ok-None-clause-ego_too_fast g c = (no_command_holds (run_of c.args.words.now.items g.S.Source c.args.source.now c.args.source.now g.K.Sink c.args.sink.now c.args.sink.now BadWords) refl (read_none ((d : Command) → StandsFor c.args.words.now.items d → ⊥) c.in-Ok-None.field-0 c.in-Ok-None.field-0-is c.in-Ok-None.ensures.none)).ego_too_fast

pub returns-in-Ok-None-clause-too_many_cells : goal.returns-in-Ok-None-clause-too_many_cells
returns-in-Ok-None-clause-too_many_cells g c = (no_command_holds (run_of c.args.words.now.items g.S.Source c.args.source.now c.args.source.now g.K.Sink c.args.sink.now c.args.sink.now BadWords) refl (read_none ((d : Command) → StandsFor c.args.words.now.items d → ⊥) c.in-Ok-None.field-0 c.in-Ok-None.field-0-is c.in-Ok-None.ensures.none)).too_many_cells

pub returns-in-Ok-None-clause-lane_too_wide : goal.returns-in-Ok-None-clause-lane_too_wide
returns-in-Ok-None-clause-lane_too_wide g c = (no_command_holds (run_of c.args.words.now.items g.S.Source c.args.source.now c.args.source.now g.K.Sink c.args.sink.now c.args.sink.now BadWords) refl (read_none ((d : Command) → StandsFor c.args.words.now.items d → ⊥) c.in-Ok-None.field-0 c.in-Ok-None.field-0-is c.in-Ok-None.ensures.none)).lane_too_wide

pub returns-in-Ok-None-clause-too_many_lane_polygons : goal.returns-in-Ok-None-clause-too_many_lane_polygons
returns-in-Ok-None-clause-too_many_lane_polygons g c = (no_command_holds (run_of c.args.words.now.items g.S.Source c.args.source.now c.args.source.now g.K.Sink c.args.sink.now c.args.sink.now BadWords) refl (read_none ((d : Command) → StandsFor c.args.words.now.items d → ⊥) c.in-Ok-None.field-0 c.in-Ok-None.field-0-is c.in-Ok-None.ensures.none)).too_many_lane_polygons

pub returns-in-Ok-None-clause-area_too_wide : goal.returns-in-Ok-None-clause-area_too_wide
returns-in-Ok-None-clause-area_too_wide g c = (no_command_holds (run_of c.args.words.now.items g.S.Source c.args.source.now c.args.source.now g.K.Sink c.args.sink.now c.args.sink.now BadWords) refl (read_none ((d : Command) → StandsFor c.args.words.now.items d → ⊥) c.in-Ok-None.field-0 c.in-Ok-None.field-0-is c.in-Ok-None.ensures.none)).area_too_wide

pub returns-in-Ok-None-clause-too_many_boxes : goal.returns-in-Ok-None-clause-too_many_boxes
returns-in-Ok-None-clause-too_many_boxes g c = (no_command_holds (run_of c.args.words.now.items g.S.Source c.args.source.now c.args.source.now g.K.Sink c.args.sink.now c.args.sink.now BadWords) refl (read_none ((d : Command) → StandsFor c.args.words.now.items d → ⊥) c.in-Ok-None.field-0 c.in-Ok-None.field-0-is c.in-Ok-None.ensures.none)).too_many_boxes

pub returns-in-Ok-None-clause-write_fault : goal.returns-in-Ok-None-clause-write_fault
returns-in-Ok-None-clause-write_fault g c = (no_command_holds (run_of c.args.words.now.items g.S.Source c.args.source.now c.args.source.now g.K.Sink c.args.sink.now c.args.sink.now BadWords) refl (read_none ((d : Command) → StandsFor c.args.words.now.items d → ⊥) c.in-Ok-None.field-0 c.in-Ok-None.field-0-is c.in-Ok-None.ensures.none)).write_fault

pub returns-in-Ok-None-clause-complete : goal.returns-in-Ok-None-clause-complete
returns-in-Ok-None-clause-complete g c = (no_command_holds (run_of c.args.words.now.items g.S.Source c.args.source.now c.args.source.now g.K.Sink c.args.sink.now c.args.sink.now BadWords) refl (read_none ((d : Command) → StandsFor c.args.words.now.items d → ⊥) c.in-Ok-None.field-0 c.in-Ok-None.field-0-is c.in-Ok-None.ensures.none)).complete

pub returns-in-Ok-clause-source_kept : goal.returns-in-Ok-clause-source_kept
returns-in-Ok-clause-source_kept g c = λ unread. absurd (unread (for_reading (run_of c.args.words.now.items g.S.Source c.args.source.now c.load.new.source g.K.Sink c.args.sink.now c.write_output.new.sink c.write_output.result) c.in-Ok-Some.command (for_command (run_of c.args.words.now.items g.S.Source c.args.source.now c.load.new.source g.K.Sink c.args.sink.now c.write_output.new.sink c.write_output.result) c.in-Ok-Some.field-0 c.in-Ok-Some.command c.in-Ok-Some.field-0-is c.in-Ok-Some.ensures.some c.in-Ok-Some.ensures.only c.in-Ok-Some.ensures.ranges) (c.reads_input.ensures.0 c.if-not-reads_input.false)))

pub write_sample-requires-clause-command : goal.write_sample-requires-clause-command
write_sample-requires-clause-command g c = (for_command (run_of c.args.words.now.items g.S.Source c.args.source.now c.args.source.now g.K.Sink c.args.sink.now c.args.sink.now Memory) c.in-Ok-Some.field-0 c.in-Ok-Some.command c.in-Ok-Some.field-0-is c.in-Ok-Some.ensures.some c.in-Ok-Some.ensures.only c.in-Ok-Some.ensures.ranges).range

pub write_sample-requires-clause-task : goal.write_sample-requires-clause-task
write_sample-requires-clause-task g c = only_sample c.in-Ok-Some.command.task (λ reads. true_not_false c.reads_input.result (c.reads_input.ensures.1 reads) c.if-not-reads_input.true)

pub write_sample-requires-clause-room : goal.write_sample-requires-clause-room
write_sample-requires-clause-room g c = sample_room (run_of c.args.words.now.items g.S.Source c.args.source.now c.args.source.now g.K.Sink c.args.sink.now c.args.sink.now Memory) (λ n. g.K.Sink.takes c.args.sink.now n) c.in-Ok-Some.command c.requires (for_command (run_of c.args.words.now.items g.S.Source c.args.source.now c.args.source.now g.K.Sink c.args.sink.now c.args.sink.now Memory) c.in-Ok-Some.field-0 c.in-Ok-Some.command c.in-Ok-Some.field-0-is c.in-Ok-Some.ensures.some c.in-Ok-Some.ensures.only c.in-Ok-Some.ensures.ranges) (only_sample c.in-Ok-Some.command.task (λ reads. true_not_false c.reads_input.result (c.reads_input.ensures.1 reads) c.if-not-reads_input.true))

pub returns-then-not-reads_input-clause-headline : goal.returns-then-not-reads_input-clause-headline
returns-then-not-reads_input-clause-headline g c = (sampled (run_of c.args.words.now.items g.S.Source c.args.source.now c.args.source.now g.K.Sink c.args.sink.now c.write_sample.new.sink c.write_sample.result) c.in-Ok-Some.command (for_command (run_of c.args.words.now.items g.S.Source c.args.source.now c.args.source.now g.K.Sink c.args.sink.now c.write_sample.new.sink c.write_sample.result) c.in-Ok-Some.field-0 c.in-Ok-Some.command c.in-Ok-Some.field-0-is c.in-Ok-Some.ensures.some c.in-Ok-Some.ensures.only c.in-Ok-Some.ensures.ranges) (only_sample c.in-Ok-Some.command.task (λ reads. true_not_false c.reads_input.result (c.reads_input.ensures.1 reads) c.if-not-reads_input.true)) c.write_sample.ensures.tells c.write_sample.ensures.cause).headline

pub returns-then-not-reads_input-clause-output : goal.returns-then-not-reads_input-clause-output
returns-then-not-reads_input-clause-output g c = (sampled (run_of c.args.words.now.items g.S.Source c.args.source.now c.args.source.now g.K.Sink c.args.sink.now c.write_sample.new.sink c.write_sample.result) c.in-Ok-Some.command (for_command (run_of c.args.words.now.items g.S.Source c.args.source.now c.args.source.now g.K.Sink c.args.sink.now c.write_sample.new.sink c.write_sample.result) c.in-Ok-Some.field-0 c.in-Ok-Some.command c.in-Ok-Some.field-0-is c.in-Ok-Some.ensures.some c.in-Ok-Some.ensures.only c.in-Ok-Some.ensures.ranges) (only_sample c.in-Ok-Some.command.task (λ reads. true_not_false c.reads_input.result (c.reads_input.ensures.1 reads) c.if-not-reads_input.true)) c.write_sample.ensures.tells c.write_sample.ensures.cause).output

pub returns-then-not-reads_input-clause-tight : goal.returns-then-not-reads_input-clause-tight
returns-then-not-reads_input-clause-tight g c = (sampled (run_of c.args.words.now.items g.S.Source c.args.source.now c.args.source.now g.K.Sink c.args.sink.now c.write_sample.new.sink c.write_sample.result) c.in-Ok-Some.command (for_command (run_of c.args.words.now.items g.S.Source c.args.source.now c.args.source.now g.K.Sink c.args.sink.now c.write_sample.new.sink c.write_sample.result) c.in-Ok-Some.field-0 c.in-Ok-Some.command c.in-Ok-Some.field-0-is c.in-Ok-Some.ensures.some c.in-Ok-Some.ensures.only c.in-Ok-Some.ensures.ranges) (only_sample c.in-Ok-Some.command.task (λ reads. true_not_false c.reads_input.result (c.reads_input.ensures.1 reads) c.if-not-reads_input.true)) c.write_sample.ensures.tells c.write_sample.ensures.cause).tight

pub returns-then-not-reads_input-clause-source_read : goal.returns-then-not-reads_input-clause-source_read
returns-then-not-reads_input-clause-source_read g c = (sampled (run_of c.args.words.now.items g.S.Source c.args.source.now c.args.source.now g.K.Sink c.args.sink.now c.write_sample.new.sink c.write_sample.result) c.in-Ok-Some.command (for_command (run_of c.args.words.now.items g.S.Source c.args.source.now c.args.source.now g.K.Sink c.args.sink.now c.write_sample.new.sink c.write_sample.result) c.in-Ok-Some.field-0 c.in-Ok-Some.command c.in-Ok-Some.field-0-is c.in-Ok-Some.ensures.some c.in-Ok-Some.ensures.only c.in-Ok-Some.ensures.ranges) (only_sample c.in-Ok-Some.command.task (λ reads. true_not_false c.reads_input.result (c.reads_input.ensures.1 reads) c.if-not-reads_input.true)) c.write_sample.ensures.tells c.write_sample.ensures.cause).source_read

pub returns-then-not-reads_input-clause-known : goal.returns-then-not-reads_input-clause-known
returns-then-not-reads_input-clause-known g c = (sampled (run_of c.args.words.now.items g.S.Source c.args.source.now c.args.source.now g.K.Sink c.args.sink.now c.write_sample.new.sink c.write_sample.result) c.in-Ok-Some.command (for_command (run_of c.args.words.now.items g.S.Source c.args.source.now c.args.source.now g.K.Sink c.args.sink.now c.write_sample.new.sink c.write_sample.result) c.in-Ok-Some.field-0 c.in-Ok-Some.command c.in-Ok-Some.field-0-is c.in-Ok-Some.ensures.some c.in-Ok-Some.ensures.only c.in-Ok-Some.ensures.ranges) (only_sample c.in-Ok-Some.command.task (λ reads. true_not_false c.reads_input.result (c.reads_input.ensures.1 reads) c.if-not-reads_input.true)) c.write_sample.ensures.tells c.write_sample.ensures.cause).known

pub returns-then-not-reads_input-clause-bad_words : goal.returns-then-not-reads_input-clause-bad_words
returns-then-not-reads_input-clause-bad_words g c = (sampled (run_of c.args.words.now.items g.S.Source c.args.source.now c.args.source.now g.K.Sink c.args.sink.now c.write_sample.new.sink c.write_sample.result) c.in-Ok-Some.command (for_command (run_of c.args.words.now.items g.S.Source c.args.source.now c.args.source.now g.K.Sink c.args.sink.now c.write_sample.new.sink c.write_sample.result) c.in-Ok-Some.field-0 c.in-Ok-Some.command c.in-Ok-Some.field-0-is c.in-Ok-Some.ensures.some c.in-Ok-Some.ensures.only c.in-Ok-Some.ensures.ranges) (only_sample c.in-Ok-Some.command.task (λ reads. true_not_false c.reads_input.result (c.reads_input.ensures.1 reads) c.if-not-reads_input.true)) c.write_sample.ensures.tells c.write_sample.ensures.cause).bad_words

pub returns-then-not-reads_input-clause-read_fault : goal.returns-then-not-reads_input-clause-read_fault
returns-then-not-reads_input-clause-read_fault g c = (sampled (run_of c.args.words.now.items g.S.Source c.args.source.now c.args.source.now g.K.Sink c.args.sink.now c.write_sample.new.sink c.write_sample.result) c.in-Ok-Some.command (for_command (run_of c.args.words.now.items g.S.Source c.args.source.now c.args.source.now g.K.Sink c.args.sink.now c.write_sample.new.sink c.write_sample.result) c.in-Ok-Some.field-0 c.in-Ok-Some.command c.in-Ok-Some.field-0-is c.in-Ok-Some.ensures.some c.in-Ok-Some.ensures.only c.in-Ok-Some.ensures.ranges) (only_sample c.in-Ok-Some.command.task (λ reads. true_not_false c.reads_input.result (c.reads_input.ensures.1 reads) c.if-not-reads_input.true)) c.write_sample.ensures.tells c.write_sample.ensures.cause).read_fault

pub returns-then-not-reads_input-clause-too_long : goal.returns-then-not-reads_input-clause-too_long
returns-then-not-reads_input-clause-too_long g c = (sampled (run_of c.args.words.now.items g.S.Source c.args.source.now c.args.source.now g.K.Sink c.args.sink.now c.write_sample.new.sink c.write_sample.result) c.in-Ok-Some.command (for_command (run_of c.args.words.now.items g.S.Source c.args.source.now c.args.source.now g.K.Sink c.args.sink.now c.write_sample.new.sink c.write_sample.result) c.in-Ok-Some.field-0 c.in-Ok-Some.command c.in-Ok-Some.field-0-is c.in-Ok-Some.ensures.some c.in-Ok-Some.ensures.only c.in-Ok-Some.ensures.ranges) (only_sample c.in-Ok-Some.command.task (λ reads. true_not_false c.reads_input.result (c.reads_input.ensures.1 reads) c.if-not-reads_input.true)) c.write_sample.ensures.tells c.write_sample.ensures.cause).too_long

pub returns-then-not-reads_input-clause-not_json : goal.returns-then-not-reads_input-clause-not_json
returns-then-not-reads_input-clause-not_json g c = (sampled (run_of c.args.words.now.items g.S.Source c.args.source.now c.args.source.now g.K.Sink c.args.sink.now c.write_sample.new.sink c.write_sample.result) c.in-Ok-Some.command (for_command (run_of c.args.words.now.items g.S.Source c.args.source.now c.args.source.now g.K.Sink c.args.sink.now c.write_sample.new.sink c.write_sample.result) c.in-Ok-Some.field-0 c.in-Ok-Some.command c.in-Ok-Some.field-0-is c.in-Ok-Some.ensures.some c.in-Ok-Some.ensures.only c.in-Ok-Some.ensures.ranges) (only_sample c.in-Ok-Some.command.task (λ reads. true_not_false c.reads_input.result (c.reads_input.ensures.1 reads) c.if-not-reads_input.true)) c.write_sample.ensures.tells c.write_sample.ensures.cause).not_json

pub returns-then-not-reads_input-clause-not_tree : goal.returns-then-not-reads_input-clause-not_tree
returns-then-not-reads_input-clause-not_tree g c = (sampled (run_of c.args.words.now.items g.S.Source c.args.source.now c.args.source.now g.K.Sink c.args.sink.now c.write_sample.new.sink c.write_sample.result) c.in-Ok-Some.command (for_command (run_of c.args.words.now.items g.S.Source c.args.source.now c.args.source.now g.K.Sink c.args.sink.now c.write_sample.new.sink c.write_sample.result) c.in-Ok-Some.field-0 c.in-Ok-Some.command c.in-Ok-Some.field-0-is c.in-Ok-Some.ensures.some c.in-Ok-Some.ensures.only c.in-Ok-Some.ensures.ranges) (only_sample c.in-Ok-Some.command.task (λ reads. true_not_false c.reads_input.result (c.reads_input.ensures.1 reads) c.if-not-reads_input.true)) c.write_sample.ensures.tells c.write_sample.ensures.cause).not_tree

pub returns-then-not-reads_input-clause-refused : goal.returns-then-not-reads_input-clause-refused
returns-then-not-reads_input-clause-refused g c = (sampled (run_of c.args.words.now.items g.S.Source c.args.source.now c.args.source.now g.K.Sink c.args.sink.now c.write_sample.new.sink c.write_sample.result) c.in-Ok-Some.command (for_command (run_of c.args.words.now.items g.S.Source c.args.source.now c.args.source.now g.K.Sink c.args.sink.now c.write_sample.new.sink c.write_sample.result) c.in-Ok-Some.field-0 c.in-Ok-Some.command c.in-Ok-Some.field-0-is c.in-Ok-Some.ensures.some c.in-Ok-Some.ensures.only c.in-Ok-Some.ensures.ranges) (only_sample c.in-Ok-Some.command.task (λ reads. true_not_false c.reads_input.result (c.reads_input.ensures.1 reads) c.if-not-reads_input.true)) c.write_sample.ensures.tells c.write_sample.ensures.cause).refused

pub returns-then-not-reads_input-clause-no_problem : goal.returns-then-not-reads_input-clause-no_problem
returns-then-not-reads_input-clause-no_problem g c = (sampled (run_of c.args.words.now.items g.S.Source c.args.source.now c.args.source.now g.K.Sink c.args.sink.now c.write_sample.new.sink c.write_sample.result) c.in-Ok-Some.command (for_command (run_of c.args.words.now.items g.S.Source c.args.source.now c.args.source.now g.K.Sink c.args.sink.now c.write_sample.new.sink c.write_sample.result) c.in-Ok-Some.field-0 c.in-Ok-Some.command c.in-Ok-Some.field-0-is c.in-Ok-Some.ensures.some c.in-Ok-Some.ensures.only c.in-Ok-Some.ensures.ranges) (only_sample c.in-Ok-Some.command.task (λ reads. true_not_false c.reads_input.result (c.reads_input.ensures.1 reads) c.if-not-reads_input.true)) c.write_sample.ensures.tells c.write_sample.ensures.cause).no_problem

pub returns-then-not-reads_input-clause-late_problem : goal.returns-then-not-reads_input-clause-late_problem
returns-then-not-reads_input-clause-late_problem g c = (sampled (run_of c.args.words.now.items g.S.Source c.args.source.now c.args.source.now g.K.Sink c.args.sink.now c.write_sample.new.sink c.write_sample.result) c.in-Ok-Some.command (for_command (run_of c.args.words.now.items g.S.Source c.args.source.now c.args.source.now g.K.Sink c.args.sink.now c.write_sample.new.sink c.write_sample.result) c.in-Ok-Some.field-0 c.in-Ok-Some.command c.in-Ok-Some.field-0-is c.in-Ok-Some.ensures.some c.in-Ok-Some.ensures.only c.in-Ok-Some.ensures.ranges) (only_sample c.in-Ok-Some.command.task (λ reads. true_not_false c.reads_input.result (c.reads_input.ensures.1 reads) c.if-not-reads_input.true)) c.write_sample.ensures.tells c.write_sample.ensures.cause).late_problem

pub returns-then-not-reads_input-clause-ego_too_fast : goal.returns-then-not-reads_input-clause-ego_too_fast
returns-then-not-reads_input-clause-ego_too_fast g c = (sampled (run_of c.args.words.now.items g.S.Source c.args.source.now c.args.source.now g.K.Sink c.args.sink.now c.write_sample.new.sink c.write_sample.result) c.in-Ok-Some.command (for_command (run_of c.args.words.now.items g.S.Source c.args.source.now c.args.source.now g.K.Sink c.args.sink.now c.write_sample.new.sink c.write_sample.result) c.in-Ok-Some.field-0 c.in-Ok-Some.command c.in-Ok-Some.field-0-is c.in-Ok-Some.ensures.some c.in-Ok-Some.ensures.only c.in-Ok-Some.ensures.ranges) (only_sample c.in-Ok-Some.command.task (λ reads. true_not_false c.reads_input.result (c.reads_input.ensures.1 reads) c.if-not-reads_input.true)) c.write_sample.ensures.tells c.write_sample.ensures.cause).ego_too_fast

pub returns-then-not-reads_input-clause-too_many_cells : goal.returns-then-not-reads_input-clause-too_many_cells
returns-then-not-reads_input-clause-too_many_cells g c = (sampled (run_of c.args.words.now.items g.S.Source c.args.source.now c.args.source.now g.K.Sink c.args.sink.now c.write_sample.new.sink c.write_sample.result) c.in-Ok-Some.command (for_command (run_of c.args.words.now.items g.S.Source c.args.source.now c.args.source.now g.K.Sink c.args.sink.now c.write_sample.new.sink c.write_sample.result) c.in-Ok-Some.field-0 c.in-Ok-Some.command c.in-Ok-Some.field-0-is c.in-Ok-Some.ensures.some c.in-Ok-Some.ensures.only c.in-Ok-Some.ensures.ranges) (only_sample c.in-Ok-Some.command.task (λ reads. true_not_false c.reads_input.result (c.reads_input.ensures.1 reads) c.if-not-reads_input.true)) c.write_sample.ensures.tells c.write_sample.ensures.cause).too_many_cells

pub returns-then-not-reads_input-clause-lane_too_wide : goal.returns-then-not-reads_input-clause-lane_too_wide
returns-then-not-reads_input-clause-lane_too_wide g c = (sampled (run_of c.args.words.now.items g.S.Source c.args.source.now c.args.source.now g.K.Sink c.args.sink.now c.write_sample.new.sink c.write_sample.result) c.in-Ok-Some.command (for_command (run_of c.args.words.now.items g.S.Source c.args.source.now c.args.source.now g.K.Sink c.args.sink.now c.write_sample.new.sink c.write_sample.result) c.in-Ok-Some.field-0 c.in-Ok-Some.command c.in-Ok-Some.field-0-is c.in-Ok-Some.ensures.some c.in-Ok-Some.ensures.only c.in-Ok-Some.ensures.ranges) (only_sample c.in-Ok-Some.command.task (λ reads. true_not_false c.reads_input.result (c.reads_input.ensures.1 reads) c.if-not-reads_input.true)) c.write_sample.ensures.tells c.write_sample.ensures.cause).lane_too_wide

pub returns-then-not-reads_input-clause-too_many_lane_polygons : goal.returns-then-not-reads_input-clause-too_many_lane_polygons
returns-then-not-reads_input-clause-too_many_lane_polygons g c = (sampled (run_of c.args.words.now.items g.S.Source c.args.source.now c.args.source.now g.K.Sink c.args.sink.now c.write_sample.new.sink c.write_sample.result) c.in-Ok-Some.command (for_command (run_of c.args.words.now.items g.S.Source c.args.source.now c.args.source.now g.K.Sink c.args.sink.now c.write_sample.new.sink c.write_sample.result) c.in-Ok-Some.field-0 c.in-Ok-Some.command c.in-Ok-Some.field-0-is c.in-Ok-Some.ensures.some c.in-Ok-Some.ensures.only c.in-Ok-Some.ensures.ranges) (only_sample c.in-Ok-Some.command.task (λ reads. true_not_false c.reads_input.result (c.reads_input.ensures.1 reads) c.if-not-reads_input.true)) c.write_sample.ensures.tells c.write_sample.ensures.cause).too_many_lane_polygons

pub returns-then-not-reads_input-clause-area_too_wide : goal.returns-then-not-reads_input-clause-area_too_wide
returns-then-not-reads_input-clause-area_too_wide g c = (sampled (run_of c.args.words.now.items g.S.Source c.args.source.now c.args.source.now g.K.Sink c.args.sink.now c.write_sample.new.sink c.write_sample.result) c.in-Ok-Some.command (for_command (run_of c.args.words.now.items g.S.Source c.args.source.now c.args.source.now g.K.Sink c.args.sink.now c.write_sample.new.sink c.write_sample.result) c.in-Ok-Some.field-0 c.in-Ok-Some.command c.in-Ok-Some.field-0-is c.in-Ok-Some.ensures.some c.in-Ok-Some.ensures.only c.in-Ok-Some.ensures.ranges) (only_sample c.in-Ok-Some.command.task (λ reads. true_not_false c.reads_input.result (c.reads_input.ensures.1 reads) c.if-not-reads_input.true)) c.write_sample.ensures.tells c.write_sample.ensures.cause).area_too_wide

pub returns-then-not-reads_input-clause-too_many_boxes : goal.returns-then-not-reads_input-clause-too_many_boxes
returns-then-not-reads_input-clause-too_many_boxes g c = (sampled (run_of c.args.words.now.items g.S.Source c.args.source.now c.args.source.now g.K.Sink c.args.sink.now c.write_sample.new.sink c.write_sample.result) c.in-Ok-Some.command (for_command (run_of c.args.words.now.items g.S.Source c.args.source.now c.args.source.now g.K.Sink c.args.sink.now c.write_sample.new.sink c.write_sample.result) c.in-Ok-Some.field-0 c.in-Ok-Some.command c.in-Ok-Some.field-0-is c.in-Ok-Some.ensures.some c.in-Ok-Some.ensures.only c.in-Ok-Some.ensures.ranges) (only_sample c.in-Ok-Some.command.task (λ reads. true_not_false c.reads_input.result (c.reads_input.ensures.1 reads) c.if-not-reads_input.true)) c.write_sample.ensures.tells c.write_sample.ensures.cause).too_many_boxes

pub returns-then-not-reads_input-clause-write_fault : goal.returns-then-not-reads_input-clause-write_fault
returns-then-not-reads_input-clause-write_fault g c = (sampled (run_of c.args.words.now.items g.S.Source c.args.source.now c.args.source.now g.K.Sink c.args.sink.now c.write_sample.new.sink c.write_sample.result) c.in-Ok-Some.command (for_command (run_of c.args.words.now.items g.S.Source c.args.source.now c.args.source.now g.K.Sink c.args.sink.now c.write_sample.new.sink c.write_sample.result) c.in-Ok-Some.field-0 c.in-Ok-Some.command c.in-Ok-Some.field-0-is c.in-Ok-Some.ensures.some c.in-Ok-Some.ensures.only c.in-Ok-Some.ensures.ranges) (only_sample c.in-Ok-Some.command.task (λ reads. true_not_false c.reads_input.result (c.reads_input.ensures.1 reads) c.if-not-reads_input.true)) c.write_sample.ensures.tells c.write_sample.ensures.cause).write_fault

pub returns-then-not-reads_input-clause-complete : goal.returns-then-not-reads_input-clause-complete
returns-then-not-reads_input-clause-complete g c = (sampled (run_of c.args.words.now.items g.S.Source c.args.source.now c.args.source.now g.K.Sink c.args.sink.now c.write_sample.new.sink c.write_sample.result) c.in-Ok-Some.command (for_command (run_of c.args.words.now.items g.S.Source c.args.source.now c.args.source.now g.K.Sink c.args.sink.now c.write_sample.new.sink c.write_sample.result) c.in-Ok-Some.field-0 c.in-Ok-Some.command c.in-Ok-Some.field-0-is c.in-Ok-Some.ensures.some c.in-Ok-Some.ensures.only c.in-Ok-Some.ensures.ranges) (only_sample c.in-Ok-Some.command.task (λ reads. true_not_false c.reads_input.result (c.reads_input.ensures.1 reads) c.if-not-reads_input.true)) c.write_sample.ensures.tells c.write_sample.ensures.cause).complete

pub write_output-requires-clause-reads : goal.write_output-requires-clause-reads
write_output-requires-clause-reads g c = c.reads_input.ensures.0 c.if-not-reads_input.false
