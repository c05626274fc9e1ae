use Rattle.std.proofs.Common.{arith}
use Rattle.spot_claims.specs.Paths.{at_path}
use Rattle.scenario.specs.Table.{path_of}
use Rattle.scenario.specs.Fault.{WaysFail}
use Rattle.scenario.proofs.Faults.{one_step, one_end}
use Rattle.scenario.proofs.Members.{item_in}
use Rattle.scenario.proofs.fault.fault_of.Goals as goal

pub fault_from-requires-clause-states : goal.fault_from-requires-clause-states
fault_from-requires-clause-states c = λ t. c.requires.states t _ (item_in c.args.line.now.starts.now c.loop-start.start-index _ c.loop-start-test.true)

pub loop-start-preserved : goal.loop-start-preserved
loop-start-preserved c = one_step (λ start. WaysFail c.args.tree.now c.args.line.now.checks.now (at_path c.args.tree.now (path_of start)) c.args.line.now.ways.now) c.args.line.now.starts.now c.loop-start.start-index _ c.loop-start.first c.in_ok-fault.fault c.first_of-first.result c.loop-start-test.true c.loop-start.invariant c.in_ok-fault.ensures c.first_of-first.ensures

pub returns : goal.returns
returns c = one_end (λ start. WaysFail c.args.tree.now c.args.line.now.checks.now (at_path c.args.tree.now (path_of start)) c.args.line.now.ways.now) c.args.line.now.starts.now c.loop-start.start-index c.loop-start.first (omega arith) c.loop-start.invariant

pub returns-then-line-gt1 : goal.returns-then-line-gt1
returns-then-line-gt1 c = c.requires.points c.if-has_points.true c.if-line-eq1.true c.if-line-gt1.true
