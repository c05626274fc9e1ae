use Rattle.std.proofs.Common.{arith}
use Rattle.scenario.specs.Fault.{StartsFail}
use Rattle.scenario.proofs.Faults.{one_step, one_end, all_lines}
use Rattle.scenario.proofs.LanePoints.{no_point_fails}
use Rattle.scenario.proofs.Members.{item_in}
use Rattle.scenario.proofs.RecordedStates.{none_fails}
use Rattle.scenario.proofs.fault.first_fault.Goals as goal

pub fault_of-requires-clause-states : goal.fault_of-requires-clause-states
fault_of-requires-clause-states c = λ t. none_fails c.args.tree.now c.lines-line-items.result.now _ c.lines-line-items.ensures (item_in c.lines-line-items.result.now c.loop-line.line-index _ c.loop-line-test.true) (c.requires.states t)

pub loop-line-preserved : goal.loop-line-preserved
loop-line-preserved c = one_step (StartsFail c.args.tree.now) c.lines-line-items.result.now c.loop-line.line-index _ c.loop-line.first c.in_ok-fault.fault c.first_of-first.result c.loop-line-test.true c.loop-line.invariant c.in_ok-fault.ensures c.first_of-first.ensures

pub returns : goal.returns
returns c = all_lines c.args.tree.now c.lines-line-items.result.now c.loop-line.first c.lines-line-items.ensures (one_end (StartsFail c.args.tree.now) c.lines-line-items.result.now c.loop-line.line-index c.loop-line.first (omega arith) c.loop-line.invariant)

pub fault_of-requires-clause-points : goal.fault_of-requires-clause-points
fault_of-requires-clause-points c = λ t. no_point_fails c.args.tree.now c.lines-line-items.result.now _ c.lines-line-items.ensures (item_in c.lines-line-items.result.now c.loop-line.line-index _ c.loop-line-test.true) (c.requires.points t)
