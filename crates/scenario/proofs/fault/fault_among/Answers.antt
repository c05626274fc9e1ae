use Rattle.std.proofs.Common.{arith}
use Rattle.scenario.specs.Fault.{ChecksFail}
use Rattle.scenario.proofs.Faults.{one_step, one_end}
use Rattle.scenario.proofs.fault.fault_among.Goals as goal

pub loop-e-preserved : goal.loop-e-preserved
loop-e-preserved c = one_step (ChecksFail c.args.tree.now c.args.checks.now) c.args.elements.now c.loop-e.e-index 0 c.loop-e.first c.fault_at.result c.first_of-first.result c.loop-e-test.true c.loop-e.invariant c.fault_at.ensures c.first_of-first.ensures

pub returns : goal.returns
returns c = one_end (ChecksFail c.args.tree.now c.args.checks.now) c.args.elements.now c.loop-e.e-index c.loop-e.first (omega arith) c.loop-e.invariant
