use Rattle.std.proofs.Common.{take}
use Rattle.scenario.specs.Fault.{Least, WaysFail}
use Rattle.scenario.proofs.fault.fault_along.Given as goal

abbrev pub invariant-loop-way : goal.invariant-loop-way
invariant-loop-way l = Least (WaysFail l.tree l.line.checks.now l.elements (take l.way-index l.line.ways.now)) l.first
