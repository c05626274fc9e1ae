use Rattle.std.proofs.Common.{take}
use Rattle.scenario.specs.Fault.{Least, ElementsFail}
use Rattle.scenario.proofs.fault.fault_among.Given as goal

abbrev pub invariant-loop-e : goal.invariant-loop-e
invariant-loop-e l = Least (ElementsFail l.tree l.checks (take l.e-index l.elements)) l.first
