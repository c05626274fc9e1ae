use Rattle.std.proofs.Common.{take}
use Rattle.scenario.specs.Fault.{Least, LinesFail}
use Rattle.scenario.proofs.fault.first_fault.Given as goal

abbrev pub invariant-loop-line : goal.invariant-loop-line
invariant-loop-line l = Least (LinesFail l.tree (take l.line-index l.line-items)) l.first
