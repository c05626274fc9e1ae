use Rattle.std.proofs.Common.{take}
use Rattle.spot_claims.specs.Paths.{at_path}
use Rattle.scenario.specs.Table.{path_of}
use Rattle.scenario.specs.Fault.{Least, OneOf, WaysFail}
use Rattle.scenario.proofs.fault.fault_of.Given as goal

abbrev pub invariant-loop-start : goal.invariant-loop-start
invariant-loop-start l = Least (OneOf (λ start. WaysFail l.tree l.line.checks.now (at_path l.tree (path_of start)) l.line.ways.now) (take l.start-index l.line.starts.now)) l.first
