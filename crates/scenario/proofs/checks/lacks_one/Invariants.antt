use Rattle.std.proofs.Common.{◌≡◌, take, map, false}
use Rattle.spot_claims.specs.Profile.{lacks_one}
use Rattle.scenario.specs.Table.{text_of}
use Rattle.scenario.proofs.checks.lacks_one.Given as goal

abbrev pub invariant-loop-name : goal.invariant-loop-name
invariant-loop-name l = lacks_one l.tree l.e (map text_of (take l.name-index l.names)) ≡ false
