use Rattle.std.proofs.Common.{◌≡◌, take, map, true}
use Rattle.spot_claims.specs.Profile.{lacks_all}
use Rattle.scenario.specs.Table.{text_of}
use Rattle.scenario.proofs.checks.lacks_all.Given as goal

abbrev pub invariant-loop-name : goal.invariant-loop-name
invariant-loop-name l = lacks_all l.tree l.e (map text_of (take l.name-index l.names)) ≡ true
