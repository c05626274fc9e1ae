use Rattle.std.proofs.Common.{take}
use Rattle.std.specs.BTreeMap.{get}
use Rattle.std.specs.Ordering.{nat_cmp}
use Rattle.scenario.specs.Known.{HasFirsts}
use Rattle.scenario.proofs.known.first_places.Given as goal

abbrev pub invariant-loop-e : goal.invariant-loop-e
invariant-loop-e l = HasFirsts l.tree (take l.e-index l.elements) (get nat_cmp l.firsts)
