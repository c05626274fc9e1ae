use Rattle.std.proofs.Common.{◌<◌, length, sym, arith}
use Rattle.lanelets.proofs.LinkLists.{place_some, place_none}
use Rattle.lanelets.proofs.LaneCells.{buildable_few}
use Rattle.lanelets.proofs.links.place_of.Goals as goal

pub returns-in-Some : goal.returns-in-Some
returns-in-Some c = place_some c.args.lanes.now.entries c.args.id c.in-Some.place (sym c.in-Some.ensures.index) c.get_index_of.ensures.unique

pub returns-in-None : goal.returns-in-None
returns-in-None c = place_none c.args.lanes.now c.args.id c.get_index_of.ensures.unique (sym c.in-None.ensures.found)

pub overflow_cast-result : goal.overflow_cast-result
overflow_cast-result c = let few = buildable_few c.args.lanes.now.entries c.requires in let low : c.in-Some.place < length c.args.lanes.now.entries = c.in-Some.ensures.within in omega (arith, few, low)
