use Rattle.lanelets.proofs.CellCounts.{all_counted}
use Rattle.lanelets.proofs.counts.cell_count.Goals as goal

pub returns : goal.returns
returns c = all_counted c.args.lanes.now.entries c.total_part_count.result c.bridge_count.result c.total_part_count.ensures.value c.bridge_count.ensures.value
