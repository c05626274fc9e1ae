use Rattle.lanelets.proofs.PartCounts.{part_counts_are}
use Rattle.lanelets.proofs.part_counts_are.Goals as goal

pub returns : goal.returns
returns c = part_counts_are
