use Rattle.carve.proofs.RowCounts.{rows_are_boxes}
use Rattle.carve.proofs.rows_are_boxes.Goals as goal

pub returns : goal.returns
returns c = rows_are_boxes
