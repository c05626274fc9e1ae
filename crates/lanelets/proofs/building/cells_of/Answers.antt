use Rattle.spot_terms.specs.Cells.{lane_cells, bridges_from, cells}
use Rattle.lanelets.specs.Made.{IsPlaced}
use Rattle.lanelets.proofs.Adding.{adds_more, adds_all}
use Rattle.lanelets.proofs.building.cells_of.Goals as goal

pub returns : goal.returns
unfolding cells
returns c =
    let lanes = c.args.lanes.now.entries in
    adds_all (IsPlaced lanes) (cells lanes) c.in_ok-made.made.items c.add_bridges.new.made.items c.in_ok-made.ensures.items
    (adds_more (IsPlaced lanes) (lane_cells 0 lanes) (bridges_from lanes 0 lanes) c.in_ok-made.made.items c.add_lanes.new.made.items c.add_bridges.new.made.items c.in_ok-add_lanes.ensures c.in_ok-add_bridges.ensures)
