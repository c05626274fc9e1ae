use Rattle.std.specs.Prelude.{pos}
use Rattle.spot_terms.specs.declared.plain.Pt.{Pt}
use Rattle.lane_paths.specs.Waypoints.{entry_at}
use Rattle.lanelets.proofs.Holds.{entry_positions}
use Rattle.lane_paths.proofs.LinkLaws.{entry_links, entry_waypoint}
use Rattle.lane_paths.proofs.RelaxLaws.{on_ok}
use Rattle.lane_paths.proofs.links.relax_entry.Goals as goal

pub entry_of-requires-clause-left : goal.entry_of-requires-clause-left
entry_of-requires-clause-left c = (entry_positions _ _ _ c.cell.ensures.cell_of).0

pub entry_of-requires-clause-right : goal.entry_of-requires-clause-right
entry_of-requires-clause-right c = (entry_positions _ _ _ c.cell.ensures.cell_of).1

pub relax_waypoint-requires-clause-waypoint : goal.relax_waypoint-requires-clause-waypoint
relax_waypoint-requires-clause-waypoint c =
    let at = c.cell.ensures in
    let p : Pt = record { x = pos 0; y = pos 0 } in
    (p, entry_at c.args.net.now p c.args.d, entry_waypoint c.args.net.now p c.args.d c.args.so_far at.net_cell c.cell.result.now.entry c.entry_of.result at.cell_is at.cell_of.entry c.entry_of.ensures)

pub returns-clause-relaxes : goal.returns-clause-relaxes
returns-clause-relaxes c = on_ok c.relax_waypoint.result _ _ (λ relaxes p.
    let at = c.cell.ensures in
    entry_links c.args.net.now p c.args.d c.args.so_far at.net_cell c.cell.result.now.entry c.entry_of.result c.args.search.now c.relax_waypoint.new.search at.cell_is at.cell_of.entry c.entry_of.ensures relaxes) c.relax_waypoint.ensures.relaxes
