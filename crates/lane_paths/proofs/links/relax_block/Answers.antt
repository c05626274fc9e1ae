use Rattle.std.proofs.Common.{get_or}
use Rattle.lane_paths.specs.Waypoints.{LinksInCells}
use Rattle.lane_paths.proofs.ClosedLaws.{block_beside, block_first, block_settled, block_within, closed_more, closed_on}
use Rattle.lane_paths.proofs.links.relax_block.Goals as goal

pub returns-then-is_closed-clause-relaxes : goal.returns-then-is_closed-clause-relaxes
returns-then-is_closed-clause-relaxes c = λ p i w. block_settled c.args.net.now p i c.args.from.now.cell c.args.from.now.length (get_or c.args.block.now 0 0) c.args.block.now c.args.closed.now.greatest.items c.args.search.now c.requires.closed c.requires.block
    (block_first c.args.net.now c.args.from.now.cell c.args.block.now c.requires.block) (c.is_closed.ensures c.if-is_closed.true)

pub relax_cells-requires-clause-beside : goal.relax_cells-requires-clause-beside
relax_cells-requires-clause-beside c = block_beside c.args.net.now c.args.from.now.cell c.args.block.now c.requires.block

pub greatest_among-requires-clause-within : goal.greatest_among-requires-clause-within
greatest_among-requires-clause-within c = block_within c.args.net.now c.args.from.now.cell c.args.block.now c.requires.within c.requires.block

pub returns-in_ok-close-clause-closed : goal.returns-in_ok-close-clause-closed
returns-in_ok-close-clause-closed c =
    let (p, i, w) = c.requires.waypoint in
    let kept = closed_on c.args.net.now (LinksInCells c.args.net.now p i c.args.block.now) c.args.from.now.length c.args.search.now c.relax_cells.new.search c.args.closed.now.greatest.items (c.in_ok-relax_cells.ensures.relaxes p i w) c.requires.closed in
    closed_more c.args.net.now c.relax_cells.new.search.lengths c.args.closed.now.greatest.items c.close.new.self.greatest.items c.args.from.now.cell c.in-Some.most (get_or c.args.block.now 0 0) c.args.block.now kept c.requires.block
    (block_first c.args.net.now c.args.from.now.cell c.args.block.now c.requires.block) c.in-Some.ensures c.in_ok-close.ensures

pub returns-in_default-clause-closed : goal.returns-in_default-clause-closed
returns-in_default-clause-closed c =
    let (p, i, w) = c.requires.waypoint in
    closed_on c.args.net.now (LinksInCells c.args.net.now p i c.args.block.now) c.args.from.now.length c.args.search.now c.relax_cells.new.search c.args.closed.now.greatest.items (c.in_ok-relax_cells.ensures.relaxes p i w) c.requires.closed

pub returns-else-block-gt-FEW-clause-closed : goal.returns-else-block-gt-FEW-clause-closed
returns-else-block-gt-FEW-clause-closed c =
    let (p, i, w) = c.requires.waypoint in
    closed_on c.args.net.now (LinksInCells c.args.net.now p i c.args.block.now) c.args.from.now.length c.args.search.now c.relax_cells.new.search c.args.closed.now.greatest.items (c.in_ok-relax_cells.ensures.relaxes p i w) c.requires.closed
