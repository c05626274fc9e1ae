use Rattle.std.proofs.Common.{◌<◌, length, arith}
use Rattle.spot_terms.specs.Cells.{cells}
use Rattle.spot_terms.specs.Network.{IsAhead}
use Rattle.spot_terms.proofs.ListLemmas.{all_of}
use Rattle.lane_paths.proofs.LinkLaws.{ahead_within, cell_links, stepped_end}
use Rattle.lane_paths.proofs.RelaxLaws.{on_ok, places_on}
use Rattle.lane_paths.proofs.links.relax_in_cell.Goals as goal

pub reach_end-requires-clause-within : goal.reach_end-requires-clause-within
reach_end-requires-clause-within c = let low = c.requires.within in let n = c.requires.places.count_is in omega (arith, low, n)

pub reach_end-requires-clause-many : goal.reach_end-requires-clause-many
reach_end-requires-clause-many c = c.requires.places.many

pub relax_ahead-requires-clause-places : goal.relax_ahead-requires-clause-places
relax_ahead-requires-clause-places c = places_on c.args.net.now _ c.args.from.now.length c.args.search.now c.reach_end.new.self (c.in_ok-reach_end.ensures 0) c.requires.places

pub relax_ahead-requires-clause-within : goal.relax_ahead-requires-clause-within
relax_ahead-requires-clause-within c = all_of (λ d. d < length (cells c.args.net.now)) c.ahead.result.now (λ d i. ahead_within c.args.net.now c.args.c d (c.ahead.ensures.each d i))

pub returns-clause-relaxes : goal.returns-clause-relaxes
returns-clause-relaxes c = on_ok c.relax_ahead.result _ _ (λ relaxes p i w.
    let at = c.cell.ensures in
    cell_links c.args.net.now p i c.args.c c.args.from.now.length c.ahead.result.now c.args.search.now c.reach_end.new.self c.relax_ahead.new.search c.ahead.ensures.all
    (stepped_end c.args.net.now p i c.args.c c.args.from.now at.net_cell c.cell.result.now.poly c.args.search.now c.reach_end.new.self w at.cell_is at.cell_of.poly (c.in_ok-reach_end.ensures i))
    (relaxes p i c.args.c w (all_of (IsAhead c.args.net.now (cells c.args.net.now) c.args.c) c.ahead.result.now c.ahead.ensures.each))) c.relax_ahead.ensures.relaxes
