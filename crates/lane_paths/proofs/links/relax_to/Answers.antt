use Rattle.std.proofs.Common.{◌+◌, [], ◌∷◌, arith}
use Rattle.spot_terms.specs.Cells.{Portal}
use Rattle.lane_paths.specs.declared.shortest_lengths.ShortestLengths.{ShortestLengths}
use Rattle.lanelets.proofs.Holds.{entry_positions}
use Rattle.lane_paths.proofs.LinkLaws.{stepped_entry, stepped_points}
use Rattle.lane_paths.proofs.RelaxLaws.{on_ok, places_on, step_none}
use Rattle.lane_paths.proofs.links.relax_to.Goals as goal

pub is_entry_done-requires-clause-within : goal.is_entry_done-requires-clause-within
is_entry_done-requires-clause-within c = let low = c.requires.within in let n = c.requires.places.count_is in omega (arith, low, n)

pub is_entry_done-requires-clause-many : goal.is_entry_done-requires-clause-many
is_entry_done-requires-clause-many c = c.requires.places.many

pub returns-then-is_entry_done-clause-relaxes : goal.returns-then-is_entry_done-clause-relaxes
returns-then-is_entry_done-clause-relaxes c = λ p i d w ahead.
    let at = c.cell-cell.ensures in
    let entry : Portal = c.cell-cell.result.now.entry in
    let search : ShortestLengths = c.args.search.now in
    stepped_points c.args.net.now p i d c.args.d search.count c.args.from.now at.net_cell entry search search c.requires.places.count_is w ahead at.cell_is at.cell_of.entry
    (step_none i (search.count + c.args.d) c.args.from.now.length c.args.from.now.shape (entry.0 ∷ entry.1 ∷ []) search (c.is_entry_done.ensures.yes c.if-is_entry_done.true))

pub entry_of-requires-clause-left : goal.entry_of-requires-clause-left
entry_of-requires-clause-left c = (entry_positions _ _ _ c.cell-cell.ensures.cell_of).0

pub entry_of-requires-clause-right : goal.entry_of-requires-clause-right
entry_of-requires-clause-right c = (entry_positions _ _ _ c.cell-cell.ensures.cell_of).1

pub reach_entry-requires-clause-within : goal.reach_entry-requires-clause-within
reach_entry-requires-clause-within c = let low = c.requires.within in let n = c.requires.places.count_is in omega (arith, low, n)

pub reach_entry-requires-clause-many : goal.reach_entry-requires-clause-many
reach_entry-requires-clause-many c = c.requires.places.many

pub returns-clause-places : goal.returns-clause-places
returns-clause-places c = on_ok c.reach_entry.result _ _ (λ steps. places_on c.args.net.now _ c.args.from.now.length c.args.search.now c.reach_entry.new.self (steps 0) c.requires.places) c.reach_entry.ensures

pub returns-clause-relaxes : goal.returns-clause-relaxes
returns-clause-relaxes c = on_ok c.reach_entry.result _ _ (λ steps p i d w ahead.
    let at = c.cell-cell.ensures in
    stepped_entry c.args.net.now p i d c.args.d c.args.search.now.count c.args.from.now at.net_cell c.cell-cell.result.now.entry c.entry_of.result c.args.search.now c.reach_entry.new.self c.requires.places.count_is w
    ahead at.cell_is at.cell_of.entry c.entry_of.ensures (steps i)) c.reach_entry.ensures
