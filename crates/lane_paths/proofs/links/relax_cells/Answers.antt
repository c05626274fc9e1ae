use Rattle.std.proofs.Common.{[], List, ℕ, get_or, subst}
use Rattle.std.proofs.lemmas.List.{take_all}
use Rattle.spot_terms.specs.Cells.{cells}
use Rattle.spot_terms.proofs.Places.{all_at}
use Rattle.lanelets.specs.Beside.{IsBeside}
use Rattle.lanelets.proofs.BesideLaws.{beside_within}
use Rattle.lane_paths.specs.Relaxations.{Relaxes}
use Rattle.lane_paths.specs.Waypoints.{LinksInCells}
use Rattle.lane_paths.proofs.LinkLaws.{no_beside, beside_more, waypoint_beside}
use Rattle.lane_paths.proofs.RelaxLaws.{relaxes_none}
use Rattle.lane_paths.proofs.links.relax_cells.Goals as goal

pub loop-c-init : goal.loop-c-init
loop-c-init c = (c.requires.places, λ p i w. relaxes_none (LinksInCells c.args.net.now p i []) c.args.from.now.length c.args.search.now (no_beside c.args.net.now p i))

pub relax_in_cell-requires-clause-places : goal.relax_in_cell-requires-clause-places
relax_in_cell-requires-clause-places c = c.loop-c.invariant.0

pub relax_in_cell-requires-clause-within : goal.relax_in_cell-requires-clause-within
relax_in_cell-requires-clause-within c =
    beside_within c.args.net.now (cells c.args.net.now) (get_or c.args.some.now c.loop-c.c-index 0) c.args.from.now.cell c.requires.within
    (all_at (λ d. IsBeside c.args.net.now (cells c.args.net.now) d c.args.from.now.cell) c.args.some.now c.loop-c.c-index 0 c.requires.beside c.loop-c-test.true)

pub loop-c-preserved : goal.loop-c-preserved
loop-c-preserved c = (
  c.in_ok-relax_in_cell.ensures.places,
  λ p i w.
      beside_more c.args.net.now p i c.loop-c.c-index c.args.from.now.length c.args.some.now c.args.search.now c.loop-c.search c.relax_in_cell.new.search c.loop-c-test.true (c.loop-c.invariant.1 p i w)
      (c.in_ok-relax_in_cell.ensures.relaxes p i (waypoint_beside c.args.net.now p i (get_or c.args.some.now c.loop-c.c-index 0) c.args.from.now.cell c.args.from.now w
      (all_at (λ d. IsBeside c.args.net.now (cells c.args.net.now) d c.args.from.now.cell) c.args.some.now c.loop-c.c-index 0 c.requires.beside c.loop-c-test.true))),
)

pub returns-clause-relaxes : goal.returns-clause-relaxes
returns-clause-relaxes c = λ p i w.
    subst (λ (z : List ℕ). Relaxes (LinksInCells c.args.net.now p i z) c.args.from.now.length c.args.search.now c.loop-c.search) (take_all c.loop-c.c-index c.args.some.now c.loop-c-test.false) (c.loop-c.invariant.1 p i w)
