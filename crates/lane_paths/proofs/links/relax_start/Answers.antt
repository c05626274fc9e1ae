use Rattle.std.proofs.Common.{[], get_or}
use Rattle.spot_terms.specs.Routes.{IsStartCell}
use Rattle.spot_terms.proofs.Places.{all_at}
use Rattle.lane_paths.specs.Waypoints.{LinksFromStart, start_at}
use Rattle.lane_paths.proofs.LinkLaws.{no_starts, start_waypoint, start_within, starts_step, starts_all}
use Rattle.lane_paths.proofs.RelaxLaws.{relaxes_none}
use Rattle.lane_paths.proofs.links.relax_start.Goals as goal

pub polygon_at-requires : goal.polygon_at-requires
polygon_at-requires c = c.requires.near _ (all_at (IsStartCell c.args.net.now c.args.start) c.args.starts.now c.loop-s.s-index 0 c.requires.starts c.loop-s-test.true)

pub relax_waypoint-requires-clause-within : goal.relax_waypoint-requires-clause-within
relax_waypoint-requires-clause-within c = start_within c.args.net.now c.args.start (get_or c.args.starts.now c.loop-s.s-index 0) (all_at (IsStartCell c.args.net.now c.args.start) c.args.starts.now c.loop-s.s-index 0 c.requires.starts c.loop-s-test.true)

pub relax_waypoint-requires-clause-waypoint : goal.relax_waypoint-requires-clause-waypoint
relax_waypoint-requires-clause-waypoint c = (c.args.start, start_at c.args.net.now c.args.start, start_waypoint c.args.net.now c.args.start c.loop-s.s-index c.args.starts.now c.polygon_at.result c.loop-s-test.true c.requires.starts c.polygon_at.ensures)

pub loop-s-init : goal.loop-s-init
loop-s-init c = (c.requires.places, c.requires.closed, relaxes_none (LinksFromStart c.args.net.now c.args.start []) 0 c.args.search.now (no_starts c.args.net.now c.args.start))

pub loop-s-preserved : goal.loop-s-preserved
loop-s-preserved c = (
  c.in_ok-relax_waypoint.ensures.places,
  c.in_ok-relax_waypoint.ensures.closed,
  starts_step c.args.net.now c.args.start c.loop-s.s-index c.args.starts.now c.polygon_at.result c.args.search.now c.loop-s.search c.relax_waypoint.new.search c.loop-s-test.true
      c.requires.starts c.polygon_at.ensures c.loop-s.invariant.2 c.in_ok-relax_waypoint.ensures.relaxes,
)

pub returns-clause-relaxes : goal.returns-clause-relaxes
returns-clause-relaxes c = starts_all c.args.net.now c.args.start c.loop-s.s-index c.args.starts.now c.args.search.now c.loop-s.search c.loop-s-test.false c.loop-s.invariant.2
