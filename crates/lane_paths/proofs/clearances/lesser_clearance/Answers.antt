use Rattle.std.proofs.Common.{get_or}
use Rattle.convex_poly.proofs.Corners.{origin}
use Rattle.spot_terms.proofs.Places.{all_at}
use Rattle.lane_paths.specs.Clearances.{ReachesTo}
use Rattle.lane_paths.proofs.LeastClearances.{lesser_none, lesser_then, lesser_all, reached_down}
use Rattle.lane_paths.proofs.clearances.lesser_clearance.Goals as goal

pub loop-v-init : goal.loop-v-init
loop-v-init c = lesser_none c.args.least c.args.u.now

pub lesser_of-lesser-requires-clause-u_reached : goal.lesser_of-lesser-requires-clause-u_reached
lesser_of-lesser-requires-clause-u_reached c = reached_down c.args.least c.loop-v.lesser c.args.u.now c.loop-v.invariant.at_most c.requires.u_reached

pub lesser_of-lesser-requires-clause-v_reached : goal.lesser_of-lesser-requires-clause-v_reached
lesser_of-lesser-requires-clause-v_reached c = reached_down c.args.least c.loop-v.lesser (get_or c.args.vectors.now c.loop-v.v-index origin) c.loop-v.invariant.at_most (all_at (ReachesTo c.args.least) c.args.vectors.now c.loop-v.v-index origin c.requires.reached c.loop-v-test.true)

pub loop-v-preserved : goal.loop-v-preserved
loop-v-preserved c = lesser_then c.args.least c.args.u.now c.args.vectors.now c.loop-v.v-index origin c.loop-v.lesser c.lesser_of-lesser.result c.loop-v-test.true c.loop-v.invariant c.lesser_of-lesser.ensures

pub returns : goal.returns
returns c = lesser_all c.args.least c.args.u.now c.args.vectors.now c.loop-v.v-index c.loop-v.lesser c.loop-v-test.false c.loop-v.invariant
