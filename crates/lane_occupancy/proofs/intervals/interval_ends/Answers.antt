use Rattle.std.proofs.Common.{◌+◌, ◌*◌, ◌∙◌, sym, refl}
use Rattle.spot_terms.specs.LanePolygons.{reach_of}
use Rattle.lane_occupancy.proofs.Firsts.{no_ends, next_end}
use Rattle.lane_occupancy.proofs.intervals.interval_ends.Goals as goal

pub loop-i-init : goal.loop-i-init
loop-i-init c = c.in_ok-ends.ensures.items ∙ sym (no_ends c.args.s.now c.args.speed c.args.k)

pub loop-i-preserved : goal.loop-i-preserved
loop-i-preserved c =
    next_end (λ i. reach_of c.args.s.now c.args.speed ((i + 1) * c.args.k)) c.loop-i.i (c.loop-i.i + 1) c.reach_at.result c.loop-i.ends.items c.push.new.self.items refl c.reach_at.ensures c.loop-i.invariant c.in_ok-push.ensures.items
