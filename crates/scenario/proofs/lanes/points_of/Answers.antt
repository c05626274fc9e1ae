use Rattle.spot_terms.specs.Ranges.{IsPairInRange}
use Rattle.std.proofs.Common.{get_or, arith}
use Rattle.spot_claims.specs.Profile.{coordinate}
use Rattle.spot_claims.specs.Scenario.{IsPair}
use Rattle.scenario.specs.Has.{HasPoint}
use Rattle.scenario.proofs.Facts.{pair_is, pair_in, size_of}
use Rattle.scenario.proofs.Members.{item_in, each_taken, pair_taken, each_more}
use Rattle.scenario.proofs.Readings.{held_in}
use Rattle.scenario.proofs.lanes.points_of.Goals as goal

pub loop-e-preserved : goal.loop-e-preserved
loop-e-preserved c =
    let at = c.in-Some.ensures in
    let x = size_of c.in-Some.point.x at.x_within in
    let y = size_of c.in-Some.point.y at.y_within in
    let hx = held_in c.in-Some.point.x 10_000_000_000_000 x (omega arith) in
    let hy = held_in c.in-Some.point.y 10_000_000_000_000 y (omega arith) in
    record {
      has = each_taken (λ n. HasPoint c.args.tree.now n coordinate) c.args.elements.now c.loop-e.e-index 0 c.loop-e-test.true c.loop-e.invariant.has at.has;
      are = pair_taken (IsPair c.args.tree.now) c.args.elements.now c.loop-e.points.items c.push.new.self.items c.loop-e.e-index 0 _ c.loop-e-test.true c.in_ok-push.ensures.items c.loop-e.invariant.are
          (pair_is c.args.tree.now (get_or c.args.elements.now c.loop-e.e-index 0) c.in-Some.point _ hx hy at.holds);
      within = each_more IsPairInRange c.loop-e.points.items c.push.new.self.items _ c.in_ok-push.ensures.items c.loop-e.invariant.within (pair_in c.in-Some.point _ hx hy x y);
    }

pub returns-in_default : goal.returns-in_default
returns-in_default c = λ has. c.in_default.ensures (has (get_or c.args.elements.now c.loop-e.e-index 0) (item_in c.args.elements.now c.loop-e.e-index 0 c.loop-e-test.true))
