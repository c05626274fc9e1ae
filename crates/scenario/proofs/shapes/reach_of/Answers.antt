use Rattle.std.proofs.Common.{◌+◌, take, arith, get_or, sym, subst, ℕ}
use Rattle.scenario.specs.Radii.{IsReach}
use Rattle.scenario.proofs.Members.{item_in}
use Rattle.scenario.proofs.Parts.{reach_more}
use Rattle.scenario.proofs.shapes.reach_of.Goals as goal

pub point_at-requires-clause-has : goal.point_at-requires-clause-has
point_at-requires-clause-has c = c.requires.has (get_or c.args.corners.now c.loop-corner.corner-index 0) (item_in c.args.corners.now c.loop-corner.corner-index 0 c.loop-corner-test.true)

pub loop-corner-preserved : goal.loop-corner-preserved
loop-corner-preserved c =
    let P : ℕ → Type 0 = λ r. IsReach c.args.tree.now (take (c.loop-corner.corner-index + 1) c.args.corners.now) r in
    record {
      reach = subst P (sym c.max-reach.ensures) (reach_more c.args.tree.now c.args.corners.now c.loop-corner.corner-index c.loop-corner.reach c.distance.result c.point_at.result c.loop-corner-test.true c.loop-corner.invariant.reach c.point_at.ensures.holds c.distance.ensures.least);
      few = omega (arith, c.max-reach.ensures);
    }
