use Rattle.std.proofs.Common.{rules}
use Rattle.spot_terms.specs.Bodies.{IsGreatest}
use Rattle.convex_poly.specs.Boxes.{LieBeside}
use Rattle.lane_paths.proofs.GapBounds.{disjoint_beside}
use Rattle.lane_paths.proofs.gaps.are_apart.Goals as goal

pub returns-then-beside-gt0 : goal.returns-then-beside-gt0
returns-then-beside-gt0 c =
    let beside : IsGreatest (LieBeside c.args.a.now c.args.b.now) c.beside.result = c.beside.ensures c.args.a.now c.args.b.now c.requires.a_in c.requires.b_in in (
      (λ yes. disjoint_beside c.args.a.now c.args.b.now c.beside.result c.if-beside-gt0.true beside.holds),
      (λ never. search rules),
    )
