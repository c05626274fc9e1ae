use Rattle.std.proofs.Common.{◌≡◌, ◌≤◌, length, refl, ap, pos, get_or, arith}
use Rattle.spot_terms.specs.Limits.{AreFarApart}
use Rattle.lanelets.proofs.WidthLists.{near_next, near_all}
use Rattle.lanelets.proofs.widths.is_too_wide.Goals as goal

pub loop-k-preserved : goal.loop-k-preserved
loop-k-preserved c =
    let here : AreFarApart (get_or c.args.lane.now.left c.loop-k.k (pos 0, pos 0)) (get_or c.args.lane.now.right c.loop-k.k (pos 0, pos 0)) → ⊥ =
    (λ far. (let t = c.are_far_apart.ensures.1 (rw (c.list-left.ensures, c.list-right.ensures) far) in let g = c.if-are_far_apart.false in cc)) in
    near_next c.args.lane.now.left c.args.lane.now.right c.loop-k.k _ (pos 0, pos 0) refl c.loop-k.invariant here

pub returns : goal.returns
returns c =
    let same : length c.list-left.result.now ≡ length c.args.lane.now.left = ap length c.list-left.ensures in
    let past : length c.args.lane.now.left ≤ c.loop-k.k = omega arith in
    (λ t. cc, λ w. absurd (near_all c.args.lane.now c.loop-k.k past c.loop-k.invariant w))
