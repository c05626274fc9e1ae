use Rattle.std.proofs.Common.{◌<ℤ◌, FitsSigned, w64, rules}
use Rattle.spot_terms.proofs.Orders.{below_of_true}
use Rattle.participants.proofs.Besides.{box_left, box_right}
use Rattle.participants.proofs.pieces.cut_beside.Goals as goal

pub returns-then-bounds-left : goal.returns-then-bounds-left
returns-then-bounds-left c = λ yes numbers corners b.
    let f0 : FitsSigned w64 c.args.left = c.ranges.left in
    let less : c.args.bounds.now.high.x <ℤ c.args.left = below_of_true c.args.bounds.now.high.x c.args.left (search (rules, c.if-bounds-left.true)) in
    box_left numbers corners c.args.bounds.now c.args.left c.args.right b less

pub returns : goal.returns
returns c = λ yes numbers corners b.
    let f1 : FitsSigned w64 c.args.right = c.ranges.right in
    let less : c.args.right <ℤ c.args.bounds.now.low.x = below_of_true c.args.right c.args.bounds.now.low.x (search (rules, yes)) in
    box_right numbers corners c.args.bounds.now c.args.left c.args.right b less
