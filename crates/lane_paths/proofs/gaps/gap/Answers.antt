use Rattle.std.proofs.Common.{◌≡◌, List, false, true}
use Rattle.spot_terms.specs.declared.plain.Pt.{Pt}
use Rattle.convex_poly.proofs.BoxLaws.{box_same}
use Rattle.lane_paths.proofs.GapSteps.{gap_far, gap_common, gap_least}
use Rattle.lane_paths.proofs.gaps.gap.Goals as goal
use Rattle.lane_paths.proofs.gaps.gap.Goals.{then-are_far-via-then-are_far, then-are_far-via-else-are_far+then-not-are_apart}

pub are_apart-requires-clause-a_in : goal.are_apart-requires-clause-a_in
are_apart-requires-clause-a_in c = box_same c.corners-a_corners.result.now c.args.a.now c.of-a_box.result c.corners-a_corners.ensures.items c.of-a_box.ensures

pub are_apart-requires-clause-b_in : goal.are_apart-requires-clause-b_in
are_apart-requires-clause-b_in c = box_same c.corners-b_corners.result.now c.args.b.now c.of-b_box.result c.corners-b_corners.ensures.items c.of-b_box.ensures

pub returns-then-are_far : goal.returns-then-are_far
returns-then-are_far c =
    let a : List Pt = c.args.a.now in
    let b : List Pt = c.args.b.now in
    let far = c.are_far.ensures a b (box_same c.corners-a_corners.result.now a c.of-a_box.result c.corners-a_corners.ensures.items c.of-a_box.ensures) (box_same c.corners-b_corners.result.now b c.of-b_box.result c.corners-b_corners.ensures.items c.of-b_box.ensures) in
    elim c.then-are_far.branch [
      | then-are_far-via-then-are_far w ↦ gap_far a b (far.0 w.if-are_far.true)
      | then-are_far-via-else-are_far+then-not-are_apart w ↦ gap_common a b c.corners-a_corners.ensures.polygon c.corners-b_corners.ensures.polygon
          (λ f. let yes : c.are_far.result ≡ true = far.1 f in let no : c.are_far.result ≡ false = w.if-are_far.false in cc)
          (λ disjoint. let yes : w.are_apart.result ≡ true = w.are_apart.ensures.1 disjoint in let no : w.are_apart.result ≡ false = w.if-not-are_apart.true in cc)
    ]

pub clearance_between-requires-clause-near : goal.clearance_between-requires-clause-near
clearance_between-requires-clause-near c = λ far.
    let yes : c.are_far.result ≡ true = (c.are_far.ensures c.corners-a_corners.result.now c.corners-b_corners.result.now c.of-a_box.ensures c.of-b_box.ensures).1 far in
    let no : c.are_far.result ≡ false = c.if-are_far.false in
    cc

pub returns : goal.returns
returns c =
    let a : List Pt = c.args.a.now in
    let b : List Pt = c.args.b.now in
    let far = c.are_far.ensures a b (box_same c.corners-a_corners.result.now a c.of-a_box.result c.corners-a_corners.ensures.items c.of-a_box.ensures) (box_same c.corners-b_corners.result.now b c.of-b_box.result c.corners-b_corners.ensures.items c.of-b_box.ensures) in
    gap_least a b c.corners-a_corners.result.now c.corners-b_corners.result.now c.clearance_between.result c.isqrt_floor.result c.corners-a_corners.ensures.items c.corners-b_corners.ensures.items
    (λ f. let yes : c.are_far.result ≡ true = far.1 f in let no : c.are_far.result ≡ false = c.if-are_far.false in cc)
    (c.are_apart.ensures.0 c.if-not-are_apart.false) c.clearance_between.ensures.is
    (record { low = c.isqrt_floor.ensures.square_le; high = c.isqrt_floor.ensures.next_square_gt })
