use Rattle.std.proofs.Common.{ℤ, List, FitsSigned, w64, to_z-of_z, refl}
use Rattle.spot_terms.specs.Pieces.{octagon, cut_octagon}
use Rattle.spot_terms.specs.declared.plain.Pt.{Pt}
use Rattle.convex_poly.specs.Boxes.{IsBoxOf}
use Rattle.participants.specs.Pieces.{IsBeside}
use Rattle.participants.proofs.Besides.{cut_by_box, cut_by_octagon}
use Rattle.participants.proofs.pieces.is_piece_beside.Goals as goal

pub returns-then-cut_beside : goal.returns-then-cut_beside
returns-then-cut_beside c = λ yes.
    let f0 : FitsSigned w64 c.args.left = c.ranges.left in
    let f1 : FitsSigned w64 c.args.right = c.ranges.right in
    let beside : (numbers : List ℤ) (corners : List Pt) → IsBoxOf corners c.in-Some.bounds → IsBeside (cut_octagon numbers corners) c.args.left c.args.right = simp to_z-of_z at (c.if-cut_beside.ensures refl) in
    cut_by_box c.args.o.now c.args.bounds.now c.in-Some.bounds c.args.left c.args.right c.in-Some.is beside

pub returns : goal.returns
returns c = λ yes.
    let f0 : FitsSigned w64 c.args.left = c.ranges.left in
    let f1 : FitsSigned w64 c.args.right = c.ranges.right in
    let beside : IsBeside (octagon c.args.o.now.n) c.args.left c.args.right = simp to_z-of_z at (c.octagon_beside.ensures yes) in
    cut_by_octagon c.args.o.now c.args.bounds.now c.args.left c.args.right beside
