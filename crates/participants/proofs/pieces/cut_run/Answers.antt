use Rattle.std.proofs.Common.{FitsSigned, w64, to_z-of_z, None, Some, Option, List, ℤ, ◌≡◌, subst}
use Rattle.spot_terms.specs.Frames.{at}
use Rattle.spot_terms.specs.Pieces.{cut_octagon, InPiece}
use Rattle.spot_terms.specs.Reach.{InOctagon}
use Rattle.convex_poly.specs.Runs.{IsRun, IsSpanOf}
use Rattle.carve.specs.Ranges.{InBoth}
use Rattle.carve.proofs.PieceRuns.{runs_alike}
use Rattle.participants.proofs.pieces.cut_run.Goals as goal

plain : (n : List ℤ) (y0 y1 z0 z1 : ℤ) (run : Option (ℤ × ℤ)) → z0 ≡ y0 → z1 ≡ y1 → IsRun (λ x. InOctagon n (at x z0) × InOctagon n (at x z1)) run → IsRun (λ x. InOctagon n (at x y0) × InOctagon n (at x y1)) run
plain n y0 y1 z0 z1 run e f h = subst (λ (a : ℤ). IsRun (λ x. InOctagon n (at x a) × InOctagon n (at x y1)) run) e (subst (λ (b : ℤ). IsRun (λ x. InOctagon n (at x z0) × InOctagon n (at x b)) run) f h)

pub returns-in_err-of_octagon : goal.returns-in_err-of_octagon
returns-in_err-of_octagon c =
    let f0 : FitsSigned w64 c.args.y0 = c.ranges.y0 in
    let f1 : FitsSigned w64 c.args.y1 = c.ranges.y1 in
    let h = plain c.args.o.now.n c.args.y0 c.args.y1 _ _ None (to_z-of_z f0) (to_z-of_z f1) c.in_err-of_octagon.ensures in
    rw c.from_residual.ensures (λ x k. h x (k.0.0, k.1.0))

pub returns-in_err-of_polygon : goal.returns-in_err-of_polygon
returns-in_err-of_polygon c =
    let f0 : FitsSigned w64 c.args.y0 = c.ranges.y0 in
    let f1 : FitsSigned w64 c.args.y1 = c.ranges.y1 in
    let h = simp to_z-of_z at c.in_err-of_polygon.ensures in
    rw c.from_residual-in_err-of_polygon.ensures (λ x k. h x (k.0.1, k.1.1))

pub returns : goal.returns
returns c =
    let f0 : FitsSigned w64 c.args.y0 = c.ranges.y0 in
    let f1 : FitsSigned w64 c.args.y1 = c.ranges.y1 in
    let a : IsSpanOf (λ x. InOctagon c.args.o.now.n (at x c.args.y0) × InOctagon c.args.o.now.n (at x c.args.y1)) c.in_ok-of_octagon.of_octagon = plain c.args.o.now.n c.args.y0 c.args.y1 _ _ (Some c.in_ok-of_octagon.of_octagon) (to_z-of_z f0) (to_z-of_z f1) c.in_ok-of_octagon.ensures in
    let b = simp to_z-of_z at c.in_ok-of_polygon.ensures in
    runs_alike (InBoth c.in_ok-of_octagon.of_octagon c.in_ok-of_polygon.of_polygon) (λ x. InPiece (cut_octagon c.args.o.now.n c.args.p.now) (at x c.args.y0) × InPiece (cut_octagon c.args.o.now.n c.args.p.now) (at x c.args.y1))
    (λ x w. (let h = (a.exact x).1 w.0 in let k = (b.exact x).1 w.1 in ((h.0, k.0), (h.1, k.1))))
    (λ x k. ((a.exact x).0 (k.0.0, k.1.0), (b.exact x).0 (k.0.1, k.1.1)))
    c.common_span.result c.common_span.ensures
