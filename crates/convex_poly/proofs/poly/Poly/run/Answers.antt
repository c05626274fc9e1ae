use Rattle.std.proofs.Common.{List, subst, w64, FitsSigned, to_z-of_z}
use Rattle.spot_terms.specs.declared.plain.Pt.{Pt}
use Rattle.convex_poly.specs.Runs.{IsInRows, IsRun}
use Rattle.convex_poly.proofs.poly.Poly.run.Goals as goal

pub returns : goal.returns
returns c =
    let y0 : FitsSigned w64 c.args.y0 = c.ranges.y0 in
    let y1 : FitsSigned w64 c.args.y1 = c.ranges.y1 in
    subst (λ (z : List Pt). IsRun (IsInRows z c.args.y0 c.args.y1) c.run_of.result) c.corners.ensures.items (simp to_z-of_z at c.run_of.ensures)
