use Rattle.std.proofs.Common.{◌≡◌, ◌∙◌, ℤ, w64, to_z, of_z, to_z-of_z, FitsSigned, subst}
use Rattle.std.specs.Int.{int_max, int_min}
use Rattle.convex_poly.specs.Runs.{IsRun}
use Rattle.convex_poly.proofs.OctRuns.{InBoth, rows_turned}
use Rattle.convex_poly.proofs.Wide.{back}
use Rattle.convex_poly.proofs.oct_numbers.OctNumbers.run.Goals as goal

pub returns : goal.returns
returns c =
    let y0 : FitsSigned w64 c.args.y0 = c.ranges.y0 in
    let y1 : FitsSigned w64 c.args.y1 = c.ranges.y1 in
    let least : c.min.result ≡ int_min c.args.y0 c.args.y1 = simp to_z-of_z at c.min.ensures.value in
    let greatest : c.max.result ≡ int_max c.args.y0 c.args.y1 = simp to_z-of_z at c.max.ensures.value in
    let both : IsRun (InBoth c.args.self.now.n (to_z w64 (of_z w64 c.min.result)) (to_z w64 (of_z w64 c.max.result))) c.run_between.result = c.run_between.ensures in
    rows_turned c.args.self.now.n c.args.y0 c.args.y1 c.run_between.result
    (subst (λ (z : ℤ). IsRun (InBoth c.args.self.now.n z (int_max c.args.y0 c.args.y1)) c.run_between.result) (back c.min.result c.min.type_inv ∙ least)
    (subst (λ (z : ℤ). IsRun (InBoth c.args.self.now.n (to_z w64 (of_z w64 c.min.result)) z) c.run_between.result) (back c.max.result c.max.type_inv ∙ greatest) both))
