use Rattle.std.proofs.Common.{ℤ, w64, arith, get_or, to_z, of_z, ◌-◌, length, None, subst, sym}
use Rattle.std.proofs.lemmas.Int.{to_z-of_z}
use Rattle.convex_poly.proofs.Corners.{origin}
use Rattle.spot_terms.proofs.Places.{all_at}
use Rattle.convex_poly.specs.Polygons.{IsPosition}
use Rattle.convex_poly.specs.Runs.{IsRun, IsStart, IsInRows}
use Rattle.convex_poly.proofs.RunSteps.{IsNarrowed}
use Rattle.convex_poly.proofs.RunRows.{edge_none, edge_more, no_edges, closing_run, span_of, rows_start, corner_some}
use Rattle.convex_poly.proofs.runs.run_of.Goals as goal

pub returns-in_err-span : goal.returns-in_err-span
returns-in_err-span c =
    let e : (x : ℤ) → IsStart c.args.corners.now (to_z w64 (of_z w64 c.args.y0)) (to_z w64 (of_z w64 c.args.y1)) x → ⊥ = c.in_err-span.ensures in
    subst (IsRun (IsInRows c.args.corners.now c.args.y0 c.args.y1)) (sym c.from_residual.ensures)
    (subst (λ (y : ℤ). IsRun (IsInRows c.args.corners.now y c.args.y1) None) (to_z-of_z w64 c.args.y0 c.ranges.y0)
    (subst (λ (y : ℤ). IsRun (IsInRows c.args.corners.now (to_z w64 (of_z w64 c.args.y0)) y) None) (to_z-of_z w64 c.args.y1 c.ranges.y1)
    (λ x s. e x (rows_start c.args.corners.now (to_z w64 (of_z w64 c.args.y0)) (to_z w64 (of_z w64 c.args.y1)) x c.requires.polygon s))))

pub loop-i-init : goal.loop-i-init
loop-i-init c = no_edges c.args.corners.now (to_z w64 (of_z w64 c.args.y0)) (to_z w64 (of_z w64 c.args.y1)) c.in_ok-span.span c.in_ok-span.ensures

pub narrowed-requires-clause-span : goal.narrowed-requires-clause-span
narrowed-requires-clause-span c = span_of c.args.corners.now (to_z w64 (of_z w64 c.args.y0)) (to_z w64 (of_z w64 c.args.y1)) c.loop-i.i c.loop-i.span c.requires.polygon c.loop-i.invariant

pub returns-in_err-span-2 : goal.returns-in_err-span-2
returns-in_err-span-2 c =
    let e : (x : ℤ) → IsNarrowed c.loop-i.span.0 c.loop-i.span.1 (get_or c.args.corners.now (c.loop-i.i - 1) origin) (get_or c.args.corners.now c.loop-i.i origin) (to_z w64 (of_z w64 c.args.y0)) (to_z w64 (of_z w64 c.args.y1)) x → ⊥ = c.in_err-span-2.ensures in
    subst (IsRun (IsInRows c.args.corners.now c.args.y0 c.args.y1)) (sym c.from_residual-in_err-span-2.ensures)
    (subst (λ (y : ℤ). IsRun (IsInRows c.args.corners.now y c.args.y1) None) (to_z-of_z w64 c.args.y0 c.ranges.y0)
    (subst (λ (y : ℤ). IsRun (IsInRows c.args.corners.now (to_z w64 (of_z w64 c.args.y0)) y) None) (to_z-of_z w64 c.args.y1 c.ranges.y1)
    (edge_none c.args.corners.now (to_z w64 (of_z w64 c.args.y0)) (to_z w64 (of_z w64 c.args.y1)) c.loop-i.i origin c.loop-i.span c.requires.polygon c.loop-i.auto.i c.loop-i-test.true c.loop-i.invariant e)))

pub loop-i-preserved : goal.loop-i-preserved
loop-i-preserved c =
    edge_more c.args.corners.now (to_z w64 (of_z w64 c.args.y0)) (to_z w64 (of_z w64 c.args.y1)) c.loop-i.i origin c.loop-i.span c.in_ok-span-2.span c.loop-i.auto.i c.loop-i-test.true c.loop-i.invariant c.in_ok-span-2.ensures

pub narrowed-requires-2-clause-span : goal.narrowed-requires-2-clause-span
narrowed-requires-2-clause-span c = span_of c.args.corners.now (to_z w64 (of_z w64 c.args.y0)) (to_z w64 (of_z w64 c.args.y1)) c.loop-i.i c.loop-i.span c.requires.polygon c.loop-i.invariant

pub narrowed-requires-2-clause-a_in : goal.narrowed-requires-2-clause-a_in
narrowed-requires-2-clause-a_in c = let some = corner_some c.args.corners.now c.requires.polygon in all_at IsPosition c.args.corners.now (length c.args.corners.now - 1) origin c.requires.polygon.positions (omega arith)

pub narrowed-requires-2-clause-b_in : goal.narrowed-requires-2-clause-b_in
narrowed-requires-2-clause-b_in c = all_at IsPosition c.args.corners.now 0 origin c.requires.polygon.positions (corner_some c.args.corners.now c.requires.polygon)

pub returns : goal.returns
returns c =
    let some = corner_some c.args.corners.now c.requires.polygon in
    subst (λ (y : ℤ). IsRun (IsInRows c.args.corners.now y c.args.y1) c.narrowed-2.result) (to_z-of_z w64 c.args.y0 c.ranges.y0)
    (subst (λ (y : ℤ). IsRun (IsInRows c.args.corners.now (to_z w64 (of_z w64 c.args.y0)) y) c.narrowed-2.result) (to_z-of_z w64 c.args.y1 c.ranges.y1)
    (closing_run c.args.corners.now (to_z w64 (of_z w64 c.args.y0)) (to_z w64 (of_z w64 c.args.y1)) c.loop-i.i origin c.loop-i.span c.narrowed-2.result c.requires.polygon some c.loop-i-test.false (c.loop-i.auto.i-end (omega arith)) c.loop-i.invariant c.narrowed-2.ensures))
