use Rattle.std.proofs.Common.{rules, FitsSigned, w64, to_z-of_z}
use Rattle.spot_terms.specs.Frames.{at}
use Rattle.convex_poly.specs.Runs.{IsRun, IsSpanOf}
use Rattle.carve.specs.Ranges.{HitsAmong, InBoth}
use Rattle.carve.proofs.PieceRuns.{runs_alike}
use Rattle.carve.proofs.among.run_among.Goals as goal

pub returns-clause-run : goal.returns-clause-run
returns-clause-run g c =
    let fits_low : FitsSigned w64 c.args.low = c.ranges.low in
    let fits_high : FitsSigned w64 c.args.high = c.ranges.high in
    let fits_first : FitsSigned w64 c.args.columns.now.first = search rules in
    let fits_last : FitsSigned w64 c.args.columns.now.last = search rules in
    let fits_0 : FitsSigned w64 c.in_ok-run.run'.0 = search rules in
    let fits_1 : FitsSigned w64 c.in_ok-run.run'.1 = search rules in
    let hits = g.O.Occupied.hits c.args.o.now c.args.step in
    let run : IsSpanOf (λ x. hits c.args.piece (at x c.args.low) × hits c.args.piece (at x c.args.high)) c.in_ok-run.run' = simp to_z-of_z at c.in_ok-run.ensures.run in
    let both : IsRun (InBoth c.in_ok-run.run' (c.args.columns.now.first, c.args.columns.now.last)) c.common_span.result = simp to_z-of_z at c.common_span.ensures in
    runs_alike (InBoth c.in_ok-run.run' (c.args.columns.now.first, c.args.columns.now.last))
    (λ x. HitsAmong c.args.columns.now.first c.args.columns.now.last hits c.args.piece (at x c.args.low) × HitsAmong c.args.columns.now.first c.args.columns.now.last hits c.args.piece (at x c.args.high))
    (λ x k. (let h = (run.exact x).1 k.0 in ((h.0, k.1), (h.1, k.1))))
    (λ x k. ((run.exact x).0 (k.0.0, k.1.0), k.0.1))
    c.common_span.result both
