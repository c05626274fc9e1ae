use Rattle.std.proofs.Common.{FitsSigned, w64, to_z-of_z, ℤ, ◌↔◌}
use Rattle.std.specs.Prelude.{IsTrue}
use Rattle.spot_terms.specs.Frames.{at}
use Rattle.spot_terms.specs.Whole.{Within}
use Rattle.convex_poly.specs.Runs.{IsSpanOf}
use Rattle.area_run.proofs.Starting.{across}
use Rattle.area_run.proofs.first.is_across.Goals as goal

pub returns-in-Some : goal.returns-in-Some
returns-in-Some g c =
    let fits_low : FitsSigned w64 c.args.low = c.ranges.low in
    let fits_high : FitsSigned w64 c.args.high = c.ranges.high in
    let fits_x : FitsSigned w64 c.args.x = c.ranges.x in
    let span : IsSpanOf (λ x. g.O.Occupied.hits c.args.o.now 0 c.args.piece (at x c.args.low) × g.O.Occupied.hits c.args.o.now 0 c.args.piece (at x c.args.high)) c.in-Some.span = simp to_z-of_z at c.in-Some.ensures in
    let within : IsTrue c.is_within.result ↔ Within c.in-Some.span.0 c.in-Some.span.1 c.args.x = simp to_z-of_z at c.is_within.ensures in
    across (λ x. g.O.Occupied.hits c.args.o.now 0 c.args.piece (at x c.args.low) × g.O.Occupied.hits c.args.o.now 0 c.args.piece (at x c.args.high)) c.in-Some.span c.args.x c.is_within.result span within

pub returns-in-None : goal.returns-in-None
returns-in-None g c =
    let fits_low : FitsSigned w64 c.args.low = c.ranges.low in
    let fits_high : FitsSigned w64 c.args.high = c.ranges.high in
    let none : (x : ℤ) → g.O.Occupied.hits c.args.o.now 0 c.args.piece (at x c.args.low) × g.O.Occupied.hits c.args.o.now 0 c.args.piece (at x c.args.high) → ⊥ = simp to_z-of_z at c.in-None.ensures in
    (λ t. cc, λ p. absurd (none c.args.x p))
