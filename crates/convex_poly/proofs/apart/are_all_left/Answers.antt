use Rattle.std.proofs.Common.{◌≡◌, get_or, refl, true, false}
use Rattle.convex_poly.specs.Pivots.{AreLeftwards}
use Rattle.convex_poly.proofs.Corners.{origin}
use Rattle.spot_terms.proofs.ListLemmas.{includes_at}
use Rattle.spot_terms.proofs.Places.{below_and_here, all_places}
use Rattle.convex_poly.proofs.apart.are_all_left.Goals as goal

pub returns-then-not-are_left : goal.returns-then-not-are_left
returns-then-not-are_left c = (
  (λ never. absurd (let h : false ≡ true = never in cc)),
  (λ all. absurd (
      let yes : c.are_left.result ≡ true = c.are_left.ensures.1 (all (get_or c.args.a.now c.loop-p.p-index origin) (includes_at c.args.a.now c.loop-p.p-index origin c.loop-p-test.true)) in
      let no : c.are_left.result ≡ false = c.if-not-are_left.true in
      cc)),
)

pub loop-p-preserved : goal.loop-p-preserved
loop-p-preserved c =
    below_and_here (λ p. AreLeftwards c.args.vector.now p c.args.b.now) c.args.a.now c.loop-p.p-index origin c.loop-p-test.true c.loop-p.invariant
    (c.are_left.ensures.0 c.if-not-are_left.false)

pub returns : goal.returns
returns c = (
  (λ yes. all_places (λ p. AreLeftwards c.args.vector.now p c.args.b.now) c.args.a.now c.loop-p.p-index c.loop-p-test.false c.loop-p.invariant),
  (λ all. refl),
)
