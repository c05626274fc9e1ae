use Rattle.std.proofs.Common.{◌≡◌, get_or, subst, sym, refl, true, false}
use Rattle.convex_poly.specs.Pivots.{IsLeftwards}
use Rattle.convex_poly.specs.Vectors.{minus}
use Rattle.convex_poly.proofs.Corners.{origin}
use Rattle.spot_terms.proofs.ListLemmas.{includes_at}
use Rattle.spot_terms.proofs.Places.{below_and_here, all_places}
use Rattle.convex_poly.proofs.apart.are_left.Goals as goal

pub returns-then-not-is_leftwards : goal.returns-then-not-is_leftwards
returns-then-not-is_leftwards c = (
  (λ never. absurd (let h : false ≡ true = never in cc)),
  (λ all. absurd (
      let here : IsLeftwards c.args.vector.now c.minus.result = subst (IsLeftwards c.args.vector.now) (sym c.minus.ensures.value) (all (get_or c.args.b.now c.loop-q.q-index origin) (includes_at c.args.b.now c.loop-q.q-index origin c.loop-q-test.true)) in
      let yes : c.is_leftwards.result ≡ true = c.is_leftwards.ensures.1 here in
      let no : c.is_leftwards.result ≡ false = c.if-not-is_leftwards.true in
      cc)),
)

pub loop-q-preserved : goal.loop-q-preserved
loop-q-preserved c =
    below_and_here (λ q. IsLeftwards c.args.vector.now (minus c.args.p.now q)) c.args.b.now c.loop-q.q-index origin c.loop-q-test.true c.loop-q.invariant
    (subst (IsLeftwards c.args.vector.now) c.minus.ensures.value (c.is_leftwards.ensures.0 c.if-not-is_leftwards.false))

pub returns : goal.returns
returns c = (
  (λ yes. all_places (λ q. IsLeftwards c.args.vector.now (minus c.args.p.now q)) c.args.b.now c.loop-q.q-index c.loop-q-test.false c.loop-q.invariant),
  (λ all. refl),
)
