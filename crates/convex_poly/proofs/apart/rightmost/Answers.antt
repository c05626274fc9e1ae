use Rattle.std.proofs.Common.{sym, subst}
use Rattle.convex_poly.specs.Pivots.{IsLeftwards}
use Rattle.convex_poly.proofs.Corners.{origin}
use Rattle.spot_terms.proofs.ListLemmas.{includes_at}
use Rattle.convex_poly.proofs.Leans.{rightmost_none, rightmost_next, rightmost_all}
use Rattle.convex_poly.proofs.apart.rightmost.Goals as goal

pub loop-p-init : goal.loop-p-init
loop-p-init c = record {
  size = c.minus-vector.ensures.size;
  right = λ v all. rightmost_none v c.minus-vector.result c.args.a.now c.args.b.now (subst (IsLeftwards v) (sym c.minus-vector.ensures.value) (all _ (includes_at c.args.a.now 0 origin c.requires.a_some) _ (includes_at c.args.b.now 0 origin c.requires.b_some)));
}

pub loop-p-preserved : goal.loop-p-preserved
loop-p-preserved c = record {
  size = c.rightmost_to-vector.ensures.size;
  right = λ v all.
      let before = c.loop-p.invariant.right v all in
      rightmost_next v c.loop-p.vector c.rightmost_to-vector.result c.args.a.now c.args.b.now c.loop-p.p-index origin c.loop-p-test.true all before
      (c.rightmost_to-vector.ensures.leans v before.leftwards (all _ (includes_at c.args.a.now c.loop-p.p-index origin c.loop-p-test.true)));
}

pub returns-clause-right : goal.returns-clause-right
returns-clause-right c v all = rightmost_all v c.loop-p.vector c.args.a.now c.args.b.now c.loop-p.p-index c.loop-p-test.false all (c.loop-p.invariant.right v all)
