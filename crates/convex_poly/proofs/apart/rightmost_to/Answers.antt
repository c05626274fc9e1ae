use Rattle.std.proofs.Common.{◌<ℤ◌, ◌≤ℤ◌, pos, arith, sym, subst, List, ℕ, ◌+◌}
use Rattle.std.proofs.lemmas.Int.{ints}
use Rattle.spot_terms.specs.declared.plain.Pt.{Pt}
use Rattle.convex_poly.specs.Pivots.{LeansTo}
use Rattle.convex_poly.specs.Vectors.{IsVector}
use Rattle.convex_poly.proofs.Corners.{origin}
use Rattle.convex_poly.proofs.Leans.{FirstWays, leans_none, leans_keep, leans_next, leans_whole}
use Rattle.convex_poly.proofs.apart.rightmost_to.Goals as goal
use Rattle.convex_poly.proofs.apart.rightmost_to.Goals.{then-turn-lt0, else-turn-lt0}

pub loop-q-init : goal.loop-q-init
loop-q-init c = record { size = c.requires.from_in; leans = λ v l all. leans_none v c.args.from c.args.p.now c.args.b.now l }

pub loop-q-preserved : goal.loop-q-preserved
loop-q-preserved c =
    let b : List Pt = c.args.b.now in
    let from : Pt = c.args.from in
    let p : Pt = c.args.p.now in
    let i : ℕ = c.loop-q.q-index in
    elim c.if-turn-lt0.branch [
      | then-turn-lt0 w ↦
          let t = w.if-turn-lt0.true in
          let right : c.turn.result <ℤ pos 0 = omega (arith, ints) in
          record {
            size = subst IsVector (sym w.vector-is) c.minus-next.ensures.size;
            leans = λ v l all. subst (λ z. LeansTo v from z (FirstWays p b (i + 1))) (sym w.vector-is)
                (leans_next v from c.loop-q.vector p b i origin c.minus-next.result c.loop-q-test.true c.minus-next.ensures.value all (c.loop-q.invariant.leans v l all) (subst (λ z. z <ℤ pos 0) c.turn.ensures.value right));
          }
      | else-turn-lt0 w ↦
          let t = w.if-turn-lt0.false in
          let left : pos 0 ≤ℤ c.turn.result = omega (arith, ints) in
          record {
            size = subst IsVector (sym w.vector-is) c.loop-q.invariant.size;
            leans = λ v l all. subst (λ z. LeansTo v from z (FirstWays p b (i + 1))) (sym w.vector-is)
                (leans_keep v from c.loop-q.vector p b i origin c.minus-next.result c.loop-q-test.true c.minus-next.ensures.value (c.loop-q.invariant.leans v l all) (subst (λ z. pos 0 ≤ℤ z) c.turn.ensures.value left));
          }
    ]

pub returns-clause-leans : goal.returns-clause-leans
returns-clause-leans c v l all = leans_whole v c.args.from c.loop-q.vector c.args.p.now c.args.b.now c.loop-q.q-index c.loop-q-test.false (c.loop-q.invariant.leans v l all)
