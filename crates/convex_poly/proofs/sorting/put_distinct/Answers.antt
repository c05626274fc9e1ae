use Rattle.std.proofs.Common.{◌≡◌, ℕ, List, get_or, arith, subst, true, false, ◌+◌, ◌++◌, ◌∷◌, []}
use Rattle.spot_terms.specs.declared.plain.Pt.{Pt}
use Rattle.convex_poly.proofs.Corners.{origin}
use Rattle.convex_poly.proofs.Repeats.{IsKept, kept_push, kept_skip, kept_all}
use Rattle.convex_poly.proofs.sorting.put_distinct.Goals as goal
use Rattle.convex_poly.proofs.sorting.put_distinct.Goals.{then-i-eq0, then-i-eq0-via-then-i-eq0, then-i-eq0-via-else-i-eq0+then-not-is_same, else-i-eq0+else-not-is_same}

pub loop-i-preserved : goal.loop-i-preserved
loop-i-preserved c =
    let points : List Pt = c.args.points.now in
    let i : ℕ = c.loop-i.i in
    elim c.if-i-eq0.branch [
      | then-i-eq0 w ↦
          let e : c.if-i-eq0.kept.items ≡ c.loop-i.kept.items ++ get_or points i origin ∷ [] = cc in
          kept_push points c.loop-i.kept.items c.if-i-eq0.kept.items i origin c.loop-i-test.true c.requires.order c.loop-i.invariant
          (elim w.then-i-eq0.branch [
            | then-i-eq0-via-then-i-eq0 v ↦ (λ some same. omega arith)
            | then-i-eq0-via-else-i-eq0+then-not-is_same v ↦ (λ some same. let yes : v.is_same.result ≡ true = v.is_same.ensures.1 same in let no : v.is_same.result ≡ false = v.if-not-is_same.true in cc)
          ]) e
      | else-i-eq0+else-not-is_same w ↦
          let e : c.loop-i.kept.items ≡ c.if-i-eq0.kept.items = cc in
          subst (λ z. IsKept points z (i + 1)) e (kept_skip points c.loop-i.kept.items i origin c.loop-i-test.true c.loop-i.invariant (omega arith) (w.is_same.ensures.0 w.if-not-is_same.false))
    ]

pub returns-clause-all : goal.returns-clause-all
returns-clause-all c = kept_all c.args.points.now c.loop-i.kept.items c.loop-i.i c.loop-i-test.false c.loop-i.invariant
