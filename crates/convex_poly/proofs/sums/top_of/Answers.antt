use Rattle.std.proofs.Common.{◌≡◌, true, false}
use Rattle.convex_poly.proofs.Tops.{summand_positions, top_here, top_later}
use Rattle.convex_poly.proofs.sums.top_of.Goals as goal

pub loop-top-preserved : goal.loop-top-preserved
loop-top-preserved c = record {
  within = c.loop-top-test.true;
  up = top_later c.args.corners.now c.loop-top.top _ c.loop-top.invariant.up c.loop-top-test.true (c.is_before.ensures.0 c.if-is_before.true);
}

pub returns-else-is_before : goal.returns-else-is_before
returns-else-is_before c =
    top_here c.args.corners.now (summand_positions c.args.corners.now c.requires.positions) c.requires.convex c.loop-top.top _ c.loop-top.invariant.up c.loop-top-test.true
    (λ later. let yes : c.is_before.result ≡ true = c.is_before.ensures.1 later in let no : c.is_before.result ≡ false = c.if-is_before.false in cc)
