use Rattle.std.proofs.Common.{ℕ}
use Rattle.spot_terms.proofs.ListLemmas.{all_append}
use Rattle.convex_poly.specs.declared.oct_numbers.OctNumbers.{OctNumbers}
use Rattle.participants.specs.Predictions.{IsSmall}
use Rattle.participants.proofs.Octagons.{fixed-more}
use Rattle.participants.proofs.prediction.fixed_of.Goals as goal

pub loop-f-preserved : goal.loop-f-preserved
loop-f-preserved c = record {
  exact = rw c.in_ok-push.ensures.items (fixed-more c.list-f-items.result.now c.args.s.now.fixed c.loop-f.f-index _ c.loop-f.fixed.items c.octagon_of.result
      c.list-f-items.ensures c.loop-f-test.true c.loop-f.invariant.exact c.octagon_of.ensures.value);
  small = rw c.in_ok-push.ensures.items (all_append (λ (f : ℕ × OctNumbers). IsSmall f.1) c.loop-f.fixed.items _ c.loop-f.invariant.small (c.octagon_of.ensures.small, tt));
}
