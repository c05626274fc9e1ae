use Rattle.std.proofs.Common.{◌≡◌, ◌∙◌, ◌+◌, arith}
use Rattle.spot_terms.specs.Samples.{lanelet}
use Rattle.sample_roads.proofs.Appended.{next_element}
use Rattle.sample_roads.proofs.lanes.put_lanelets.Goals as goal

pub loop-k-preserved : goal.loop-k-preserved
loop-k-preserved c =
    let k = c.loop-k.k in
    let at : 1 + k ≡ k + 1 = omega arith in
    record {
      before = c.put_lanelet.ensures.before ∙ c.loop-k.invariant.before;
      tokens = next_element (lanelet c.args.lanes) 1 k (k + 1) c.args.out.now.tokens c.loop-k.out.tokens c.put_lanelet.new.out.tokens at c.loop-k.invariant.tokens c.in_ok-put_lanelet.ensures.tokens;
    }
