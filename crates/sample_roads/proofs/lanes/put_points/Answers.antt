use Rattle.std.proofs.Common.{◌≡◌, ◌∙◌, ◌+◌, ◌++◌, List, ap, arith, ℕ}
use Rattle.spot_terms.specs.Samples.{point, bound_point}
use Rattle.sample_roads.specs.Written.{tokens_of}
use Rattle.sample_roads.proofs.Appended.{next_element}
use Rattle.sample_roads.proofs.lanes.put_points.Goals as goal

pub loop-k-preserved : goal.loop-k-preserved
loop-k-preserved c =
    let k = c.loop-k.k in
    let y = c.args.y.now in
    let at : 0 + k ≡ k = omega arith in
    record {
      before = c.put_point.ensures.before ∙ c.loop-k.invariant.before;
      tokens = next_element (bound_point y) 0 k k c.args.out.now.tokens c.loop-k.out.tokens c.put_point.new.out.tokens at c.loop-k.invariant.tokens
          (c.in_ok-put_point.ensures.tokens ∙ ap (λ (x : List ℕ). c.loop-k.out.tokens ++ tokens_of (point x y)) c.format.ensures.text);
    }
