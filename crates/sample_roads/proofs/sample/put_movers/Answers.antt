use Rattle.std.proofs.Common.{◌≡◌, ◌∙◌, ◌+◌, ◌*◌, ◌/◌, ◌%◌, ◌^◌, ◌++◌, ap, sym, refl, append-nil, arith, ℕ}
use Rattle.spot_terms.specs.Samples.{car, mover, draw, state_after, next_state}
use Rattle.sample_roads.specs.Written.{tokens_of}
use Rattle.sample_roads.proofs.Appended.{next_element}
use Rattle.sample_roads.proofs.Draws.{after_one, after_two}
use Rattle.sample_roads.proofs.sample.put_movers.Goals as goal

at_first : (seed s : ℕ) → s ≡ seed → s ≡ state_after seed (2 * 0)
unfolding state_after
at_first seed s e = e

pub loop-m-init : goal.loop-m-init
loop-m-init c = record {
  state = at_first c.args.seed c.new-random.result.state c.new-random.ensures;
  before = refl;
  tokens = sym (append-nil c.args.out.now.tokens);
}

pub loop-m-preserved : goal.loop-m-preserved
loop-m-preserved c =
    let m = c.loop-m.m in
    let seed = c.args.seed in
    let lanes = c.args.lanes in
    let at : 0 + m ≡ m = omega arith in
    let twice : 2 * (m + 1) ≡ 2 * m + 2 = omega arith in
    let one : c.draw-place.new.self.state ≡ state_after seed (2 * m + 1) = c.draw-place.ensures.state ∙ (ap next_state c.loop-m.invariant.state ∙ sym (after_one seed (2 * m))) in
    let two : c.draw-pace.new.self.state ≡ state_after seed (2 * m + 2) = c.draw-pace.ensures.state ∙ (ap next_state (c.draw-place.ensures.state ∙ ap next_state c.loop-m.invariant.state) ∙ sym (after_two seed (2 * m))) in
    let place : c.draw-place.result ≡ draw seed (2 * m + 1) 400 = c.draw-place.ensures.drawn ∙ ap (λ (s : ℕ). s / 2 ^ 33 % 400) one in
    let pace : 20 + c.draw-pace.result ≡ 20 + draw seed (2 * m + 2) 16 = ap (λ (s : ℕ). 20 + s) (c.draw-pace.ensures.drawn ∙ ap (λ (s : ℕ). s / 2 ^ 33 % 16) two) in
    record {
      state = two ∙ ap (state_after seed) (sym twice);
      before = c.put_mover.ensures.before ∙ c.loop-m.invariant.before;
      tokens = next_element (mover seed lanes) 0 m m c.args.out.now.tokens c.loop-m.out.tokens c.put_mover.new.out.tokens at c.loop-m.invariant.tokens
          (c.in_ok-put_mover.ensures.tokens ∙ (ap (λ (p : ℕ). c.loop-m.out.tokens ++ tokens_of (car lanes m p (20 + c.draw-pace.result))) place ∙ ap (λ (p : ℕ). c.loop-m.out.tokens ++ tokens_of (car lanes m (draw seed (2 * m + 1) 400) p)) pace));
    }
