-- The states of the generator.
use Rattle.std.proofs.Common.{◌≡◌, ◌∙◌, ℕ, suc, ◌+◌, ap, arith}
use Rattle.spot_terms.specs.Samples.{state_after, next_state}

pub after_one : (seed k : ℕ) → state_after seed (k + 1) ≡ next_state (state_after seed k)
unfolding state_after
after_one seed k = let e : k + 1 ≡ suc k = omega arith in ap (state_after seed) e

pub after_two : (seed k : ℕ) → state_after seed (k + 2) ≡ next_state (next_state (state_after seed k))
after_two seed k = let e : k + 2 ≡ k + 1 + 1 = omega arith in ap (state_after seed) e ∙ (after_one seed (k + 1) ∙ ap next_state (after_one seed k))
