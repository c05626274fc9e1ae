use Rattle.std.proofs.Common.{◌≡◌, inl, inr, true, false}
use Rattle.lane_paths.proofs.FarBoxes.{far_boxes, far_first, far_second}
use Rattle.lane_paths.proofs.gaps.are_far.Goals as goal

pub returns-then-is_far : goal.returns-then-is_far
returns-then-is_far c = λ a b h k. (
  (λ yes. far_first a b c.args.a_box.now c.args.b_box.now h k (c.is_far.ensures.0 yes)),
  (λ far. c.if-is_far.true),
)

pub returns-else-is_far : goal.returns-else-is_far
returns-else-is_far c = λ a b h k. (
  (λ yes. far_second a b c.args.a_box.now c.args.b_box.now h k (c.is_far-else-is_far.ensures.0 yes)),
  (λ far. elim (far_boxes a b c.args.a_box.now c.args.b_box.now h k far) [
    | inl f ↦ absurd (let yes : c.is_far.result ≡ true = c.is_far.ensures.1 f in let no : c.is_far.result ≡ false = c.if-is_far.false in cc)
    | inr f ↦ c.is_far-else-is_far.ensures.1 f
  ]),
)
