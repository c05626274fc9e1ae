use Rattle.std.proofs.Common.{◌≡◌, ◌≤◌, ℕ, ℤ, pos, List, length, sym, subst}
use Rattle.spot_terms.specs.Frames.{InFrame, IsFrameInOrder, frame_points}
use Rattle.spot_terms.specs.Hull.{InHull, IsHullOf}
use Rattle.spot_terms.specs.declared.plain.Pt.{Pt}
use Rattle.merge_sets.proofs.Merged.{ticks_read, ticks_within}
use Rattle.merge_sets.proofs.planes.polygon_of.Goals as goal

pub frame_poly-requires-clause-order : goal.frame_poly-requires-clause-order
frame_poly-requires-clause-order c = subst (λ (z : ℤ). IsFrameInOrder z c.args.numbers.now.n) (sym (ticks_read c.args.k c.from.result c.from.ensures c.requires.ticks.1)) c.requires.sound.order

pub frame_poly-requires-clause-range : goal.frame_poly-requires-clause-range
frame_poly-requires-clause-range c = c.requires.sound.eight.range

pub frame_poly-requires-clause-ticks : goal.frame_poly-requires-clause-ticks
frame_poly-requires-clause-ticks c = ticks_within c.args.k c.from.result c.from.ensures c.requires.ticks.0 c.requires.ticks.1

pub returns : goal.returns
returns c = record {
  frame = subst (λ (z : ℤ). IsHullOf (frame_points z c.args.numbers.now.n) c.frame_poly.result) (ticks_read c.args.k c.from.result c.from.ensures c.requires.ticks.1) c.frame_poly.ensures.hull;
  holds = subst (λ (z : ℤ). (q : Pt) → InFrame z c.args.numbers.now.n q → InHull c.frame_poly.result q) (ticks_read c.args.k c.from.result c.from.ensures c.requires.ticks.1) c.frame_poly.ensures.holds;
  few = c.frame_poly.ensures.few;
}
