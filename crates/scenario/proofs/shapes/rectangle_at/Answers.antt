use Rattle.std.proofs.Common.{refl, ap, ◌∙◌, ◌/◌, ◌-◌}
use Rattle.scenario.proofs.shapes.rectangle_at.Goals as goal

pub returns-clause-is : goal.returns-clause-is
returns-clause-is c = record {
  l = c.size_at-length.result;
  w = c.size_at-width.result;
  r = c.half_diagonal.result;
  c = c.offset_at-offset.result;
  length = c.size_at-length.ensures.holds;
  width = c.size_at-width.ensures.holds;
  half = c.half_diagonal.ensures.least;
  offset = c.offset_at-offset.ensures.is;
  big_is = refl;
  small_is = c.saturating_sub.ensures ∙ ap (λ m. m / 2 - c.offset_at-offset.result) c.min.ensures;
}
