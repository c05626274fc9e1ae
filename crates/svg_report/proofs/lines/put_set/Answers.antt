use Rattle.std.proofs.Common.{◌≡◌, ◌∙◌, ◌≤◌, arith, sym, subst, ap, ℕ, ℤ, List, to_z, of_z, w64}
use Rattle.std.specs.Prelude.{codes, nat_abs}
use Rattle.std.proofs.lemmas.Int.{ints}
use Rattle.spot_terms.specs.BaseSets.{Rect}
use Rattle.spot_terms.specs.Drawings.{rect_line}
use Rattle.svg_report.proofs.Appended.{plain_size}
use Rattle.svg_report.proofs.lines.put_set.Goals as goal

pub put_rect-requires-clause-near : goal.put_rect-requires-clause-near
put_rect-requires-clause-near c = record {
  xlo = plain_size c.rect-xlo.result.0 c.rect-xlo.ensures.least_x;
  xhi = plain_size c.rect-xlo.result.1 c.rect-xlo.ensures.greatest_x;
  ylo = plain_size c.rect-xlo.result.2 c.rect-xlo.ensures.least_y;
  yhi = plain_size c.rect-xlo.result.3 c.rect-xlo.ensures.greatest_y;
}
