use Rattle.std.specs.Prelude.{codes}
use Rattle.spot_terms.specs.Drawings.{polygon_line, points_text}
use Rattle.svg_report.proofs.Appended.{next}
use Rattle.svg_report.proofs.lines.put_polygon.Goals as goal

pub returns : goal.returns
unfolding polygon_line
returns c = next (codes "\"/>\n") c.text.ensures.bytes (next (points_text c.args.p.now) c.put_points.ensures.bytes c.start.ensures)
