use Rattle.std.proofs.Common.{◌∙◌, pos, neg_ℤ, ◌+ℤ◌, ◌-ℤ◌}
use Rattle.std.specs.Prelude.{codes}
use Rattle.convex_poly.proofs.Wide.{back}
use Rattle.spot_terms.specs.Drawings.{rect_line}
use Rattle.svg_report.proofs.Appended.{next, next_number, plain, turned, counted}
use Rattle.svg_report.proofs.lines.put_rect.Goals as goal

pub returns : goal.returns
unfolding rect_line
returns c =
    let r = c.args.r.now in
    next (codes "\"/>\n") c.text-6.ensures.bytes
    (next_number (r.yhi -ℤ r.ylo +ℤ pos 1) c.put_number-4.ensures.bytes (back _ c.extent-2.type_inv ∙ counted r.ylo r.yhi c.requires.near.ylo c.requires.near.yhi c.extent-2.ensures.value)
    (next (codes "\" height=\"") c.text-5.ensures.bytes
    (next_number (r.xhi -ℤ r.xlo +ℤ pos 1) c.put_number-3.ensures.bytes (back _ c.extent.type_inv ∙ counted r.xlo r.xhi c.requires.near.xlo c.requires.near.xhi c.extent.ensures.value)
    (next (codes "\" width=\"") c.text-4.ensures.bytes
    (next_number (neg_ℤ r.yhi) c.put_number-2.ensures.bytes (back _ c.drawn_y.type_inv ∙ turned r.yhi c.requires.near.yhi c.drawn_y.ensures.value)
    (next (codes "\" y=\"") c.text-3.ensures.bytes
    (next_number r.xlo c.put_number.ensures.bytes (plain r.xlo c.requires.near.xlo)
    (next (codes "\" x=\"") c.text-2.ensures.bytes
    (next c.args.class.now c.text.ensures.bytes c.start.ensures)))))))))
