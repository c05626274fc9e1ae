use Rattle.std.proofs.Common.{◌∙◌, pos, neg_ℤ, ◌+ℤ◌, ◌-ℤ◌}
use Rattle.std.specs.Prelude.{codes}
use Rattle.convex_poly.proofs.Wide.{back}
use Rattle.spot_terms.specs.Drawings.{first_line}
use Rattle.svg_report.proofs.Appended.{next, next_number, plain, turned, counted}
use Rattle.svg_report.proofs.lines.put_first.Goals as goal

pub returns : goal.returns
unfolding first_line
returns c =
    let o = c.args.o.now in
    next (codes "\">\n") c.text-4.ensures.bytes
    (next_number (o.yhi -ℤ o.ylo +ℤ pos 1) c.put_number-4.ensures.bytes (back _ c.extent-2.type_inv ∙ counted o.ylo o.yhi c.requires.ylo c.requires.yhi c.extent-2.ensures.value)
    (next (codes " ") c.text-3.ensures.bytes
    (next_number (o.xhi -ℤ o.xlo +ℤ pos 1) c.put_number-3.ensures.bytes (back _ c.extent.type_inv ∙ counted o.xlo o.xhi c.requires.xlo c.requires.xhi c.extent.ensures.value)
    (next (codes " ") c.text-2.ensures.bytes
    (next_number (neg_ℤ o.yhi) c.put_number-2.ensures.bytes (back _ c.drawn_y.type_inv ∙ turned o.yhi c.requires.yhi c.drawn_y.ensures.value)
    (next (codes " ") c.text.ensures.bytes
    (next_number o.xlo c.put_number.ensures.bytes (plain o.xlo c.requires.xlo) c.start.ensures)))))))
