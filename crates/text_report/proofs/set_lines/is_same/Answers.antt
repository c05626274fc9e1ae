use Rattle.std.proofs.Common.{rules, ◌≡◌}
use Rattle.std.specs.Bool.{Decides}
use Rattle.std.proofs.lemmas.Slice.Eq.{slice_eq-Decides}
use Rattle.text_report.proofs.set_lines.is_same.Goals as goal

pub returns : goal.returns
returns c =
    let d : Decides c.eq.result (c.corners.result.now ≡ c.corners-2.result.now) = slice_eq-Decides (λ a b. search rules) c.corners.result.now c.corners-2.result.now c.eq.result c.eq.ensures in
    search (rules, d, c.corners.ensures.items, c.corners-2.ensures.items)
