use Rattle.std.proofs.Common.{rules}
use Rattle.area_run.specs.Strips.{HasPolygon}
use Rattle.area_run.proofs.KeptChildren.{still_kept}
use Rattle.area_run.proofs.children.keep.Goals as goal

pub returns-else-not-is_kept : goal.returns-else-not-is_kept
returns-else-not-is_kept c =
    let has : HasPolygon c.args.y.now c.args.kept.now = search (rules, c.is_kept.ensures, c.if-not-is_kept.false) in
    still_kept c.args.plan.now c.args.b.now c.args.y.now c.args.kept.now c.requires.kept has
