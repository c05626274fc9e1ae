use Rattle.std.proofs.Common.{◌≡◌, rules, pos, ◌*◌, w64, to_z, of_z}
use Rattle.area_report.proofs.Egos.{ego_is}
use Rattle.area_report.proofs.problem.line_of.Goals as goal

pub returns : goal.returns
returns c =
    let command = c.args.command.now in
    let problem = c.args.problem.now in
    let a : to_z w64 (of_z w64 c.from.result) ≡ pos command.ego_acc = search (rules, c.from.ensures) in
    let v : to_z w64 (of_z w64 c.thousandths.result) ≡ pos (1000 * command.ego_speed) = search (rules, c.thousandths.ensures) in
    let w : to_z w64 (of_z w64 c.thousandths-2.result) ≡ pos (1000 * command.cell_x) = search (rules, c.thousandths-2.ensures) in
    let g : to_z w64 (of_z w64 c.thousandths-3.result) ≡ pos (1000 * command.cell_y) = search (rules, c.thousandths-3.ensures) in
    let x : to_z w64 (of_z w64 problem.x) ≡ problem.x = search rules in
    let y : to_z w64 (of_z w64 problem.y) ≡ problem.y = search rules in
    let s : to_z w64 (of_z w64 problem.speed) ≡ problem.speed = search rules in
    let t : to_z w64 (of_z w64 problem.angle) ≡ problem.angle = search rules in
    ego_is command problem _ _ _ _ _ _ _ _ c.velocity_box.result c.requires.command c.requires.problem a v w g x y s t c.velocity_box.ensures.value c.velocity_box.ensures.holds c.velocity_box.ensures.range
