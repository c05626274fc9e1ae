use Rattle.std.proofs.Common.{◌≡◌, arith, IsTrue, true, false, w64, to_z-of_z, FitsSigned}
use Rattle.std.proofs.lemmas.Int.{ints}
use Rattle.convex_poly.specs.Runs.{IsBetween}
use Rattle.convex_poly.proofs.RunRows.{box_run}
use Rattle.convex_poly.proofs.runs.boxed.Goals as goal
use Rattle.convex_poly.proofs.runs.boxed.Goals.{else-is_between-via-then-is_between+else-is_between-2, else-is_between-via-else-is_between}

pub returns-then-is_between-2 : goal.returns-then-is_between-2
returns-then-is_between-2 c =
    let ax : FitsSigned w64 c.args.from.now.x = omega (arith, ints, c.requires.from_in.x) in
    let ay : FitsSigned w64 c.args.from.now.y = omega (arith, ints, c.requires.from_in.y) in
    let bx : FitsSigned w64 c.args.to.now.x = omega (arith, ints, c.requires.to_in.x) in
    let by : FitsSigned w64 c.args.to.now.y = omega (arith, ints, c.requires.to_in.y) in
    let y0 : FitsSigned w64 c.args.y0 = c.ranges.y0 in
    let y1 : FitsSigned w64 c.args.y1 = c.ranges.y1 in
    let first : IsBetween c.args.from.now.y c.args.to.now.y c.args.y0 = simp to_z-of_z at (c.is_between.ensures.0 c.if-is_between.true) in
    let second : IsBetween c.args.from.now.y c.args.to.now.y c.args.y1 = simp to_z-of_z at (c.is_between-then-is_between.ensures.0 c.if-is_between-2.true) in
    simp to_z-of_z (box_run c.args.from.now c.args.to.now c.args.y0 c.args.y1 c.requires.ordered first second)

pub returns-else-is_between : goal.returns-else-is_between
returns-else-is_between c x box =
    let ay : FitsSigned w64 c.args.from.now.y = omega (arith, ints, c.requires.from_in.y) in
    let by : FitsSigned w64 c.args.to.now.y = omega (arith, ints, c.requires.to_in.y) in
    let y0 : FitsSigned w64 c.args.y0 = c.ranges.y0 in
    let y1 : FitsSigned w64 c.args.y1 = c.ranges.y1 in
    elim c.else-is_between.branch [
      | else-is_between-via-then-is_between+else-is_between-2 w ↦
          (let test : IsBetween c.args.from.now.y c.args.to.now.y c.args.y1 → IsTrue w.is_between-then-is_between.result = simp to_z-of_z at w.is_between-then-is_between.ensures.1 in
          let yes : w.is_between-then-is_between.result ≡ true = test box.2 in
          let no : w.is_between-then-is_between.result ≡ false = w.if-is_between-2.false in cc)
      | else-is_between-via-else-is_between w ↦
          (let test : IsBetween c.args.from.now.y c.args.to.now.y c.args.y0 → IsTrue c.is_between.result = simp to_z-of_z at c.is_between.ensures.1 in
          let yes : c.is_between.result ≡ true = test box.1 in
          let no : c.is_between.result ≡ false = w.if-is_between.false in cc)
    ]
