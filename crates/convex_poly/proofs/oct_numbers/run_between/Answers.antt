use Rattle.std.proofs.Common.{◌≡◌, ◌≤ℤ◌, ℤ, length, arith, w64, to_z-of_z, FitsSigned, rules, IsTrue, true, false}
use Rattle.std.proofs.lemmas.Int.{ints}
use Rattle.std.specs.Prelude.{◌↔◌}
use Rattle.convex_poly.specs.OctRows.{HasRows, IsEastwards, IsWestwards}
use Rattle.convex_poly.proofs.OctRuns.{oct_span, oct_none}
use Rattle.convex_poly.proofs.oct_numbers.run_between.Goals as goal
use Rattle.convex_poly.proofs.oct_numbers.run_between.Goals.{else-has_rows-via-then-has_rows+else-first-last, else-has_rows-via-else-has_rows}

pub returns-then-first-last : goal.returns-then-first-last
returns-then-first-last c =
    let eight : length c.args.n.now ≡ 8 = search rules in
    let low : FitsSigned w64 c.args.low = c.ranges.low in
    let high : FitsSigned w64 c.args.high = c.ranges.high in
    let first : FitsSigned w64 c.first_x-first.result = record { sfits = c.first_x-first.type_inv } in
    let last : FitsSigned w64 c.last_x-last.result = record { sfits = c.last_x-last.type_inv } in
    let firsts : (x : ℤ) → (c.first_x-first.result ≤ℤ x) ↔ IsEastwards c.args.n.now c.args.low c.args.high x = simp to_z-of_z at c.first_x-first.ensures in
    let lasts : (x : ℤ) → (x ≤ℤ c.last_x-last.result) ↔ IsWestwards c.args.n.now c.args.low c.args.high x = simp to_z-of_z at c.last_x-last.ensures in
    let rows : IsTrue c.has_rows.result → HasRows c.args.n.now c.args.low c.args.high = simp to_z-of_z at c.has_rows.ensures.0 in
    let t = c.if-first-last.true in
    let ordered : c.first_x-first.result ≤ℤ c.last_x-last.result = omega (arith, ints) in
    simp to_z-of_z (oct_span c.args.n.now c.args.low c.args.high c.first_x-first.result c.last_x-last.result c.requires.order firsts lasts eight (rows c.if-has_rows.true) ordered)

pub returns-else-has_rows : goal.returns-else-has_rows
returns-else-has_rows c =
    let low : FitsSigned w64 c.args.low = c.ranges.low in
    let high : FitsSigned w64 c.args.high = c.ranges.high in
    let firsts : (x : ℤ) → (c.first_x-first.result ≤ℤ x) ↔ IsEastwards c.args.n.now c.args.low c.args.high x = simp to_z-of_z at c.first_x-first.ensures in
    let lasts : (x : ℤ) → (x ≤ℤ c.last_x-last.result) ↔ IsWestwards c.args.n.now c.args.low c.args.high x = simp to_z-of_z at c.last_x-last.ensures in
    let rows : HasRows c.args.n.now c.args.low c.args.high → IsTrue c.has_rows.result = simp to_z-of_z at c.has_rows.ensures.1 in
    oct_none c.args.n.now c.args.low c.args.high c.first_x-first.result c.last_x-last.result c.requires.order firsts lasts
    (elim c.else-has_rows.branch [
      | else-has_rows-via-then-has_rows+else-first-last w ↦ (λ h o. let first : FitsSigned w64 c.first_x-first.result = record { sfits = c.first_x-first.type_inv } in
          let last : FitsSigned w64 c.last_x-last.result = record { sfits = c.last_x-last.type_inv } in
          let t = w.if-first-last.false in omega (arith, ints))
      | else-has_rows-via-else-has_rows w ↦ (λ h o. let yes : c.has_rows.result ≡ true = rows h in let no : c.has_rows.result ≡ false = w.if-has_rows.false in cc)
    ])
