use Rattle.std.proofs.Common.{rules, ◌≡◌, ℤ, pos, ◌+ℤ◌, ◌-ℤ◌, nat_abs, arith, w64, FitsSigned, to_z, to_z-of_z, ◌≤◌, ◌*◌, ◌+◌, ◌<◌, ℕ, mul-le-mul, subst}
use Rattle.std.specs.Prelude.{max, Some}
use Rattle.std.proofs.lemmas.Int.{ints}
use Rattle.replay_sets.specs.Halves.{IsHalf}
use Rattle.replay_sets.proofs.Rows.{disc_span, disc_none, below_square}
use Rattle.replay_sets.proofs.runs.run_of.Goals as goal

fits_near : (x : ℤ) → nat_abs x ≤ 40_000_000_000_000 → FitsSigned w64 x
fits_near x h = omega (arith, ints)

pub returns-in_err-half : goal.returns-in_err-half
returns-in_err-half c =
    let f0 : FitsSigned w64 c.args.y0 = c.ranges.y0 in
    let f1 : FitsSigned w64 c.args.y1 = c.ranges.y1 in
    let fy : FitsSigned w64 c.args.p.y = fits_near c.args.p.y c.requires.y in
    let g : c.greater_rise.result ≡ max (nat_abs (c.args.y0 -ℤ c.args.p.y)) (nat_abs (c.args.y1 -ℤ c.args.p.y)) = simp to_z-of_z at c.greater_rise.ensures in
    rw c.from_residual.ensures (λ x k. disc_none c.args.p c.args.r c.args.y0 c.args.y1 x (subst (λ (n : ℕ). c.args.r < n) g c.in_err-half.ensures) k)

half_small : (r h rise : ℕ) → r ≤ 400_000_000 → h * h + rise * rise ≤ r * r → h ≤ 400_000_000
half_small r h rise a b = below_square h 400_000_000 (rise * rise) (r * r) b (let k : r * r ≤ 400_000_000 * 400_000_000 = mul-le-mul a a in omega arith)

fits_moved : (x : ℤ) (h : ℕ) → nat_abs x ≤ 40_000_000_000_000 → h ≤ 400_000_000 → FitsSigned w64 (x -ℤ pos h) × FitsSigned w64 (x +ℤ pos h)
fits_moved x h a b = (omega (arith, ints), omega (arith, ints))

pub returns : goal.returns
returns c =
    let f0 : FitsSigned w64 c.args.y0 = c.ranges.y0 in
    let f1 : FitsSigned w64 c.args.y1 = c.ranges.y1 in
    let fy : FitsSigned w64 c.args.p.y = fits_near c.args.p.y c.requires.y in
    let fx : FitsSigned w64 c.args.p.x = fits_near c.args.p.x c.requires.x in
    let g : c.greater_rise.result ≡ max (nat_abs (c.args.y0 -ℤ c.args.p.y)) (nat_abs (c.args.y1 -ℤ c.args.p.y)) = simp to_z-of_z at c.greater_rise.ensures in
    let small = half_small c.args.r c.in_ok-half.field-0 c.greater_rise.result c.requires.radius c.in_ok-half.ensures.0 in
    let is : to_z w64 c.in_ok-half.field-0 ≡ pos c.in_ok-half.field-0 = search (rules, small) in
    let fa : FitsSigned w64 (c.args.p.x -ℤ pos c.in_ok-half.field-0) = (fits_moved c.args.p.x c.in_ok-half.field-0 c.requires.x small).0 in
    let fb : FitsSigned w64 (c.args.p.x +ℤ pos c.in_ok-half.field-0) = (fits_moved c.args.p.x c.in_ok-half.field-0 c.requires.x small).1 in
    simp (to_z-of_z, is) (disc_span c.args.p c.args.r c.in_ok-half.field-0 c.args.y0 c.args.y1 (subst (λ (n : ℕ). IsHalf c.args.r n (Some c.in_ok-half.field-0)) g c.in_ok-half.ensures))
