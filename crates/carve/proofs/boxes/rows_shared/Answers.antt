use Rattle.std.proofs.Common.{rules, ◌≡◌, ◌∙◌, ◌≤◌, ℕ, ℤ, pos, arith, refl, sym, ap, subst, to_z-of_z, FitsSigned, w64, to_z, of_z}
use Rattle.std.specs.Int.{int_max, int_min}
use Rattle.std.proofs.lemmas.Int.{ints, clamps}
use Rattle.spot_terms.specs.Grid.{slot}
use Rattle.spot_terms.specs.Whole.{SizeAtMost, count_between}
use Rattle.carve.proofs.Shared.{max_small, min_small, shared_is, shared_few}
use Rattle.carve.proofs.boxes.rows_shared.Goals as goal
use Rattle.carve.proofs.boxes.rows_shared.Goals.{After-count, After-less}

first : (c : After-less) → c.greater.result ≡ int_max c.row_of.result c.row_of-2.result
first c =
    let a : FitsSigned w64 c.row_of.result = record { sfits = c.row_of.type_inv } in
    let b : FitsSigned w64 c.row_of-2.result = record { sfits = c.row_of-2.type_inv } in
    simp to_z-of_z at c.greater.ensures

last : (c : After-less) → c.less.result ≡ int_min c.row_of-3.result c.row_of-4.result
last c =
    let a : FitsSigned w64 c.row_of-3.result = record { sfits = c.row_of-3.type_inv } in
    let b : FitsSigned w64 c.row_of-4.result = record { sfits = c.row_of-4.type_inv } in
    simp to_z-of_z at c.less.ensures

fits : (x : ℤ) → SizeAtMost 40_000_000_000_000 x → FitsSigned w64 x
fits x h = omega (arith, ints)

pub count-requires-clause-first : goal.count-requires-clause-first
count-requires-clause-first c =
    let m : FitsSigned w64 c.greater.result = record { sfits = c.greater.type_inv } in
    simp to_z-of_z (max_small c.greater.result c.row_of.result c.row_of-2.result (first c) c.row_of.ensures.small c.row_of-2.ensures.small)

pub count-requires-clause-last : goal.count-requires-clause-last
count-requires-clause-last c =
    let m : FitsSigned w64 c.less.result = record { sfits = c.less.type_inv } in
    simp to_z-of_z (min_small c.less.result c.row_of-3.result c.row_of-4.result (last c) c.row_of-3.ensures.small c.row_of-4.ensures.small)

counted : (c : After-count) → c.count.result ≡ count_between c.greater.result c.less.result
counted c =
    let m : FitsSigned w64 c.greater.result = record { sfits = c.greater.type_inv } in
    let n : FitsSigned w64 c.less.result = record { sfits = c.less.type_inv } in
    simp to_z-of_z at c.count.ensures

pub returns-clause-value : goal.returns-clause-value
returns-clause-value c =
    let low : FitsSigned w64 c.args.low = c.ranges.low in
    let high : FitsSigned w64 c.args.high = c.ranges.high in
    let height : FitsSigned w64 c.args.g = c.ranges.g in
    let ylo : FitsSigned w64 c.args.b.now.ylo = fits _ c.requires.reach.ylo in
    let yhi : FitsSigned w64 c.args.b.now.yhi = fits _ c.requires.reach.yhi in
    let a : c.row_of.result ≡ slot c.args.g c.args.low = simp to_z-of_z at c.row_of.ensures.value in
    let b : c.row_of-2.result ≡ slot c.args.g c.args.b.now.ylo = simp to_z-of_z at c.row_of-2.ensures.value in
    let d : c.row_of-3.result ≡ slot c.args.g c.args.high = simp to_z-of_z at c.row_of-3.ensures.value in
    let e : c.row_of-4.result ≡ slot c.args.g c.args.b.now.yhi = simp to_z-of_z at c.row_of-4.ensures.value in
    counted c ∙ shared_is c.args.g c.args.low c.args.high c.args.b.now.ylo c.args.b.now.yhi c.greater.result c.less.result c.row_of.result c.row_of-2.result c.row_of-3.result c.row_of-4.result
    c.requires.order c.requires.reach.y (first c.before) (last c.before) a b d e

pub returns-clause-few : goal.returns-clause-few
returns-clause-few c =
    let ylo : FitsSigned w64 c.args.b.now.ylo = fits _ c.requires.reach.ylo in
    let yhi : FitsSigned w64 c.args.b.now.yhi = fits _ c.requires.reach.yhi in
    let b : SizeAtMost 400_000_000 c.row_of-2.result = c.row_of-2.ensures.near (simp to_z-of_z c.requires.reach.ylo) in
    let d : SizeAtMost 400_000_000 c.row_of-4.result = c.row_of-4.ensures.near (simp to_z-of_z c.requires.reach.yhi) in
    subst (λ (n : ℕ). n ≤ 1_000_000_000) (sym (counted c)) (shared_few c.greater.result c.less.result c.row_of.result c.row_of-2.result c.row_of-3.result c.row_of-4.result (first c.before) (last c.before) b d)
