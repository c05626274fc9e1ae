use Rattle.std.proofs.Common.{◌≡◌, ◌≤◌, ◌*◌, ◌+ℤ◌, ◌*ℤ◌, pos, arith, to_z, to_z-of_z, FitsSigned, w64}
use Rattle.std.specs.Prelude.{nat_abs}
use Rattle.std.proofs.lemmas.Int.{ints}
use Rattle.acc_occupancy.specs.Lines.{half, bend_way}
use Rattle.acc_occupancy.proofs.LineSizes.{product_within}
use Rattle.acc_occupancy.proofs.line.Line.bend.Goals as goal

pub overflow_add-self-2 : goal.overflow_add-self-2
overflow_add-self-2 c =
    let range = c.requires.range in
    let rise_small : nat_abs c.args.self.now.rise ≤ 40 = omega (arith, ints) in
    let more : nat_abs (pos c.args.rising *ℤ c.args.self.now.rise) ≤ 100_000 * 40 = product_within c.args.rising c.args.self.now.rise 100_000 40 c.requires.rising rise_small in
    let ticks : to_z w64 c.args.rising ≡ pos c.args.rising = omega (arith, ints) in
    let rise_fits : FitsSigned w64 c.args.self.now.rise = omega (arith, ints) in
    rw ticks (simp to_z-of_z (omega (arith, ints)))

pub overflow_add-self-3 : goal.overflow_add-self-3
overflow_add-self-3 c =
    let range = c.requires.range in
    let rise_small : nat_abs c.args.self.now.rise ≤ 40 = omega (arith, ints) in
    let more : nat_abs (pos c.args.rising *ℤ c.args.self.now.rise) ≤ 100_000 * 40 = product_within c.args.rising c.args.self.now.rise 100_000 40 c.requires.rising rise_small in
    let ticks : to_z w64 c.args.rising ≡ pos c.args.rising = omega (arith, ints) in
    let rise_fits : FitsSigned w64 c.args.self.now.rise = omega (arith, ints) in
    rw ticks (simp to_z-of_z (omega (arith, ints)))

pub half-requires : goal.half-requires
half-requires c =
    let range = c.requires.range in
    let rise_small : nat_abs c.args.self.now.rise ≤ 40 = omega (arith, ints) in
    let more : nat_abs (pos c.args.rising *ℤ c.args.self.now.rise) ≤ 100_000 * 40 = product_within c.args.rising c.args.self.now.rise 100_000 40 c.requires.rising rise_small in
    let ticks : to_z w64 c.args.rising ≡ pos c.args.rising = omega (arith, ints) in
    let rise_fits : FitsSigned w64 c.args.self.now.rise = omega (arith, ints) in
    rw ticks (simp to_z-of_z (omega (arith, ints)))

pub returns-clause-value : goal.returns-clause-value
unfolding bend_way
returns-clause-value c =
    let l = c.args.self.now in
    let range = c.requires.range in
    let rise_small : nat_abs l.rise ≤ 40 = omega (arith, ints) in
    let more : nat_abs (pos c.args.rising *ℤ l.rise) ≤ 100_000 * 40 = product_within c.args.rising l.rise 100_000 40 c.requires.rising rise_small in
    let ticks : to_z w64 c.args.rising ≡ pos c.args.rising = omega (arith, ints) in
    let rise_fits : FitsSigned w64 l.rise = omega (arith, ints) in
    let speed_fits : FitsSigned w64 l.speed = omega (arith, ints) in
    let cap_fits : FitsSigned w64 l.cap = omega (arith, ints) in
    let rounding_fits : FitsSigned w64 l.rounding = omega (arith, ints) in
    let more_fits : FitsSigned w64 (pos c.args.rising *ℤ l.rise) = omega (arith, ints) in
    let first_fits : FitsSigned w64 (l.speed +ℤ pos c.args.rising *ℤ l.rise) = omega (arith, ints) in
    let second_fits : FitsSigned w64 (l.speed +ℤ pos c.args.rising *ℤ l.rise +ℤ l.cap) = omega (arith, ints) in
    let third_fits : FitsSigned w64 (l.speed +ℤ pos c.args.rising *ℤ l.rise +ℤ l.cap +ℤ l.rounding) = omega (arith, ints) in
    let small = c.half.ensures.size in
    let half_fits : FitsSigned w64 c.half.result = omega (arith, ints) in
    let value : c.half.result ≡ half (l.speed +ℤ pos c.args.rising *ℤ l.rise +ℤ l.cap +ℤ l.rounding) = simp to_z-of_z at (rw ticks at c.half.ensures.value) in
    simp to_z-of_z value
